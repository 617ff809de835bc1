-- The chain asks the kings in turn, the lowest first.
use Rattle.std.proofs.Common.{rules, tests, refl, ◌∙◌, ℕ, bit_or}
use Rattle.std.proofs.lemmas.Iterator.Search.{any_from_yields_List}
use Rattle.squares.specs.Sets.{members}
use Rattle.squares.proofs.Singles.{singles_all}
use Rattle.captures.specs.Open.{king_jump}
use Rattle.captures.specs.Walks.{any_up_to}
use Rattle.quiets.specs.Tests.{king_open}
use Rattle.quiets.proofs.Some.{any_ones}
use Rattle.quiets.proofs.quiets.kings_open.Goals as goal

pub returns : goal.returns
unfolding king_open
returns c =
    let s = c.args.s in
    let p = λ (at : ℕ). any_up_to (king_jump at s.them (bit_or s.empty at)) 4 in
    any_from_yields_List p _ _ c.any.result c.any.ensures.ran (singles_all _ s.kings refl (search rules)) (λ x b q k. search (rules, tests))
    ∙ any_ones p (king_open s.them s.empty) (λ i. refl) (members s.kings)
