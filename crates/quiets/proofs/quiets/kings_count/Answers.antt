-- The sum of the kings' moves; 64 kings have at most 16,384.
use Rattle.std.proofs.Common.{◌^◌, ◌∙◌, arith, rules, tests, ℕ, length}
use Rattle.std.proofs.lemmas.Iterator.{YieldsList-from_map}
use Rattle.std.proofs.lemmas.Iterator.Consumers.{sum_by_from_yields_List, fits_by_from_yields_list}
use Rattle.squares.specs.Sets.{members}
use Rattle.squares.proofs.Singles.{ones_of, singles_all}
use Rattle.captures.specs.Walks.{up_to}
use Rattle.quiets.specs.Quiets.{flight_of, king_quiets}
use Rattle.quiets.proofs.Counts.{kings_sum, kings_most}
use Rattle.quiets.proofs.quiets.kings_count.Goals as goal

pub sum-requires-clause-fits : goal.sum-requires-clause-fits
unfolding king_quiets
sum-requires-clause-fits c =
    let h = λ (at : ℕ). length (up_to (flight_of at c.args.s.empty) 4) in
    fits_by_from_yields_list h (ones_of c.args.s.kings) _ (2 ^ 32)
    (YieldsList-from_map _ h (singles_all _ c.args.s.kings (cc) (search rules)) c.map.ensures.closure (λ x r q k. search (rules, tests)))
    (omega (arith, kings_sum c.args.s.empty (members c.args.s.kings), kings_most c.args.s.kings c.args.s.empty))

pub returns : goal.returns
unfolding king_quiets
returns c =
    let h = λ (at : ℕ). length (up_to (flight_of at c.args.s.empty) 4) in
    sum_by_from_yields_List h (ones_of c.args.s.kings) _ c.sum.result c.sum.ensures.ran
    (YieldsList-from_map _ h (singles_all _ c.args.s.kings (cc) (search rules)) c.map.ensures.closure (λ x r q k. search (rules, tests)))
    ∙ kings_sum c.args.s.empty (members c.args.s.kings)
