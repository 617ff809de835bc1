-- The chain asks the four directions in turn.
use Rattle.std.proofs.Common.{◌∙◌, arith, rules, tests, ℕ, eqb, not, bit_and}
use Rattle.std.proofs.lemmas.Iterator.{YieldsList-from_range}
use Rattle.std.proofs.lemmas.Iterator.Search.{any_from_yields_List}
use Rattle.squares.specs.Directions.{direction_at, shifted}
use Rattle.captures.proofs.Some.{any_four}
use Rattle.captures.proofs.movegen.jump_open.Goals as goal

pub returns : goal.returns
returns g c h k =
    let p = λ (d : ℕ). not (eqb (bit_and (shifted (direction_at d) (bit_and (h d) c.args.them)) c.args.empty) 0) in
    any_from_yields_List p _ _ c.any.result c.any.ensures.ran (YieldsList-from_range 0 4 4 (cc) (omega arith)) (λ x b q z. search (rules, tests))
    ∙ any_four p
