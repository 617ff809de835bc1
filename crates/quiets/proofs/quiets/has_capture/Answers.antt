-- The chain asks the men in the four directions; then the kings are asked.
use Rattle.std.proofs.Common.{◌||◌, ap₂, ◌∙◌, arith, rules, tests}
use Rattle.std.proofs.lemmas.Iterator.{YieldsList-from_range}
use Rattle.std.proofs.lemmas.Iterator.Search.{any_from_yields_List}
use Rattle.captures.proofs.Some.{any_four}
use Rattle.quiets.specs.Tests.{men_jump, has_capture_of}
use Rattle.quiets.proofs.quiets.has_capture.Goals as goal

pub returns : goal.returns
unfolding has_capture_of
returns c =
    let p = men_jump c.args.s.men c.args.s.them c.args.s.empty in
    ap₂ ◌||◌
    (any_from_yields_List p _ _ c.any.result c.any.ensures.ran (YieldsList-from_range 0 4 4 (cc) (omega arith)) (λ x b q k. search (rules, tests)) ∙ any_four p)
    c.kings_open.ensures
