-- The men are asked in their two directions, the kings in all four.
use mathlib.Core.Path.{ap₂, ◌∙◌}
use mathlib.Core.Bool.{◌||◌}
use Rattle.captures.specs.Walks.{any_up_to}
use Rattle.quiets.specs.Tests.{steps_open, has_quiet_of}
use Rattle.quiets.proofs.Forward.{two_forward}
use Rattle.quiets.proofs.quiets.has_quiet.Goals as goal

pub returns : goal.returns
unfolding has_quiet_of any_up_to
returns c =
    let p = steps_open c.args.s.men c.args.s.empty in
    ap₂ ◌||◌
    (ap₂ ◌||◌ c.steps.ensures c.steps-2.ensures ∙ two_forward p c.args.s.side _ _ c.forward-left.ensures.left c.forward-left.ensures.right)
    (ap₂ ◌||◌ (ap₂ ◌||◌ (ap₂ ◌||◌ c.steps-3.ensures c.steps-4.ensures) c.steps-5.ensures) c.steps-6.ensures)
