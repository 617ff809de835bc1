-- A list of steps is as long as the set of squares reached.
use native.Mathlib.Omega.{arith}
use Rattle.quiets.proofs.Counts.{at_most, kings_at_most, all_sum}
use Rattle.quiets.proofs.quiets.quiet_count.Goals as goal

pub overflow_add-steps : goal.overflow_add-steps
overflow_add-steps c = omega (arith, at_most _ _ c.count-a.ensures, at_most _ _ c.count-b.ensures)

pub overflow_add-result : goal.overflow_add-result
overflow_add-result c =
    omega (arith, at_most _ _ c.count-a.ensures, at_most _ _ c.count-b.ensures, kings_at_most _ _ _ c.kings_count.ensures)

pub returns : goal.returns
returns c =
    let s = c.args.s in
    all_sum s.men s.kings s.empty s.side _ _ _ _ _ _ _ c.forward-left.ensures.left c.forward-left.ensures.right c.shift.ensures c.shift-2.ensures c.count-a.ensures c.count-b.ensures c.kings_count.ensures
