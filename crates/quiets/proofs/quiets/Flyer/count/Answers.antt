-- The four flights add up to the king's moves; each has at most 64 squares.
use Rattle.std.proofs.Common.{arith}
use Rattle.quiets.proofs.Counts.{few, four_flights}
use Rattle.quiets.proofs.quiets.Flyer.count.Goals as goal

pub overflow_add-up : goal.overflow_add-up
overflow_add-up c = omega (arith, few _ _ _ _ c.reach.ensures, few _ _ _ _ c.reach-2.ensures)

pub overflow_add-down : goal.overflow_add-down
overflow_add-down c = omega (arith, few _ _ _ _ c.reach-3.ensures, few _ _ _ _ c.reach-4.ensures)

pub overflow_add-result : goal.overflow_add-result
overflow_add-result c =
    omega (arith, few _ _ _ _ c.reach.ensures, few _ _ _ _ c.reach-2.ensures, few _ _ _ _ c.reach-3.ensures, few _ _ _ _ c.reach-4.ensures)

pub returns : goal.returns
returns c =
    let k = c.args.self in
    omega (arith, four_flights k.at k.empty, c.reach.ensures, c.reach-2.ensures, c.reach-3.ensures, c.reach-4.ensures)
