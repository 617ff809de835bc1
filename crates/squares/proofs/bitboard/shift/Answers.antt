-- The set is shifted by the number of places that the table's entry says: up where it is below 0, down where it is not.
use Rattle.squares.proofs.Steps.{index_lt, same_direction, up, down}
use Rattle.squares.proofs.bitboard.shift.Goals as goal

pub returns-then-step-lt0 : goal.returns-then-step-lt0
returns-then-step-lt0 c =
    let e = c.min.ensures in
    rw (← same_direction _ _ e, c.unsigned_abs-places.ensures.value) ((up _ (index_lt _ _ e) c.if-step-lt0.true).by_size c.args.set)

pub returns-else-step-lt0 : goal.returns-else-step-lt0
returns-else-step-lt0 c =
    let e = c.min.ensures in
    rw (← same_direction _ _ e, c.unsigned_abs-places.ensures.value) ((down _ (index_lt _ _ e) c.if-step-lt0.false).shifts c.args.set)
