-- One square a turn: what is put on and what remains are the whole list.
use mathlib.Core.Path.{ap, ◌∙◌}
use Prim.Native.Nat.{◌^◌, ◌<◌}
use native.Mathlib.Omega.{arith}
use Rattle.squares.specs.Sets.{lowest}
use Rattle.squares.specs.Squares.{square_at_bit}
use Rattle.squares.proofs.Loops.{cleared}
use Rattle.texts.proofs.Writers.{square_lt}
use Rattle.notation.proofs.MoveTexts.{taken_turn, taken_done}
use Rattle.notation.proofs.moves.put_taken.Goals as goal

pub overflow_cast-n : goal.overflow_cast-n
overflow_cast-n c = omega (arith, c.from_bit-n.ensures ∙ ap square_at_bit c.in-Some.ensures.steps.1, square_lt (lowest c.loop-bit.bit-iterator.0))

pub loop-bit-preserved : goal.loop-bit-preserved
loop-bit-preserved c =
    let left = c.loop-bit.bit-iterator.0 in
    let s = c.in-Some.ensures.steps in
    let h : left < 2 ^ 64 = c.loop-bit.invariant.0 in
    rw s.2
    (omega (arith, cleared left s.0, h), taken_turn left _ _ _ _ _ s.0 h (c.from_bit-n.ensures ∙ ap square_at_bit s.1) c.loop-bit.invariant.1 c.put_byte.ensures c.put_digits.ensures)

pub returns : goal.returns
returns c = taken_done c.loop-bit.bit-iterator.0 _ _ c.in-None.ensures.steps.0 c.loop-bit.invariant.1
