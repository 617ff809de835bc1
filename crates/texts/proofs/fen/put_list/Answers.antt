-- The first square, then one a turn: what is put on and what remains are the whole list.
use mathlib.Core.Path.{ap, ◌∙◌}
use Prim.Native.Nat.{◌^◌, ◌<◌}
use native.Mathlib.Omega.{arith}
use Rattle.squares.specs.Squares.{square_at_bit}
use Rattle.squares.proofs.Loops.{cleared}
use Rattle.texts.proofs.Writers as laws
use Rattle.texts.proofs.fen.put_list.Goals as goal

pub loop-bit-init : goal.loop-bit-init
loop-bit-init c =
    let s = c.in-Some.ensures.steps in
    rw (c.into_iter-bit-iterator.ensures.into_iter_gives, s.2)
    (omega (arith, cleared c.args.set s.0, c.ranges.set.fits), laws.list_first c.args.kings c.args.set _ _ _ s.0 c.ranges.set.fits (c.from_bit.ensures ∙ ap square_at_bit s.1) c.put_item.ensures)

pub loop-bit-preserved : goal.loop-bit-preserved
loop-bit-preserved c =
    let left = c.loop-bit.bit-iterator.0 in
    let s = c.in-Some-bit.ensures.steps in
    let h : left < 2 ^ 64 = c.loop-bit.invariant.0 in
    rw s.2
    (omega (arith, cleared left s.0, h), laws.list_turn c.args.kings left _ _ _ s.0 h (c.from_bit-in-loop-bit.ensures ∙ ap square_at_bit s.1) _ _ c.loop-bit.invariant.1 c.put_byte.ensures c.put_item-in-loop-bit.ensures)

pub returns : goal.returns
returns c = laws.list_done c.args.kings c.loop-bit.bit-iterator.0 _ _ c.in-None.ensures.steps.0 c.loop-bit.invariant.1
