-- One square a turn: what is put on and what remains are the whole list.
use mathlib.Core.Path.{◌≡◌}
use Prim.Native.Nat.{◌<◌, ◌^◌}
use Rattle.squares.specs.Sets.{members}
use Rattle.texts.specs.Lent.{over}
use Rattle.notation.specs.MoveText.{taken_text}
use Rattle.notation.proofs.moves.put_taken.Given as goal

abbrev pub invariant-loop-bit : goal.invariant-loop-bit
invariant-loop-bit l =
    (l.bit-iterator.0 < 2 ^ 64) × (over (taken_text (members l.bit-iterator.0)) l.out ≡ over (taken_text (members l.set)) l.initial.out)
