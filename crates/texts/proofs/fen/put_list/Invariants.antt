-- One square a turn: what is put on and what remains are the whole list.
use mathlib.Core.Path.{◌≡◌}
use Prim.Native.Nat.{◌<◌, ◌^◌}
use Rattle.texts.proofs.Writers.{later}
use Rattle.texts.specs.Fen.{list_text}
use Rattle.texts.specs.Lent.{over}
use Rattle.squares.specs.Sets.{members}
use Rattle.texts.proofs.fen.put_list.Given as goal

abbrev pub invariant-loop-bit : goal.invariant-loop-bit
invariant-loop-bit l =
    (l.bit-iterator.0 < 2 ^ 64) × (over (later l.kings (members l.bit-iterator.0)) l.out ≡ over (list_text l.kings l.set) l.fn.out)
