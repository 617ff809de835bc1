-- Byte by byte.
use mathlib.Core.Path.{◌≡◌}
use Rattle.texts.specs.Lent.{over}
use Rattle.wording.proofs.escapes.put_plain.Given as goal

abbrev pub invariant-loop-b : goal.invariant-loop-b
invariant-loop-b l = l.out ≡ over l.yielded l.initial.out
