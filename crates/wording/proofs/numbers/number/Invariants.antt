-- Digit by digit: what was read so far is a number, and the rest goes on from it.
use mathlib.Core.Path.{◌≡◌}
use Prim.Native.Nat.{◌≤◌}
use lib.ListN.{drop}
use Rattle.wording.specs.Numbers.{number_in, value_from}
use Rattle.wording.proofs.numbers.number.Given as goal

abbrev pub invariant-loop-b : goal.invariant-loop-b
invariant-loop-b l = (l.v ≤ l.limit) × (number_in l.base l.limit l.s ≡ value_from l.base l.limit l.v (drop l.b-index l.s))
