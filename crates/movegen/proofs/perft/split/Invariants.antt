-- Each turn stores the count below one move of the list of the rules; a refusal is that of the whole count.
use Prim.Native.Nat.{◌≤◌}
use Rattle.movegen.specs.Generate.{seen}
use Rattle.movegen.proofs.Divided.{Dividing}
use Rattle.movegen.proofs.perft.split.Given as goal

abbrev pub invariant-loop-i : goal.invariant-loop-i
invariant-loop-i l = (l.i ≤ l.i-end) × Dividing l.plies (seen l.v) l.counts l.i
