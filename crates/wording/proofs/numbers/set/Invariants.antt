-- The definition drops each 0x that was dropped so far.
use mathlib.Core.Path.{◌≡◌}
use lib.ListN.{length}
use Rattle.wording.specs.Numbers.{without_prefix}
use Rattle.wording.proofs.numbers.set.Given as goal

abbrev pub invariant-loop-rest : goal.invariant-loop-rest
invariant-loop-rest l = without_prefix l.s ≡ without_prefix l.digits

abbrev pub decreases-loop-rest : goal.decreases-loop-rest
decreases-loop-rest l = length l.digits
