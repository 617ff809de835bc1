-- What was written so far is all but the rest.
use lib.ListN.{length}
use Rattle.frame.proofs.Putting.{Putting}
use Rattle.frame.proofs.output.write.Given as goal

abbrev pub invariant-loop-rest : goal.invariant-loop-rest
invariant-loop-rest g l = Putting (g.W.Write.contents l.initial.to) (g.W.Write.contents l.to) l.out l.rest

abbrev pub decreases-loop-rest : goal.decreases-loop-rest
decreases-loop-rest g l = length l.rest
