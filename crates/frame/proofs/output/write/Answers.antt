-- A write took no byte, or it failed: a beginning was written.
use Rattle.frame.proofs.Putting.{some_put}
use Rattle.frame.proofs.output.write.Goals as goal

pub returns-in-Ok-eq0 : goal.returns-in-Ok-eq0
returns-in-Ok-eq0 g c = some_put c.loop-rest.invariant _ _ c.write.ensures.bytes

pub returns-in-Ok-eq0-2 : goal.returns-in-Ok-eq0-2
returns-in-Ok-eq0-2 g c = some_put c.loop-rest.invariant _ _ c.write.ensures.bytes
