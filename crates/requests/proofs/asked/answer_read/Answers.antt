-- What the call writes.
use Rattle.requests.proofs.asked.answer_read.Goals as goal

pub returns-in-Ok : goal.returns-in-Ok
returns-in-Ok g c word puts = rw c.in-Ok.is (puts _ _ _ c.put.ensures)
