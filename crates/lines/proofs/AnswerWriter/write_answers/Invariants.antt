-- Step by step, up to the last whole line, or to a write that fails.
use lib.ListN.{length}
use Rattle.lines.proofs.Turns.{Writing}
use Rattle.lines.proofs.AnswerWriter.write_answers.Given as goal

abbrev pub invariant-loop-rest : goal.invariant-loop-rest
invariant-loop-rest g l = Writing l.fn.self (g.W.Write.contents l.self-inside.to) l.s l.rest

abbrev pub decreases-loop-rest : goal.decreases-loop-rest
decreases-loop-rest g l = length l.rest
