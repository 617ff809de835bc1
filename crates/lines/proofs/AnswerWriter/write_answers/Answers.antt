-- No line is left, or a write failed.
use native.Mathlib.Omega.{arith}
use Rattle.std.proofs.lemmas.Result.{err_from_is_err_and}
use Rattle.lines.proofs.Turns.{all_lines, all_written, step_cut}
use Rattle.lines.proofs.AnswerWriter.write_answers.Goals as goal

pub returns-then-next-rest-clause-sent : goal.returns-then-next-rest-clause-sent
returns-then-next-rest-clause-sent g c =
    (omega arith, all_lines c.loop-rest.invariant c.answer_lines-next.ensures.answered (omega (arith, c.if-next-rest.true)))

pub returns-then-next-rest-clause-sent_to : goal.returns-then-next-rest-clause-sent_to
returns-then-next-rest-clause-sent_to g c =
    all_written c.loop-rest.invariant c.answer_lines-next.ensures.answered (omega (arith, c.if-next-rest.true))

pub returns-in_err-write-clause-sent_to : goal.returns-in_err-write-clause-sent_to
returns-in_err-write-clause-sent_to g c =
    let p = err_from_is_err_and c.from_residual.result c.from_residual.ensures.1 in
    rw p.1 (step_cut c.loop-rest.invariant _ c.answer_lines-next.ensures.answered _ c.in_err-write.ensures)
