-- One line more.
use Rattle.lines.proofs.Contents.{lines_next, next_left}
use Rattle.lines.proofs.buffers.Answers.answer_lines.Goals as goal

pub loop-rest-preserved : goal.loop-rest-preserved
loop-rest-preserved c =
    let i = c.loop-rest.invariant in
    let a = rw c.in_default-Some.is-1 at c.cut_at.ensures.after in
    rw c.in_default-Some.is-1 (next_left _ _ a.0 a.1 _ i.0, lines_next _ _ a.0 a.1 _ i.0 _ _ _ i.1 c.cut_at.ensures.before c.answer.ensures)
