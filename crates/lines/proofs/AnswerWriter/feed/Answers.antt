-- The end of the input, a failed read, a failed write.
use Rattle.std.proofs.KnownBytes.{Keeps-refl}
use Rattle.std.proofs.lemmas.Result.{err_from_is_err_and}
use Rattle.lines.proofs.Turns as turns
use Rattle.lines.proofs.AnswerWriter.feed.Goals as goal

pub returns-in_err-read_more : goal.returns-in_err-read_more
returns-in_err-read_more g c =
    let p = err_from_is_err_and c.from_residual.result c.from_residual.ensures.1 in
    rw (p.1, p.2) (turns.fed_failed c.loop.invariant.1 _ c.read_more.new.self _ c.in_err-read_more.ensures)

pub returns-then-branch-eq0 : goal.returns-then-branch-eq0
returns-then-branch-eq0 g c =
    turns.fed_last c.loop.invariant.1 _ _ c.as_slice.result.now c.read_more.new.self _ c.write_last.result c.as_slice.ensures c.in_ok-read_more.ensures c.if-branch-eq0.true c.write_last.ensures

pub returns-in_err-whole : goal.returns-in_err-whole
returns-in_err-whole g c =
    let p = err_from_is_err_and c.from_residual-in_err-whole.result c.from_residual-in_err-whole.ensures.1 in
    rw (p.1, p.2)
    (turns.turn_cut c.loop.invariant.1 _ c.in_ok-read_more.ensures c.as_slice-in-loop.result.now c.as_slice-in-loop.ensures _ c.in_err-whole.ensures.sent c.in_err-whole.ensures.sent_to)

pub returns : goal.returns
returns g c = turns.fed_read c.loop.invariant.1 _ (Keeps-refl _)
