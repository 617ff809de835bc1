-- Byte by byte: what was put so far has no line feed, and the rest of the buffer is as it was.
use Rattle.frame.proofs.Taking as laws
use borrow.Author.Rules.{rules}
use native.Mathlib.Omega.{arith}
use Rattle.frame.proofs.input.read_line.Goals as goal

pub loop-n-preserved : goal.loop-n-preserved
loop-n-preserved g c =
    let i = c.loop-n.invariant in
    let one = rw c.in-Some.is at c.in_ok-read_byte.ensures in
    (search rules, laws.line_next _ i.1 (omega arith) (search rules), laws.byte_more _ _ _ c.loop-n.buf c.loop-n.n i.2 _ (omega arith) one)
