-- Line by line: the answers so far are those to the lines before the rest.
use mathlib.Core.Path.{◌≡◌}
use Prim.Native.Nat.{◌-◌}
use lib.ListN.{length, drop}
use Rattle.requests.specs.Requests.{answer_of}
use Rattle.line_laws.proofs.StepLaws.{Answering}
use Rattle.lines.proofs.buffers.Answers.answer_lines.Given as goal

abbrev pub invariant-loop-rest : goal.invariant-loop-rest
invariant-loop-rest l = (l.rest ≡ drop (length l.s - length l.rest) l.s) × Answering answer_of l.s 0 l.self (length l.s - length l.rest) (length l.self)

abbrev pub decreases-loop-rest : goal.decreases-loop-rest
decreases-loop-rest l = length l.rest
