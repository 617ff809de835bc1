-- What is carried over leaves room for a read.
use Prim.Native.Nat.{◌+◌, ◌≤◌}
use lib.ListN.{length}
use Rattle.requests.specs.Requests.{longest}
use Rattle.lines.proofs.Turns.{Feeding}
use Rattle.lines.proofs.AnswerWriter.feed.Given as goal

abbrev pub invariant-loop : goal.invariant-loop
invariant-loop g l = (length l.input ≤ longest + 1) × Feeding (g.R.Read.remaining l.initial.from) (g.R.Read.remaining l.from) l.initial.self l.self l.input
