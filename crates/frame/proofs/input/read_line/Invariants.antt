-- Byte by byte: what was put so far has no line feed, and the rest of the buffer is as it was.
use mathlib.Core.Path.{◌≡◌}
use lib.ListN.{length, take}
use Rattle.std.specs.Io.KnownBytes.{Consumes}
use Rattle.frame.specs.Input.{LineIn}
use Rattle.frame.proofs.input.read_line.Given as goal

abbrev pub invariant-loop-n : goal.invariant-loop-n
invariant-loop-n g l = (length l.buf ≡ length l.initial.buf) × LineIn l.initial.buf l.buf l.n × Consumes (g.R.Read.remaining l.initial.from) (g.R.Read.remaining l.from) (take l.n l.buf)
