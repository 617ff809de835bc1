-- The constants are the squares 47 to 49 and 2 to 4, computed.
use mathlib.Core.Path.{sym}
use Rattle.scores.proofs.Scores.{white_guard, black_guard}
use Rattle.scores.proofs.eval.guard_squares.Goals as goal

pub returns-in-White : goal.returns-in-White
returns-in-White c = rw c.in-White.is (sym white_guard)

pub returns-in-Black : goal.returns-in-Black
returns-in-Black c = rw c.in-Black.is (sym black_guard)
