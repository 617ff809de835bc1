-- Word by word: what was put so far is the words so far, joined.
use mathlib.Core.Path.{◌≡◌}
use lib.ListN.{length}
use Rattle.frame.proofs.Joining as laws
use Rattle.frame.proofs.arguments.arguments.Given as goal

abbrev pub invariant-loop-i : goal.invariant-loop-i
invariant-loop-i g l = (length l.word ≡ 131072) × laws.Joining l.fn.buf l.initial.space l.space
