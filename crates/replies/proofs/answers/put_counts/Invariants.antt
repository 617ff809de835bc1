-- Move by move, each with its count.
use mathlib.Core.Path.{◌≡◌}
use Rattle.replies.specs.Answers.{counts_text}
use Rattle.replies.proofs.Listing.{paired}
use Rattle.texts.specs.Lent.{over}
use Rattle.replies.proofs.answers.put_counts.Given as goal

abbrev pub invariant-loop-m : goal.invariant-loop-m
invariant-loop-m l = l.out ≡ over (counts_text (paired l.yielded)) l.initial.out
