-- Move by move.
use mathlib.Core.Path.{◌≡◌}
use lib.ListN.{take}
use Rattle.captures.specs.Lists.{entries}
use Rattle.replies.specs.Answers.{moves_text}
use Rattle.texts.specs.Lent.{over}
use Rattle.replies.proofs.answers.put_moves.Given as goal

abbrev pub invariant-loop-m : goal.invariant-loop-m
invariant-loop-m l = l.out ≡ over (moves_text (take l.m-index (entries l.fn.list))) l.initial.out
