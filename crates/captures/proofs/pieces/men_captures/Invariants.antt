-- Each turn sets the search onto the lowest man left and records its captures, if it has a jump: one step of the fold.
use mathlib.Core.List.{foldl}
use Rattle.squares.specs.Sets.{members}
use Rattle.squares.proofs.Loops.{Left}
use Rattle.captures.specs.Men.{man_captures}
use Rattle.captures.proofs.pieces.men_captures.Given as goal

abbrev pub invariant-loop-at : goal.invariant-loop-at
invariant-loop-at g l = Left (man_captures l.empty) (foldl (man_captures l.empty) l.fn.s (members l.fn.men)) l.s l.at-iterator.0
