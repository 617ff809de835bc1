-- What is written of the rows that are left ends what is written of all.
use mathlib.Core.Path.{◌≡◌}
use lib.ListN.{drop}
use Rattle.texts.specs.Lent.{over}
use Rattle.requests.proofs.Table.{lines_of}
use Rattle.requests.proofs.requests.help.Given as goal

abbrev pub invariant-loop-name : goal.invariant-loop-name
invariant-loop-name l = over (lines_of (drop l.name-index l.name-items)) l.space ≡ over (lines_of l.initial.name-items) l.initial.space
