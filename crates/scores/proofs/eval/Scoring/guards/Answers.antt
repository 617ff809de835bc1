-- Where the opponent has no king, the men on the guard squares guard.
use mathlib.Core.Path.{◌∙◌}
use Rattle.squares.proofs.Sizes.{size_zero}
use Rattle.positions.specs.Boards.{board_of}
use Rattle.scores.proofs.Scores.{guards_none, guards_some}
use Rattle.scores.proofs.eval.Scoring.guards.Goals as goal

pub returns-then-kings-eq0 : goal.returns-then-kings-eq0
returns-then-kings-eq0 c =
    guards_some c.args.color (board_of c.args.self.p) c.not.result c.kings.result c.not.ensures c.kings.ensures
    c.men.result c.guard_squares.result
    c.if-kings-eq0.true c.men.ensures c.guard_squares.ensures

pub returns-else-kings-eq0 : goal.returns-else-kings-eq0
returns-else-kings-eq0 c =
    size_zero ∙ guards_none c.args.color (board_of c.args.self.p) c.not.result c.kings.result c.not.ensures c.kings.ensures c.if-kings-eq0.false
