-- Each part is what its call ensures.
use mathlib.Core.Path.{sym}
use Rattle.positions.specs.Boards.{board_of}
use Rattle.positions.proofs.Records.{promotes_when}
use Rattle.games.specs.Games.{man_moves}
use Rattle.games.proofs.keeping.promotes.Goals as goal

pub returns : goal.returns
unfolding man_moves
returns c =
    rw (c.man_moves.ensures, c.contains.ensures, c.promotion_row.ensures) (sym (promotes_when (board_of c.args.p) c.args.mv))
