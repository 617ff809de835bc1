-- The definition, part by part.
use Rattle.positions.specs.Boards.{board_of}
use Rattle.scores.proofs.Scores.{few_test}
use Rattle.scores.proofs.eval.Scoring.few_pieces.Goals as goal

pub returns : goal.returns
returns c =
    few_test c.args.color (board_of c.args.self.p) c.not.result c.kings.result c.not.ensures c.kings.ensures
    c.pieces.result c.count.result c.pieces.ensures c.count.ensures
