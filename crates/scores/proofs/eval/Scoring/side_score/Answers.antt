-- White's score, or its negative for Black.
use Rattle.positions.specs.Boards.{board_of}
use Rattle.scores.proofs.ScoreSums.{for_white, for_black}
use Rattle.scores.proofs.eval.Scoring.side_score.Goals as goal

pub returns-in-White : goal.returns-in-White
returns-in-White c =
    for_white c.args.self.weights (board_of c.args.self.p) c.white_score-score.result c.white_score-score.ensures c.in-White.is

pub returns-in-Black : goal.returns-in-Black
returns-in-Black c =
    for_black c.args.self.weights (board_of c.args.self.p) c.white_score-score.result c.white_score-score.ensures c.in-Black.is
