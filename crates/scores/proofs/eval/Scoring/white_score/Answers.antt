-- White's worth less Black's, damped.
use lib.Dec.{lit<}
use Rattle.positions.specs.Boards.{board_of}
use Rattle.scores.proofs.Integers.{less_of, read, le_within}
use Rattle.scores.proofs.ScoreSums.{white_of}
use Rattle.scores.proofs.eval.Scoring.white_score.Goals as goal

pub damp-requires : goal.damp-requires
damp-requires c =
    le_within 576000000 _ (read (less_of c.worth.ensures c.worth-2.ensures (lit< tt) (lit< tt)) (lit< tt)).small

pub returns : goal.returns
returns c =
    read (white_of c.args.self.weights (board_of c.args.self.p) c.worth.result c.worth-2.result c.damp.result
    c.worth.ensures c.worth-2.ensures c.damp.ensures) (lit< tt)
