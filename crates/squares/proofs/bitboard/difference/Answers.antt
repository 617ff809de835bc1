-- `a & !b` is a without b.
use Rattle.squares.proofs.Pointwise.{and_not}
use Rattle.squares.proofs.bitboard.difference.Goals as goal

pub returns : goal.returns
returns c = and_not c.args.a c.args.b c.ranges.a.fits c.ranges.b.fits
