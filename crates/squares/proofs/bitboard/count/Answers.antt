-- The language's count of ones, on a word of 64 bits, is the size of the set.
use Rattle.squares.proofs.Sizes.{ones_size}
use Rattle.squares.proofs.bitboard.count.Goals as goal

pub returns : goal.returns
returns c = ones_size c.args.set c.ranges.set.fits
