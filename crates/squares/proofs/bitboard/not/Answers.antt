-- `!set & ALL` is the board without the set.
use Rattle.squares.proofs.Numbers.{all_and_not}
use Rattle.squares.proofs.bitboard.not.Goals as goal

pub returns : goal.returns
returns c = all_and_not c.args.set c.ranges.set.fits
