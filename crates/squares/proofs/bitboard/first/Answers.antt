-- The trailing zeros of the squares of the set are its lowest bit.
use Rattle.squares.specs.Squares.{first_of}
use Rattle.squares.proofs.Numbers.{all_is}
use Rattle.squares.proofs.bitboard.first.Goals as goal

pub returns : goal.returns
unfolding first_of
returns c = rw all_is c.from_bit.ensures
