-- What lies outside the board is tested as the code writes it, `set & !ALL`.
use Rattle.std.proofs.Common.{ℕ, eqb, ap}
use Rattle.squares.specs.Squares.{squares_only}
use Rattle.squares.proofs.Numbers.{and_not_all}
use Rattle.squares.proofs.bitboard.squares_only.Goals as goal

pub returns : goal.returns
unfolding squares_only
returns c = ap (λ (x : ℕ). eqb x 0) (and_not_all c.args.set c.ranges.set.fits)
