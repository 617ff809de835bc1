-- The set of one square meets the set exactly where the square belongs to it.
use Rattle.std.proofs.Common.{ℕ, not, eqb, ap, ◌∙◌}
use lib.Bits.{bit_and}
use Rattle.squares.proofs.Numbers.{single_test}
use Rattle.squares.proofs.bitboard.contains.Goals as goal

pub returns : goal.returns
returns c =
    ap (λ (x : ℕ). not (eqb (bit_and c.args.set x) 0)) c.bitboard.ensures
    ∙ single_test c.args.set c.args.square
