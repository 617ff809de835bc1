-- The bit is below 64, so the shift loses nothing.
use Rattle.std.proofs.Common.{ℕ, ◌^◌, sym, ap, ◌∙◌}
use Rattle.squares.proofs.Pointwise.{one_bit}
use Rattle.squares.proofs.Numbers.{single_is}
use Rattle.squares.proofs.square.bitboard.Goals as goal

pub returns-then-is_square : goal.returns-then-is_square
returns-then-is_square c =
    let yes = sym c.is_square.ensures ∙ c.if-is_square.true in
    let b = c.bit_of.ensures in
    one_bit _ b.upper_bound ∙ ap (λ (n : ℕ). 2 ^ n) b.value ∙ sym (single_is c.args.square yes)
