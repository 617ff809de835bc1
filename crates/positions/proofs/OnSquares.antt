-- Of an accepted board: the pieces, men and kings of a colour stand on squares, at most 50 of them.
use mathlib.Core.Path.{◌≡◌, sym, ◌∙◌}
use Prim.Native.Nat.{ℕ, ◌+◌, ◌≤◌, ◌<◌, ◌^◌}
use native.Mathlib.Nat.{lt_of_le_of_lt, sub-le}
use native.Mathlib.Omega.{arith}
use mathlib.Core.Bool.{not}
use lib.Bits.{bit_and, and_le_l}
use Rattle.squares.specs.Sets.{has, size, without}
use Rattle.squares.specs.Squares.{all}
use Rattle.squares.specs.declared.piece.Color.{Color}
use Rattle.squares.specs.declared.piece.Color.TheVariants.{White, Black}
use Rattle.squares.proofs.Bools.{and_left}
use Rattle.squares.proofs.Pointwise.{has_and, has_without, none_within, member_lt, without_lt}
use Rattle.squares.proofs.Sizes.{size_without, size_squares}
use Rattle.squares.proofs.Numbers.{all_lt64, has_all}
use Rattle.positions.specs.Boards.{Board, colored, men_of, kings_of}
use Rattle.positions.specs.Acceptance.{Accepted}
use Rattle.positions.proofs.Rotation.{Squares}

pub wide : (s : ℕ) → Squares s → s < 2 ^ 64
wide s q = omega (arith, q.fits)

pub and_all : (s : ℕ) → Squares s → bit_and s all ≡ s
unfolding without
and_all s q = omega (arith, none_within s all (wide s q) all_lt64 (λ i l e. has_all i ∙ q.on i e), and_le_l s all)

pub colored_squares : (c : Color) (b : Board) → Accepted b → Squares (colored c b)
colored_squares White b a = record { fits = a.white_fits; on = a.white_on }
colored_squares Black b a = record { fits = a.black_fits; on = a.black_on }

module _ (c : Color) (b : Board) (a : Accepted b) where
  on : Squares (colored c b)
  on = colored_squares c b a

  marks : b.kings < 2 ^ 64
  marks = omega (arith, a.kings_fits)

  men_lt : men_of c b < 2 ^ 54
  unfolding without
  men_lt = lt_of_le_of_lt (sub-le (colored c b) (bit_and (colored c b) b.kings)) on.fits

  pub men_squares : Squares (men_of c b)
  men_squares = record {
    fits = men_lt;
    on = λ i e. on.on i (and_left (has (colored c b) i) (not (has b.kings i))
        (sym (has_without (colored c b) b.kings (wide (colored c b) on) marks i (member_lt 64 (men_of c b) i (without_lt _ _ (wide (colored c b) on)) e)) ∙ e));
  }

  pub kings_squares : Squares (kings_of c b)
  kings_squares = record {
    fits = lt_of_le_of_lt (and_le_l (colored c b) b.kings) on.fits;
    on = λ i e. on.on i (and_left (has (colored c b) i) (has b.kings i) (sym (has_and (colored c b) b.kings i) ∙ e));
  }

  pub men_kings : size (men_of c b) + size (kings_of c b) ≤ 50
  men_kings = omega (arith, size_without (colored c b) b.kings (wide (colored c b) on) marks, size_squares (colored c b) (wide (colored c b) on) on.on)
