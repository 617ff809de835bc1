-- A quiet move of a man goes to the next row towards its promotion row.
use mathlib.Core.Path.{◌≡◌, sym, ap, ◌∙◌}
use Prim.Native.Nat.{ℕ, ◌+◌, ◌≤◌}
use native.Mathlib.Omega.{arith}
use mathlib.Core.Bool.{Bool, true, false, cond, false≢true}
use mathlib.Core.List.Memᴰ.{head}
use mathlib.Core.List.Memᴰ.{not-nil}
use mathlib.Core.List.Memᴰ.{tail}
use mathlib.Core.List.{Memᴰ as Member}
use borrow.Author.Tests.{eqb-true}
use Rattle.squares.specs.declared.piece.Color.{Color}
use Rattle.squares.specs.declared.piece.Color.TheVariants.{White, Black}
use Rattle.squares.specs.declared.piece.PieceKind.TheVariants.{Man}
use Rattle.squares.specs.Directions.{Direction, next}
use Rattle.squares.specs.Sets.{has}
use Rattle.squares.specs.Squares.{on_board, square_at_bit, row_of}
use Rattle.squares.proofs.Numbers.{square_range, bit_square}
use Rattle.squares.proofs.Shifts.{up, moved, next_row}
use Rattle.positions.specs.Boards.{Board, same_color}
use Rattle.positions.proofs.Measure.{rows_before}
use Rattle.rules.specs.Rules.{BitMove, forward, Quiet, man_step, king_flight, Fair}
use Rattle.rules.proofs.Boards.{empty_on, of_king, piece_on}

row_le : (i : ℕ) → on_board i ≡ true → row_of i ≤ 9
unfolding row_of
row_le i e = omega (arith, (square_range (square_at_bit i) (bit_square i e)).1)

-- White's directions go up, Black's down
up_of : (c : Color) (d : Direction) → Member d (forward c) → up d ≡ cond (same_color c White) true false
unfolding forward
up_of White d (head e) = ap up e
up_of White d (tail (head e)) = ap up e
up_of White d (tail (tail m)) = absurd (not-nil m)
up_of Black d (head e) = ap up e
up_of Black d (tail (head e)) = ap up e
up_of Black d (tail (tail m)) = absurd (not-nil m)

pub forward_row : (c : Color) (d : Direction) (i : ℕ) → Member d (forward c) → on_board i ≡ true → on_board (next d i) ≡ true
    → rows_before c (next d i) + 1 ≡ rows_before c i
unfolding rows_before
forward_row White d i m p q = eqb-true _ _ (sym (ap (λ (t : Bool). moved t (row_of i) (row_of (next d i))) (up_of White d m)) ∙ next_row d i p q)
forward_row Black d i m p q =
    let e : row_of (next d i) ≡ row_of i + 1 = eqb-true _ _
    (sym (ap (λ (t : Bool). moved t (row_of i) (row_of (next d i))) (up_of Black d m)) ∙ next_row d i p q) in
    omega (arith, row_le (next d i) q)

module _ (b : Board) (fair : Fair b) where
  -- where the mover is not marked as a king
  pub quiet_row : {w : BitMove} → Quiet b w → has b.kings w.from ≡ false → rows_before b.side w.to + 1 ≡ rows_before b.side w.from
  quiet_row (man_step {i = i} d p f e) n = forward_row b.side d i f (piece_on b fair Man i p) (empty_on b fair (next d i) e)
  quiet_row (king_flight {i = i} d p f) n = absurd (false≢true (sym n ∙ (of_king b fair i p).1))
