-- The rows that men have advanced: row by row with the code's table, and square by square as the rule says.
use Rattle.std.specs.Prelude.{sum_by}
use mathlib.Core.Path.{◌≡◌, refl, sym, ap, ap₂, ◌∙◌}
use Prim.Native.Nat.{ℕ, zero, suc, ◌+◌, ◌*◌, ◌≤◌, ◌<◌}
use native.Mathlib.Nat.{mul-le-mul}
use native.Mathlib.Numerals.{add-one}
use native.Mathlib.Omega.{arith}
use mathlib.Core.Bool.{Bool, true, cond}
use mathlib.Core.List.{List, [], ◌∷◌}
use lib.Dec.{eqb, leb}
use lib.Bits.{bit_and}
use lib.ListN.{get_or}
use borrow.Author.Tests.{eqb-true, leb-true}
use Rattle.squares.specs.Sets.{has, size}
use Rattle.squares.specs.Squares.{bit_of, run, all}
use Rattle.squares.specs.Folds.{fold_to, sum_over}
use Rattle.squares.specs.declared.piece.Color.{Color}
use Rattle.squares.specs.declared.piece.Color.TheVariants.{White, Black}
use Rattle.squares.proofs.Bools.{and_right}
use Rattle.squares.proofs.Below.{below, below_at}
use Rattle.squares.proofs.Pointwise.{has_and}
use Rattle.squares.proofs.Folds.{sum_same}
use Rattle.squares.proofs.Sizes.{size_most}
use Rattle.scores.specs.Score.{ahead_of, advanced}
use Rattle.scores.specs.Computed.{computed}
use Rattle.squares.proofs.Sums.{sum_add, sum_zero, sum_masked, sum_mask}

-- the squares of row r: five from 5 r + 1 on
unfoldable pub row_set : ℕ → ℕ
row_set r = run (5 * r + 1) 5

-- the code's table
abbrev pub row_table : List ℕ
row_table =
    0x1F ∷ 0x3E0 ∷ 0xF800 ∷ 0x1F_0000 ∷ 0x7C0_0000 ∷ 0xF800_0000 ∷ 0x3E_0000_0000 ∷ 0x7C0_0000_0000
    ∷ 0x1_F000_0000_0000 ∷ 0x3E_0000_0000_0000 ∷ []

-- what the code adds up, the first n rows
unfoldable pub by_rows : Color → ℕ → ℕ → ℕ
by_rows c s n = fold_to ◌+◌ 0 (λ r. ahead_of c r * size (bit_and s (row_set r))) n

pub by_rows_none : (c : Color) (s : ℕ) → by_rows c s 0 ≡ 0
unfolding by_rows fold_to
by_rows_none c s = refl

pub by_rows_next : (c : Color) (s n : ℕ) → by_rows c s (n + 1) ≡ by_rows c s n + ahead_of c n * size (bit_and s (row_set n))
unfolding by_rows fold_to
by_rows_next c s n = ap (fold_to ◌+◌ 0 (λ r. ahead_of c r * size (bit_and s (row_set r)))) (add-one n)

-- each of at most 9 rows times 64
pub ahead_le : (c : Color) (r : ℕ) → r < 10 → ahead_of c r ≤ 9
unfolding ahead_of
ahead_le White r h = omega arith
ahead_le Black r h = omega arith

pub row_le : (c : Color) (r s : ℕ) → r < 10 → ahead_of c r * size s ≤ 576
row_le c r s h = mul-le-mul (ahead_le c r h) (size_most s)

-- the same, where the two factors have other names
pub row_few : (c : Color) (r s rows men : ℕ) → r < 10 → rows ≡ ahead_of c r → men ≡ size s → rows * men ≤ 576
row_few c r s rows men h a n = rw (a, n) (row_le c r s h)

-- so the first n rows come to n times that at most
by_rows_le : (c : Color) (s n : ℕ) → n ≤ 10 → by_rows c s n ≤ 576 * n
by_rows_le c s zero h = omega (arith, by_rows_none c s)
by_rows_le c s (suc n) h = rw (← add-one n, by_rows_next c s n) (omega (arith, row_le c n (bit_and s (row_set n)) (omega arith), by_rows_le c s n (omega arith)))

-- what the code adds for a row of its table
abbrev pub in_row : Color → ℕ → ℕ → ℕ
in_row c s r = ahead_of c r * size (bit_and s (get_or row_table r 0))

-- its ten rows
abbrev pub rows : List ℕ
rows = 0 ∷ 1 ∷ 2 ∷ 3 ∷ 4 ∷ 5 ∷ 6 ∷ 7 ∷ 8 ∷ 9 ∷ []

-- added up, they are the first ten rows
pub rows_sum : (c : Color) (s : ℕ) → sum_by (in_row c s) rows ≡ by_rows c s 10
unfolding by_rows fold_to row_set run bit_of
rows_sum c s = refl

pub rows_most : (c : Color) (s : ℕ) → sum_by (in_row c s) rows ≤ 5760
rows_most c s = omega (arith, rows_sum c s, by_rows_le c s 10 (omega arith))

-- what a man on bit i adds in the first n rows
unfoldable row_weight : Color → ℕ → ℕ → ℕ
row_weight c n i = fold_to ◌+◌ 0 (λ r. cond (has (row_set r) i) (ahead_of c r) 0) n

by_squares : (c : Color) (s n : ℕ) → by_rows c s n ≡ sum_over (row_weight c n) s
unfolding by_rows fold_to row_weight
by_squares c s zero = sym (sum_zero s)
by_squares c s (suc n) =
    ap₂ ◌+◌ (by_squares c s n) (sum_masked (ahead_of c n) s (row_set n)) ∙ sym (sum_add (row_weight c n) (λ i. cond (has (row_set n) i) (ahead_of c n) 0) s)

-- on a square that is 9 less its row, or its row; elsewhere nothing
weight_test : (c : Color) → below 64 (λ i. eqb (row_weight c 10 i) (cond (has all i) (advanced c i) 0)) ≡ true
unfolding below row_weight row_set computed
weight_test White = refl
weight_test Black = refl

weight_at : (c : Color) (i : ℕ) → i < 64 → row_weight c 10 i ≡ cond (has all i) (advanced c i) 0
weight_at c i l = eqb-true _ _ (below_at 64 (λ i. eqb (row_weight c 10 i) (cond (has all i) (advanced c i) 0)) (weight_test c) i l)

pub by_rows_is : (c : Color) (s : ℕ) → by_rows c s 10 ≡ sum_over (advanced c) (bit_and s all)
by_rows_is c s =
    by_squares c s 10
    ∙ sym (sum_mask (row_weight c 10) s all (λ i l e. weight_at c i l ∙ ap (λ (t : Bool). cond t (advanced c i) 0) e))
    ∙ sum_same (row_weight c 10) (advanced c) (bit_and s all)
    (λ i l e. weight_at c i l ∙ ap (λ (t : Bool). cond t (advanced c i) 0) (and_right (has s i) (has all i) (sym (has_and s all i) ∙ e)))

-- no man has advanced more than 9 rows
nine_test : (c : Color) → below 64 (λ i. leb (advanced c i) 9) ≡ true
unfolding below computed
nine_test White = refl
nine_test Black = refl

pub advanced_le : (c : Color) (i : ℕ) → i < 64 → advanced c i ≤ 9
advanced_le c i l = leb-true (advanced c i) 9 (below_at 64 (λ i. leb (advanced c i) 9) (nine_test c) i l)
