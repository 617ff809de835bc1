-- Sets of one bit: which square they name, and where they step.
use Rattle.std.proofs.Common.{◌≡◌, ℕ, ◌-◌, ◌^◌, ◌<◌, Bool, true, false, cond, eqb, ltb, sym, refl, ap, ◌∙◌, arith, pow_pos, lt-ltb, eq-eqb, ne_eqb, eqb-true}
use lib.Bits.{and_comm}
use lib.Count.{count_trailing_zeros}
use lib.Pow.{pow-lt}
use Rattle.squares.specs.Computed.{computed}
use Rattle.squares.specs.Directions.{Direction, up_left, up_right, down_left, down_right, next, opposite, index_of, direction_at, shifted}
use Rattle.squares.specs.Sets.{has, lowest}
use Rattle.squares.specs.Squares.{all, on_board, square_at_bit, first_of}
use Rattle.squares.proofs.Bools.{imp, imp_elim}
use Rattle.squares.proofs.Below.{below, below_at}
use Rattle.squares.proofs.Members.{lowest_in}
use Rattle.squares.proofs.Numbers.{has_all, no_square}
use Rattle.squares.proofs.Pointwise.{has_bit, and_bit}
use Rattle.squares.proofs.Shifts.{direction_index, opposite_index}

-- ---- one bit
pub bit_some : (i : ℕ) → eqb (2 ^ i) 0 ≡ false
bit_some i = ne_eqb (2 ^ i) 0 (λ e. omega (arith, pow_pos i))

pub bits_apart : (i j : ℕ) → (i ≡ j → ⊥) → eqb (2 ^ i) (2 ^ j) ≡ false
bits_apart i j n =
    ne_eqb (2 ^ i) (2 ^ j) (λ e. n (eqb-true i j (sym (has_bit j i) ∙ ap (λ (x : ℕ). has x i) (sym e) ∙ has_bit i i ∙ eq-eqb i i refl)))

pub lowest_bit : (i : ℕ) → i < 64 → lowest (2 ^ i) ≡ i
lowest_bit i h = eqb-true (lowest (2 ^ i)) i (sym (has_bit i (lowest (2 ^ i))) ∙ lowest_in 64 (2 ^ i) (pow_pos i) (pow-lt h))

off : on_board 64 ≡ false
unfolding on_board
off = refl

-- the number of its square; 0 where the bit is no square
pub first_bit : (i : ℕ) → i < 64 → first_of (2 ^ i) ≡ square_at_bit i
unfolding first_of count_trailing_zeros
first_bit i h = ap (λ (s : ℕ). square_at_bit (lowest s)) (and_comm (2 ^ i) all ∙ and_bit all i h) ∙ go (has all i) refl
  where
    go : (t : Bool) → has all i ≡ t → square_at_bit (lowest (cond t (2 ^ i) 0)) ≡ square_at_bit i
    go true e = ap square_at_bit (lowest_bit i h)
    go false e = no_square 64 off ∙ sym (no_square i (sym (has_all i) ∙ e))

-- ---- stepped on, computed for each bit
step_tested : (d : Direction) → below 54 (λ i. eqb (first_of (shifted d (2 ^ i))) (square_at_bit (next d i))) ≡ true
unfolding computed below
step_tested up_left = refl
step_tested up_right = refl
step_tested down_left = refl
step_tested down_right = refl

-- and of the set stepped on; off the board both are 0
pub first_step : (d : Direction) (i : ℕ) → i < 54 → first_of (shifted d (2 ^ i)) ≡ square_at_bit (next d i)
first_step d i h = eqb-true _ _ (below_at 54 (λ i. eqb (first_of (shifted d (2 ^ i))) (square_at_bit (next d i))) (step_tested d) i h)

on_tested : (d : Direction) → below 54 (λ i. imp (ltb (next d i) 54) (eqb (shifted d (2 ^ i)) (2 ^ next d i))) ≡ true
unfolding computed below imp
on_tested up_left = refl
on_tested up_right = refl
on_tested down_left = refl
on_tested down_right = refl

-- a step that stays among the bits of the board
pub step_bit : (d : Direction) (i : ℕ) → i < 54 → next d i < 54 → shifted d (2 ^ i) ≡ 2 ^ next d i
step_bit d i h l =
    eqb-true _ _ (imp_elim (ltb (next d i) 54) _
    (below_at 54 (λ i. imp (ltb (next d i) 54) (eqb (shifted d (2 ^ i)) (2 ^ next d i))) (on_tested d) i h) (lt-ltb (next d i) 54 l))

-- ---- directions
pub at_opposite : (d : Direction) → direction_at (3 - index_of d) ≡ opposite d
at_opposite d = ap direction_at (sym (opposite_index d)) ∙ direction_index (opposite d)
