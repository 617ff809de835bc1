-- Square numbers and bits: each law of the 50 squares, or of the 64 bits, is one computed test.
use Rattle.std.proofs.Common.{◌≡◌, ℕ, ◌+◌, ◌-◌, ◌*◌, ◌/◌, ◌%◌, ◌^◌, ◌<◌, ◌≤◌, Bool, true, false, cond, not, ◌&&◌, eqb, ltb, leb, sym, refl, ap, ◌∙◌, arith, lit<, ltb-true, le-ltb, eqb-true, le-leb, leb-true}
use mathlib.Core.Bool.{and-false}
use lib.Bits.{bit_and, and_comm, and_zero_r}
use lib.Pow.{pow-lt}
use Rattle.squares.specs.Sets.{has, without}
use Rattle.squares.specs.Squares.{is_square, bit_of, all, promotion, on_board, square_at_bit, row_of, file_of, single, contains_of}
use Rattle.squares.specs.Computed.{computed}
use Rattle.squares.specs.declared.piece.Color.TheVariants.{White, Black}
use Rattle.squares.proofs.Bools.{imp, imp_elim, iff, iff_eq, and_left, and_right, and_both, tested}
use Rattle.squares.proofs.Below.{below, below_at}
use Rattle.squares.proofs.Pointwise.{has_past, and_not, bit_test}

-- ---- the board as a number
pub all_is : all ≡ 0x003F_F7FE_FFDF_FBFF
unfolding computed
all_is = refl

pub promotion_white : promotion White ≡ 0x1F
unfolding computed
promotion_white = refl

pub promotion_black : promotion Black ≡ 0x003E_0000_0000_0000
unfolding computed
promotion_black = refl

pub all_lt : all < 2 ^ 54
unfolding computed
all_lt = lit< tt

pub all_lt64 : all < 2 ^ 64
unfolding computed
all_lt64 = lit< tt

-- what lies outside the board, and what of the board lies outside a set, as the code writes it
pub and_not_all : (s : ℕ) → s < 2 ^ 64 → bit_and s (2 ^ 64 - 1 - 0x003F_F7FE_FFDF_FBFF) ≡ without s all
and_not_all s h = ap (λ (m : ℕ). bit_and s (2 ^ 64 - 1 - m)) (sym all_is) ∙ and_not s all h all_lt64

pub all_and_not : (s : ℕ) → s < 2 ^ 64 → bit_and (2 ^ 64 - 1 - s) 0x003F_F7FE_FFDF_FBFF ≡ without all s
all_and_not s h =
    and_comm (2 ^ 64 - 1 - s) 0x003F_F7FE_FFDF_FBFF ∙ ap (λ (m : ℕ). bit_and m (2 ^ 64 - 1 - s)) (sym all_is) ∙ and_not all s all_lt64 h

-- ---- the bits of the board
pub on_lt : (i : ℕ) → on_board i ≡ true → i < 54
unfolding on_board
on_lt i e = ltb-true i 54 (and_left _ _ e)

off_past : (i : ℕ) → 54 ≤ i → on_board i ≡ false
unfolding on_board
off_past i h = ap (λ (t : Bool). t && not (eqb (i % 11) 10)) (le-ltb i 54 h)

-- a set below 2 ^ 54 that agrees with a test on 54 bits agrees everywhere
agrees : (s : ℕ) (p : ℕ → Bool) → s < 2 ^ 54 → ((i : ℕ) → 54 ≤ i → p i ≡ false) → below 54 (λ i. iff (has s i) (p i)) ≡ true → (i : ℕ) → has s i ≡ p i
agrees s p h f e i = go (ltb i 54) refl
  where
    go : (t : Bool) → ltb i 54 ≡ t → has s i ≡ p i
    go true q = iff_eq _ _ (below_at 54 (λ i. iff (has s i) (p i)) e i (ltb-true i 54 q))
    go false q = has_past 54 s i h (borrow.Author.Tests.ltb-false i 54 q) ∙ sym (f i (borrow.Author.Tests.ltb-false i 54 q))

pub has_all : (i : ℕ) → has all i ≡ on_board i
unfolding computed below tested
has_all = agrees all on_board all_lt off_past refl

-- ---- numbers and bits are one another's inverse
pub square_range : (n : ℕ) → is_square n ≡ true → (0 < n) × (n ≤ 50)
unfolding is_square
square_range n e = (leb-true 1 n (and_left _ _ e), leb-true n 50 (and_right (leb 1 n) (leb n 50) e))

pub range_square : (n : ℕ) → 0 < n → n ≤ 50 → is_square n ≡ true
unfolding is_square
range_square n h l = and_both _ _ (le-leb 1 n h) (le-leb n 50 l)

-- a number above 50 is none
pub high_square : (n : ℕ) → leb n 50 ≡ false → is_square n ≡ false
unfolding is_square
high_square n e = rw e (and-false (leb 1 n))

of_square_lem : (n : ℕ) → Bool
of_square_lem n = imp (is_square n) ((on_board (bit_of n) && eqb (square_at_bit (bit_of n)) n) && (eqb (row_of (bit_of n)) ((n - 1) / 5) && eqb (file_of (bit_of n)) (2 * ((n - 1) % 5) + (1 - (n - 1) / 5 % 2))))

squares_tested : below 51 of_square_lem ≡ true
unfolding computed below tested of_square_lem
squares_tested = refl

square_facts : (n : ℕ) → is_square n ≡ true
    → ((on_board (bit_of n) && eqb (square_at_bit (bit_of n)) n) && (eqb (row_of (bit_of n)) ((n - 1) / 5) && eqb (file_of (bit_of n)) (2 * ((n - 1) % 5) + (1 - (n - 1) / 5 % 2)))) ≡ true
unfolding of_square_lem
square_facts n e = imp_elim _ _ (below_at 51 of_square_lem squares_tested n (omega (arith, (square_range n e).1))) e

pub square_on : (n : ℕ) → is_square n ≡ true → on_board (bit_of n) ≡ true
square_on n e = and_left _ _ (and_left _ _ (square_facts n e))

pub square_back : (n : ℕ) → is_square n ≡ true → square_at_bit (bit_of n) ≡ n
square_back n e = eqb-true _ _ (and_right (on_board (bit_of n)) _ (and_left _ _ (square_facts n e)))

pub square_row : (n : ℕ) → is_square n ≡ true → row_of (bit_of n) ≡ (n - 1) / 5
square_row n e = eqb-true _ _ (and_left _ _ (and_right (on_board (bit_of n) && eqb (square_at_bit (bit_of n)) n) _ (square_facts n e)))

pub square_file : (n : ℕ) → is_square n ≡ true → file_of (bit_of n) ≡ 2 * ((n - 1) % 5) + (1 - (n - 1) / 5 % 2)
square_file n e = eqb-true _ _ (and_right (eqb (row_of (bit_of n)) ((n - 1) / 5)) _ (and_right (on_board (bit_of n) && eqb (square_at_bit (bit_of n)) n) _ (square_facts n e)))

pub bit_lt : (n : ℕ) → is_square n ≡ true → bit_of n < 54
bit_lt n e = on_lt (bit_of n) (square_on n e)

of_bit : ℕ → Bool
of_bit i = imp (on_board i) (is_square (square_at_bit i) && eqb (bit_of (square_at_bit i)) i)

bits_tested : below 54 of_bit ≡ true
unfolding computed below tested of_bit
bits_tested = refl

bit_facts : (i : ℕ) → on_board i ≡ true → (is_square (square_at_bit i) && eqb (bit_of (square_at_bit i)) i) ≡ true
unfolding of_bit
bit_facts i e = imp_elim _ _ (below_at 54 of_bit bits_tested i (on_lt i e)) e

pub bit_square : (i : ℕ) → on_board i ≡ true → is_square (square_at_bit i) ≡ true
bit_square i e = and_left _ _ (bit_facts i e)

pub bit_back : (i : ℕ) → on_board i ≡ true → bit_of (square_at_bit i) ≡ i
bit_back i e = eqb-true _ _ (and_right (is_square (square_at_bit i)) _ (bit_facts i e))

pub square_inj : (i j : ℕ) → on_board i ≡ true → on_board j ≡ true → square_at_bit i ≡ square_at_bit j → i ≡ j
square_inj i j p q e = sym (bit_back i p) ∙ ap bit_of e ∙ bit_back j q

-- bits rise with the numbers, so the lowest bit is the lowest square
pub bit_rises : (m n : ℕ) → 0 < m → m < n → bit_of m < bit_of n
unfolding bit_of
bit_rises m n h l = omega arith

-- a bit that is no square has no number
pub no_square : (i : ℕ) → on_board i ≡ false → square_at_bit i ≡ 0
unfolding square_at_bit
no_square i e = ap (λ (t : Bool). cond t (i - i / 11 + 1) 0) e

-- ---- the set of one square
pub single_is : (n : ℕ) → is_square n ≡ true → single n ≡ 2 ^ bit_of n
unfolding single
single_is n e = ap (λ (t : Bool). cond t (2 ^ bit_of n) 0) e

pub single_none : (n : ℕ) → is_square n ≡ false → single n ≡ 0
unfolding single
single_none n e = ap (λ (t : Bool). cond t (2 ^ bit_of n) 0) e

pub single_lt : (n : ℕ) → single n < 2 ^ 54
unfolding single
single_lt n = go (is_square n) refl
  where
    go : (t : Bool) → is_square n ≡ t → cond t (2 ^ bit_of n) 0 < 2 ^ 54
    go true e = pow-lt (bit_lt n e)
    go false e = lit< tt

-- `set & single != 0`
pub single_test : (s n : ℕ) → not (eqb (bit_and s (single n)) 0) ≡ contains_of s n
unfolding contains_of
single_test s n = go (is_square n) refl
  where
    go : (t : Bool) → is_square n ≡ t → not (eqb (bit_and s (single n)) 0) ≡ (t && has s (bit_of n))
    go true e = ap (λ (x : ℕ). not (eqb (bit_and s x) 0)) (single_is n e) ∙ bit_test s (bit_of n) (omega (arith, bit_lt n e))
    go false e = ap (λ (x : ℕ). not (eqb (bit_and s x) 0)) (single_none n e) ∙ ap (λ (x : ℕ). not (eqb x 0)) (and_zero_r s)
