-- A set turned round: square n at 51 - n, which is bit i at 53 - i.
use mathlib.Core.Path.{◌≡◌, refl, sym, ap, ap₂, ◌∙◌}
use Prim.Native.Nat.{ℕ, zero, suc, ◌+◌, ◌-◌, ◌*◌, ◌/◌, ◌%◌, ◌^◌, ◌<◌}
use native.Mathlib.Nat.{add_assoc, add_comm, zero-add}
use native.Mathlib.Omega.{arith}
use mathlib.Core.Bool.{Bool, true, false, ◌&&◌, cond, false≢true}
use lib.Dec.{eqb}
use lib.Bits.{bit_and, and_le_r}
use borrow.Author.Tests.{eqb-true, eqb-false}
use Rattle.std.specs.Int.{reverse_bits_onto}
use Rattle.squares.specs.Sets.{has, size}
use Rattle.squares.specs.Squares.{all, on_board, square_at_bit, single}
use Rattle.squares.specs.Folds.{sum_over, union_over}
use Rattle.squares.proofs.Bools.{imp, imp_elim, tested, and_left, and_right, and_both, bool_ext}
use Rattle.squares.proofs.Below.{below, below_at}
use Rattle.squares.proofs.Pointwise.{has_and, has_bit, has_bit_same, has_half, has_low, has_shr, has_zero, ext}
use Rattle.squares.proofs.Folds.{fold_reverse, fold_ext, over_board}
use Rattle.squares.proofs.Unions.{Came, of_union, in_union, union_lt}
use Rattle.squares.proofs.Sizes.{size_sum}
use Rattle.squares.proofs.Numbers.{all_lt, has_all, on_lt, no_square, single_lt}
use Rattle.positions.specs.Flip.{rotated}
use Rattle.positions.specs.Computed.{computed}

-- ---- one square
bit_test : ℕ → Bool
bit_test i = imp (on_board i) (on_board (53 - i) && eqb (single (51 - square_at_bit i)) (2 ^ (53 - i)))

bits_tested : below 54 bit_test ≡ true
unfolding computed below tested bit_test
bits_tested = refl

bit_facts : (i : ℕ) → on_board i ≡ true → (on_board (53 - i) && eqb (single (51 - square_at_bit i)) (2 ^ (53 - i))) ≡ true
unfolding bit_test
bit_facts i e = imp_elim _ _ (below_at 54 bit_test bits_tested i (on_lt i e)) e

pub turned_on : (i : ℕ) → on_board i ≡ true → on_board (53 - i) ≡ true
turned_on i e = and_left _ _ (bit_facts i e)

pub turned_bit : (i : ℕ) → on_board i ≡ true → single (51 - square_at_bit i) ≡ 2 ^ (53 - i)
turned_bit i e = eqb-true _ _ (and_right (on_board (53 - i)) _ (bit_facts i e))

-- a bit that is no square goes nowhere
pub turned_off : (i : ℕ) → on_board i ≡ false → single (51 - square_at_bit i) ≡ 0
unfolding computed
turned_off i e = ap (λ (n : ℕ). single (51 - n)) (no_square i e)

-- ---- a set
pub rotated_lt : (s : ℕ) → rotated s < 2 ^ 54
unfolding rotated
rotated_lt s = union_lt 54 (λ i. single (51 - square_at_bit i)) s (λ i l. single_lt (51 - square_at_bit i))

pub has_rotated : (s j : ℕ) → has (rotated s) j ≡ (on_board j && has s (53 - j))
unfolding rotated
has_rotated s j = bool_ext _ _ (λ e. back (of_union (λ i. single (51 - square_at_bit i)) s j e)) forth
  where
    at : (i : ℕ) (t : Bool) → on_board i ≡ t → has s i ≡ true → has (single (51 - square_at_bit i)) j ≡ true → (on_board j && has s (53 - j)) ≡ true
    at i true o m h =
        let e : j ≡ 53 - i = eqb-true j (53 - i) (sym (has_bit (53 - i) j) ∙ ap (λ (x : ℕ). has x j) (sym (turned_bit i o)) ∙ h) in
        let f : 53 - j ≡ i = omega (arith, on_lt i o) in
        and_both _ _ (ap on_board e ∙ turned_on i o) (ap (has s) f ∙ m)
    at i false o m h = absurd (false≢true (sym (has_zero j) ∙ ap (λ (x : ℕ). has x j) (sym (turned_off i o)) ∙ h))

    back : Came (λ i. single (51 - square_at_bit i)) s j → (on_board j && has s (53 - j)) ≡ true
    back r = at r.i (on_board r.i) refl r.member r.there

    forth : (on_board j && has s (53 - j)) ≡ true → has (union_over (λ i. single (51 - square_at_bit i)) s) j ≡ true
    forth e =
        let o = and_left _ _ e in
        let l = on_lt j o in
        let b : 53 - (53 - j) ≡ j = omega arith in
        in_union (λ i. single (51 - square_at_bit i)) s (53 - j) j (omega arith) (and_right (on_board j) (has s (53 - j)) e)
        (ap (λ (x : ℕ). has x j) (turned_bit (53 - j) (turned_on j o) ∙ ap (λ (x : ℕ). 2 ^ x) b) ∙ has_bit_same j)

-- ---- the bits turned round
-- after k digits of n, last first, come those of a
after_digits : (k n a i : ℕ) → has (reverse_bits_onto k n a) (k + i) ≡ has a i
unfolding reverse_bits_onto
after_digits zero n a i = ap (has a) (zero-add i)
after_digits (suc k) n a i =
    let next : suc k + i ≡ k + suc i = omega arith in
    let half : (a * 2 + n % 2) / 2 ≡ a = omega arith in
    ap (has (reverse_bits_onto k (n / 2) (a * 2 + n % 2))) next
    ∙ after_digits k (n / 2) (a * 2 + n % 2) (suc i)
    ∙ sym (has_half (a * 2 + n % 2) i) ∙ ap (λ (x : ℕ). has x i) half

digit_back : (k n a i : ℕ) → i < k → has (reverse_bits_onto k n a) i ≡ has n (k - suc i)
unfolding reverse_bits_onto
digit_back zero n a i h = absurd (omega arith)
digit_back (suc k) n a i h = go (eqb i k) refl (λ l. digit_back k (n / 2) (a * 2 + n % 2) i l)
  where
    m : ℕ
    m = a * 2 + n % 2

    go : (t : Bool) → eqb i k ≡ t → (i < k → has (reverse_bits_onto k (n / 2) m) i ≡ has (n / 2) (k - suc i)) → has (reverse_bits_onto (suc k) n a) i ≡ has n (suc k - suc i)
    go true q ih =
        let e = eqb-true i k q in
        let end : k + 0 ≡ i = omega (arith, e) in
        let low : m % 2 ≡ n % 2 = omega arith in
        let zero_left : 0 ≡ suc k - suc i = omega (arith, e) in
        ap (has (reverse_bits_onto k (n / 2) m)) (sym end) ∙ after_digits k (n / 2) m 0 ∙ has_low m ∙ ap (λ (x : ℕ). eqb x 1) low ∙ sym (has_low n) ∙ ap (has n) zero_left
    go false q ih =
        let ne = eqb-false i k q in
        let next : suc (k - suc i) ≡ suc k - suc i = omega (arith, ne) in
        ih (omega (arith, ne)) ∙ has_half n (k - suc i) ∙ ap (has n) next

-- the code's set is the definition's
pub turned_round : (s : ℕ) → bit_and (reverse_bits_onto 64 s 0 / 2 ^ 10) all ≡ rotated s
turned_round s =
    ext 54 _ (rotated s) (omega (arith, and_le_r (reverse_bits_onto 64 s 0 / 2 ^ 10) all, all_lt)) (rotated_lt s)
    (λ j l.
    let back : 64 - suc (10 + j) ≡ 53 - j = omega arith in
    has_and (reverse_bits_onto 64 s 0 / 2 ^ 10) all j
    ∙ ap₂ ◌&&◌ (has_shr (reverse_bits_onto 64 s 0) 10 j ∙ digit_back 64 s 0 (10 + j) (omega arith) ∙ ap (has s) back) (has_all j)
    ∙ swapped (has s (53 - j)) (on_board j) ∙ sym (has_rotated s j))
  where
    swapped : (a b : Bool) → (a && b) ≡ (b && a)
    swapped true true = refl
    swapped true false = refl
    swapped false true = refl
    swapped false false = refl

-- s has squares only
pub record Squares (s : ℕ) : Type 0 where
  pub fits : s < 2 ^ 54
  pub on : (i : ℕ) → has s i ≡ true → on_board i ≡ true

-- the board turned twice is the board
pub rotated_twice : (s : ℕ) → Squares s → rotated (rotated s) ≡ s
rotated_twice s q = ext 54 _ _ (rotated_lt (rotated s)) q.fits (λ j l. has_rotated (rotated s) j ∙ ap (λ (x : Bool). on_board j && x) (has_rotated s (53 - j)) ∙ go j l (on_board j) refl)
  where
    go : (j : ℕ) → j < 54 → (t : Bool) → on_board j ≡ t → (t && (on_board (53 - j) && has s (53 - (53 - j)))) ≡ has s j
    go j l true o =
        let b : 53 - (53 - j) ≡ j = omega arith in
        ap₂ ◌&&◌ (turned_on j o) (ap (has s) b)
    go j l false o = sym (off (has s j) refl)
      where
        off : (t : Bool) → has s j ≡ t → t ≡ false
        off true e = absurd (false≢true (sym o ∙ q.on j e))
        off false e = refl

-- what is summed over the turned set
pub sum_rotated : (f : ℕ → ℕ) (s : ℕ) → Squares s → sum_over f (rotated s) ≡ sum_over (λ i. f (53 - i)) s
sum_rotated f s q =
    over_board ◌+◌ 0 add_assoc add_comm zero-add f (rotated s) (rotated_lt s)
    ∙ fold_reverse ◌+◌ 0 add_assoc add_comm zero-add 54 (λ i. cond (has (rotated s) i) (f i) 0)
    ∙ fold_ext ◌+◌ 0 add_assoc add_comm zero-add 54 (λ i. cond (has (rotated s) (54 - suc i)) (f (54 - suc i)) 0) (λ i. cond (has s i) (f (53 - i)) 0) at
    ∙ sym (over_board ◌+◌ 0 add_assoc add_comm zero-add (λ i. f (53 - i)) s q.fits)
  where
    here : (i : ℕ) → i < 54 → has (rotated s) (53 - i) ≡ has s i
    here i l = has_rotated s (53 - i) ∙ go (has s i) refl
      where
        b : 53 - (53 - i) ≡ i
        b = omega arith

        go : (t : Bool) → has s i ≡ t → (on_board (53 - i) && has s (53 - (53 - i))) ≡ has s i
        go true e = ap₂ ◌&&◌ (turned_on i (q.on i e)) (ap (has s) b)
        go false e = ap (λ (x : Bool). on_board (53 - i) && x) (ap (has s) b ∙ e) ∙ mathlib.Core.Bool.and-false (on_board (53 - i)) ∙ sym e

    at : (i : ℕ) → i < 54 → cond (has (rotated s) (54 - suc i)) (f (54 - suc i)) 0 ≡ cond (has s i) (f (53 - i)) 0
    at i l =
        let e : 54 - suc i ≡ 53 - i = omega arith in
        ap₂ (λ (x : Bool) (n : ℕ). cond x (f n) 0) (ap (has (rotated s)) e ∙ here i l) e

pub size_rotated : (s : ℕ) → Squares s → size (rotated s) ≡ size s
size_rotated s q = size_sum (rotated s) ∙ sum_rotated (λ i. 1) s q ∙ sym (size_sum s)
