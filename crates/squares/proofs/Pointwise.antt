-- What each operation of the code does to the members of a set: one pointwise law an operation, and extensionality.
use Rattle.std.proofs.Common.{◌≡◌, ℕ, zero, suc, ◌+◌, ◌-◌, ◌*◌, ◌/◌, ◌%◌, ◌^◌, ◌<◌, ◌≤◌, Bool, true, false, cond, not, ◌&&◌, ◌||◌, eqb, ltb, sym, refl, ap, ◌∙◌, ap₂, true≢false, suc-le-suc, lt_of_lt_of_le, le_of_suc-le-suc, not-suc-le-zero, lt_of_le_of_lt, mod-lt, zero-lt-suc, mul_comm, div-lt_iff_lt-mul, one-mul, pow-suc, div-one, mul-div_cancel, sub-le, add-one, arith, lit<, pow_mono, shl_exact, shr-shr, ltb-false, ltb-true, eq-eqb, ne_eqb, eqb-true}
use native.Mathlib.Nat.{div-div-eq-div-mul, zero-div, mul-mod_left, div-eq_of_lt}
use mathlib.Core.Bool.{xor, and-false, false≢true}
use lib.Dec.{eqb-suc-suc, eqb-suc-zero, eqb-zero-suc}
use lib.Bits.{bit_and, bit_or, bit_xor, and_shr, or_shr, xor_shr, and_mod, or_mod, xor_mod, shifted_half, shifted_even, and_le_l, or_lt, or_disjoint}
use lib.Pow.{shl-shr, mod-mod-pow, field, pow-lt}
use Rattle.squares.specs.Sets.{has, without}
use Rattle.squares.proofs.Bools.{at2, iff, iff_eq, tested}

pub two_pos : 0 < 2
two_pos = zero-lt-suc 1

pub half_lt : {a : ℕ} (k : ℕ) → a < 2 ^ suc k → a / 2 < 2 ^ k
half_lt {a} k h = (div-lt_iff_lt-mul two_pos).1 (rw pow-suc at h)

-- ---- and, or, exclusive or: one law for any operation on digits
module _ (op : ℕ → ℕ → ℕ) (f : Bool → Bool → Bool)
    (shr : (a b k : ℕ) → op a b / 2 ^ k ≡ op (a / 2 ^ k) (b / 2 ^ k))
    (low : (a b k : ℕ) → op a b % 2 ^ k ≡ op (a % 2 ^ k) (b % 2 ^ k))
    (small : (x y : ℕ) → x < 2 → y < 2 → eqb (op x y) 1 ≡ f (eqb x 1) (eqb y 1)) where
  has_op : (a b i : ℕ) → has (op a b) i ≡ f (has a i) (has b i)
  unfolding has
  has_op a b i =
      ap (λ (x : ℕ). eqb (x % 2) 1) (shr a b i) ∙ ap (λ (x : ℕ). eqb x 1) (low (a / 2 ^ i) (b / 2 ^ i) 1)
      ∙ small (a / 2 ^ i % 2) (b / 2 ^ i % 2) (mod-lt (a / 2 ^ i) two_pos) (mod-lt (b / 2 ^ i) two_pos)

-- a fact of two digits is one of four
digits : (P : ℕ → ℕ → Type 0) → P 0 0 → P 0 1 → P 1 0 → P 1 1 → (x y : ℕ) → x < 2 → y < 2 → P x y
digits P p q r s zero zero h l = p
digits P p q r s zero (suc zero) h l = q
digits P p q r s (suc zero) zero h l = r
digits P p q r s (suc zero) (suc zero) h l = s
digits P p q r s zero (suc (suc y)) h l = absurd (omega arith)
digits P p q r s (suc zero) (suc (suc y)) h l = absurd (omega arith)
digits P p q r s (suc (suc x)) y h l = absurd (omega arith)

pub has_and : (a b i : ℕ) → has (bit_and a b) i ≡ (has a i && has b i)
has_and = has_op bit_and ◌&&◌ and_shr and_mod (digits (λ x y. eqb (bit_and x y) 1 ≡ (eqb x 1 && eqb y 1)) refl refl refl refl)

pub has_or : (a b i : ℕ) → has (bit_or a b) i ≡ (has a i || has b i)
has_or = has_op bit_or ◌||◌ or_shr or_mod (digits (λ x y. eqb (bit_or x y) 1 ≡ (eqb x 1 || eqb y 1)) refl refl refl refl)

pub has_xor : (a b i : ℕ) → has (bit_xor a b) i ≡ xor (has a i) (has b i)
unfolding xor
has_xor = has_op bit_xor xor xor_shr xor_mod (digits (λ x y. eqb (bit_xor x y) 1 ≡ xor (eqb x 1) (eqb y 1)) refl refl refl refl)

-- ---- digit by digit
pub has_zero : (i : ℕ) → has 0 i ≡ false
unfolding has
has_zero i = ap (λ (x : ℕ). eqb (x % 2) 1) (zero-div (2 ^ i))

pub has_low : (a : ℕ) → has a 0 ≡ eqb (a % 2) 1
unfolding has
has_low a = ap (λ (x : ℕ). eqb (x % 2) 1) (div-one a)

pub has_half : (a i : ℕ) → has (a / 2) i ≡ has a (suc i)
unfolding has
has_half a i = ap (λ (x : ℕ). eqb (x % 2) 1) (div-div-eq-div-mul a 2 (2 ^ i) ∙ ap (λ (x : ℕ). a / x) (mul_comm 2 (2 ^ i) ∙ sym (pow-suc 2 i)))

-- the set of bit j alone
pub has_bit : (j i : ℕ) → has (2 ^ j) i ≡ eqb i j
unfolding has
has_bit zero zero = refl
has_bit zero (suc i) = sym (has_half 1 i) ∙ has_zero i ∙ sym (eqb-suc-zero i)
has_bit (suc j) zero =
    has_low (2 ^ suc j) ∙ ap (λ (x : ℕ). eqb x 1) (ap (λ (x : ℕ). x % 2) (pow-suc 2 j) ∙ mul-mod_left (2 ^ j) 2) ∙ sym (eqb-zero-suc j)
has_bit (suc j) (suc i) =
    sym (has_half (2 ^ suc j) i)
    ∙ ap (λ (x : ℕ). has x i) (ap (λ (x : ℕ). x / 2) (pow-suc 2 j) ∙ mul-div_cancel (2 ^ j) two_pos)
    ∙ has_bit j i ∙ sym (eqb-suc-suc i j)

pub has_bit_same : (i : ℕ) → has (2 ^ i) i ≡ true
has_bit_same i = has_bit i i ∙ eq-eqb i i refl

pub has_bit_other : (j i : ℕ) → (i ≡ j → ⊥) → has (2 ^ j) i ≡ false
has_bit_other j i n = has_bit j i ∙ ne_eqb i j n

-- ---- shifts
-- a >> k
pub has_shr : (a k i : ℕ) → has (a / 2 ^ k) i ≡ has a (k + i)
unfolding has
has_shr a k i = ap (λ (x : ℕ). eqb (x % 2) 1) (shr-shr a k i)

-- a << k, before it is cut to 64 bits
pub has_shl : (a k i : ℕ) → has (a * 2 ^ k) (k + i) ≡ has a i
has_shl a k i = sym (has_shr (a * 2 ^ k) k i) ∙ ap (λ (x : ℕ). has x i) (shl-shr a k)

pub has_shl_low : (a k i : ℕ) → i < k → has (a * 2 ^ k) i ≡ false
has_shl_low a zero i h = absurd (not-suc-le-zero h)
has_shl_low a (suc k) zero h = has_low (a * 2 ^ suc k) ∙ ap (λ (x : ℕ). eqb x 1) (shifted_even a k)
has_shl_low a (suc k) (suc i) h =
    sym (has_half (a * 2 ^ suc k) i) ∙ ap (λ (x : ℕ). has x i) (shifted_half a k) ∙ has_shl_low a k i (le_of_suc-le-suc h)

-- a cut to k digits
pub has_mod : (k a i : ℕ) → i < k → has (a % 2 ^ k) i ≡ has a i
has_mod zero a i h = absurd (not-suc-le-zero h)
has_mod (suc k) a zero h =
    has_low (a % 2 ^ suc k) ∙ ap (λ (x : ℕ). eqb x 1) (ap (λ (x : ℕ). a % x % 2) (ap (λ (n : ℕ). 2 ^ n) (sym (add-one k))) ∙ mod-mod-pow a k 1) ∙ sym (has_low a)
has_mod (suc k) a (suc i) h =
    sym (has_half (a % 2 ^ suc k) i)
    ∙ ap (λ (x : ℕ). has x i) (ap (λ (n : ℕ). a % 2 ^ n / 2) (sym (add-one k)) ∙ field a k 1)
    ∙ has_mod k (a / 2) i (le_of_suc-le-suc h) ∙ has_half a i

-- past its digits a number has none
pub has_past : (k s i : ℕ) → s < 2 ^ k → k ≤ i → has s i ≡ false
unfolding has
has_past k s i h l = ap (λ (x : ℕ). eqb (x % 2) 1) (div-eq_of_lt (lt_of_lt_of_le h (pow_mono l)))

-- a member of a set of k bits is below k
pub member_lt : (k s i : ℕ) → s < 2 ^ k → has s i ≡ true → i < k
member_lt k s i h e = go (ltb i k) refl
  where
    go : (t : Bool) → ltb i k ≡ t → i < k
    go true q = ltb-true i k q
    go false q = absurd (false≢true (sym (has_past k s i h (ltb-false i k q)) ∙ e))

-- ---- !a among k digits
not_half : (p a : ℕ) → a < p * 2 → (p * 2 - 1 - a) / 2 ≡ p - 1 - a / 2
not_half p a h = omega arith

not_low : (p a : ℕ) → a < p * 2 → (p * 2 - 1 - a) % 2 ≡ 1 - a % 2
not_low p a h = omega arith

not_digit : (x : ℕ) → x < 2 → eqb (1 - x) 1 ≡ not (eqb x 1)
not_digit x h = digits (λ x y. eqb (1 - x) 1 ≡ not (eqb x 1)) refl refl refl refl x 0 h two_pos

pub has_not : (k a i : ℕ) → a < 2 ^ k → i < k → has (2 ^ k - 1 - a) i ≡ not (has a i)
has_not zero a i ha h = absurd (not-suc-le-zero h)
has_not (suc k) a zero ha h =
    has_low (2 ^ suc k - 1 - a)
    ∙ ap (λ (x : ℕ). eqb x 1) (ap (λ (x : ℕ). (x - 1 - a) % 2) (pow-suc 2 k) ∙ not_low (2 ^ k) a (rw pow-suc at ha))
    ∙ not_digit (a % 2) (mod-lt a two_pos) ∙ ap not (sym (has_low a))
has_not (suc k) a (suc i) ha h =
    sym (has_half (2 ^ suc k - 1 - a) i)
    ∙ ap (λ (x : ℕ). has x i) (ap (λ (x : ℕ). (x - 1 - a) / 2) (pow-suc 2 k) ∙ not_half (2 ^ k) a (rw pow-suc at ha))
    ∙ has_not k (a / 2) i (half_lt k ha) (le_of_suc-le-suc h) ∙ ap not (has_half a i)

-- ---- extensionality: equal members, equal sets
digit_eq : (x y : ℕ) → x < 2 → y < 2 → eqb x 1 ≡ eqb y 1 → x ≡ y
digit_eq = digits (λ x y. eqb x 1 ≡ eqb y 1 → x ≡ y) (λ e. refl) (λ e. absurd (false≢true e)) (λ e. absurd (true≢false e)) (λ e. refl)

low_eq : (a b : ℕ) → has a 0 ≡ has b 0 → a % 2 ≡ b % 2
low_eq a b e = digit_eq (a % 2) (b % 2) (mod-lt a two_pos) (mod-lt b two_pos) (sym (has_low a) ∙ e ∙ has_low b)

pub ext : (k a b : ℕ) → a < 2 ^ k → b < 2 ^ k → ((i : ℕ) → i < k → has a i ≡ has b i) → a ≡ b
ext zero a b ha hb h = omega arith
ext (suc k) a b ha hb h =
    let halves : a / 2 ≡ b / 2 = ext k (a / 2) (b / 2) (half_lt k ha) (half_lt k hb)
    (λ i l. has_half a i ∙ h (suc i) (suc-le-suc l) ∙ sym (has_half b i)) in
    let lows : a % 2 ≡ b % 2 = low_eq a b (h 0 (zero-lt-suc k)) in
    omega arith

pub none_zero : (s : ℕ) → s < 2 ^ 64 → ((i : ℕ) → i < 64 → has s i ≡ false) → s ≡ 0
none_zero s h f = ext 64 s 0 h (lit< tt) (λ i l. f i l ∙ sym (has_zero i))

-- ---- bounds
pub and_lt : (a b : ℕ) → a < 2 ^ 64 → bit_and a b < 2 ^ 64
and_lt a b h = lt_of_le_of_lt (and_le_l a b) h

pub without_le : (a b : ℕ) → without a b ≤ a
unfolding without
without_le a b = sub-le a (bit_and a b)

pub without_lt : (a b : ℕ) → a < 2 ^ 64 → without a b < 2 ^ 64
without_lt a b h = lt_of_le_of_lt (without_le a b) h

-- ---- a & !b
module _ (a b : ℕ) (ha : a < 2 ^ 64) (hb : b < 2 ^ 64) where
  abbrev cut : ℕ
  cut = bit_and a (2 ^ 64 - 1 - b)

  has_cut : (i : ℕ) → i < 64 → has cut i ≡ (has a i && not (has b i))
  has_cut i l = has_and a (2 ^ 64 - 1 - b) i ∙ ap (λ (x : Bool). has a i && x) (has_not 64 b i hb l)

  cut_apart : bit_and cut (bit_and a b) ≡ 0
  unfolding tested
  cut_apart = none_zero _ (and_lt _ _ (and_lt a _ ha)) (λ i l.
      has_and cut (bit_and a b) i ∙ ap₂ ◌&&◌ (has_cut i l) (has_and a b i)
      ∙ iff_eq _ _ (at2 (λ x y. iff ((x && not y) && (x && y)) false) refl (has a i) (has b i)))

  cut_joined : bit_or cut (bit_and a b) ≡ a
  unfolding tested
  cut_joined = ext 64 _ _ (or_lt 64 _ _ (and_lt a _ ha) (and_lt a b ha)) ha (λ i l.
      has_or cut (bit_and a b) i ∙ ap₂ ◌||◌ (has_cut i l) (has_and a b i)
      ∙ iff_eq _ _ (at2 (λ x y. iff ((x && not y) || (x && y)) x) refl (has a i) (has b i)))

  -- what the code writes for a difference
  pub and_not : bit_and a (2 ^ 64 - 1 - b) ≡ without a b
  unfolding without
  and_not = omega (arith, or_disjoint cut (bit_and a b) cut_apart, cut_joined)

  pub has_without : (i : ℕ) → i < 64 → has (without a b) i ≡ (has a i && not (has b i))
  has_without i l = ap (λ (x : ℕ). has x i) (sym and_not) ∙ has_cut i l

-- ---- one bit against a set
pub one_bit : (j : ℕ) → j < 64 → (1 * 2 ^ j) % 2 ^ 64 ≡ 2 ^ j
one_bit j l = shl_exact 1 j 64 (lit< tt) (omega arith) ∙ one-mul (2 ^ j)

at_bit : (s i j : ℕ) → (has s i && eqb i j) ≡ (has s j && eqb i j)
at_bit s i j = go (eqb i j) refl
  where
    go : (t : Bool) → eqb i j ≡ t → (has s i && t) ≡ (has s j && t)
    go true e = ap (λ (n : ℕ). has s n && true) (eqb-true i j e)
    go false e = and-false (has s i) ∙ sym (and-false (has s j))

pub and_bit : (s j : ℕ) → j < 64 → bit_and s (2 ^ j) ≡ cond (has s j) (2 ^ j) 0
and_bit s j l = go (has s j) refl
  where
    lt : bit_and s (2 ^ j) < 2 ^ 64
    lt = omega (arith, lib.Bits.and_le_r s (2 ^ j), pow-lt l)

    at : (i : ℕ) → has (bit_and s (2 ^ j)) i ≡ (has s j && eqb i j)
    at i = has_and s (2 ^ j) i ∙ ap (λ (x : Bool). has s i && x) (has_bit j i) ∙ at_bit s i j

    go : (t : Bool) → has s j ≡ t → bit_and s (2 ^ j) ≡ cond t (2 ^ j) 0
    go true q = ext 64 _ _ lt (pow-lt l) (λ i k. at i ∙ ap (λ (x : Bool). x && eqb i j) q ∙ sym (has_bit j i))
    go false q = none_zero _ lt (λ i k. at i ∙ ap (λ (x : Bool). x && eqb i j) q)

-- `s & bit != 0`
pub bit_test : (s j : ℕ) → j < 64 → not (eqb (bit_and s (2 ^ j)) 0) ≡ has s j
bit_test s j l = ap (λ (x : ℕ). not (eqb x 0)) (and_bit s j l) ∙ go (has s j)
  where
    go : (t : Bool) → not (eqb (cond t (2 ^ j) 0) 0) ≡ t
    go true = ap not (ne_eqb (2 ^ j) 0 (λ z. omega (arith, lib.Pow.pow_pos j)))
    go false = refl

-- a set within another: nothing is left of the difference
pub within_le : (a b : ℕ) → without a b ≡ 0 → a ≤ b
unfolding without
within_le a b e = omega (arith, and_le_l a b, lib.Bits.and_le_r a b)

pub within_none : (a b : ℕ) → a < 2 ^ 64 → b < 2 ^ 64 → without a b ≡ 0 → (i : ℕ) → has a i ≡ true → has b i ≡ true
within_none a b ha hb e i p = go (has b i) refl
  where
    go : (t : Bool) → has b i ≡ t → t ≡ true
    go true q = refl
    go false q = absurd (false≢true (sym (has_zero i) ∙ ap (λ (x : ℕ). has x i) (sym e) ∙ has_without a b ha hb i (member_lt 64 a i ha p) ∙ ap₂ (λ (x y : Bool). x && not y) p q))

pub none_within : (a b : ℕ) → a < 2 ^ 64 → b < 2 ^ 64 → ((i : ℕ) → i < 64 → has a i ≡ true → has b i ≡ true) → without a b ≡ 0
none_within a b ha hb f = none_zero _ (without_lt a b ha) (λ i l. has_without a b ha hb i l ∙ go i l (has a i) refl)
  where
    go : (i : ℕ) → i < 64 → (t : Bool) → has a i ≡ t → (t && not (has b i)) ≡ false
    go i l true p = ap not (f i l p)
    go i l false p = refl
