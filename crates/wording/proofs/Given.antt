-- A number as it is given: what the code's tests say of it. More digits than the limit has are no number, so a line may be cut.
use Rattle.std.specs.Prelude.{None}
use Prim.Native.Nat.{ℕ, zero, suc, ◌+◌, ◌*◌, ◌^◌, ◌≤◌, ◌<◌}
use mathlib.Core.Path.{◌≡◌, refl, sym, ap, ◌∙◌, subst}
use mathlib.Core.Bool.{Bool, true, false, cond, ◌&&◌}
use mathlib.Core.List.{List, [], ◌∷◌}
use native.Mathlib.Nat.{mul_comm, mul_assoc, mul-le-mul_right, one-mul, pow-suc}
use native.Mathlib.Omega.{arith}
use lib.Dec.{eqb, leb, ltb}
use lib.ListN.{length, take, get_or, length-take}
use lib.Seq.{take_all}
use borrow.Author.Tests.{eqb-false, eq-eqb, ne_eqb, ltb-true, ltb-false, leb-true, leb-false}
use Rattle.squares.proofs.Bools.{and_left, and_right}
use Rattle.wording.specs.Numbers.{digit_of, value_from, number_in, needless, given_of}
use Rattle.wording.proofs.Values.{below_digits, decimal_digit, below_capitals, capital_digit, below_letters, letter_digit, above_letters}
use Rattle.std.specs.declared.option.Option.{Option}

-- ---- the code's tests
pub given_zero : (limit : ℕ) (s : List ℕ) → 1 < length s → get_or s 0 0 ≡ 48 → given_of limit s ≡ None
unfolding given_of needless
given_zero limit [] h e = absurd (omega arith)
given_zero limit (b ∷ []) h e = absurd (omega arith)
given_zero limit (b ∷ (c ∷ s)) h e = rw (eq-eqb b 48 e)

pub given_other : (limit : ℕ) (s : List ℕ) → (get_or s 0 0 ≡ 48 → ⊥) → given_of limit s ≡ number_in 10 limit s
unfolding given_of needless
given_other limit [] e = refl
given_other limit (b ∷ []) e = refl
given_other limit (b ∷ (c ∷ s)) e = rw (ne_eqb b 48 e)

pub given_short : (limit : ℕ) (s : List ℕ) → length s ≤ 1 → given_of limit s ≡ number_in 10 limit s
unfolding given_of needless
given_short limit [] h = refl
given_short limit (b ∷ []) h = refl
given_short limit (b ∷ (c ∷ s)) h = absurd (omega arith)

-- a plus is no digit
pub given_plus : (limit : ℕ) (s : List ℕ) → get_or s 0 0 ≡ 43 → given_of limit s ≡ None
unfolding given_of needless number_in value_from digit_of
given_plus limit [] e = refl
given_plus limit (b ∷ []) e = rw e
given_plus limit (b ∷ (c ∷ s)) e = rw e

-- ---- a digit is its byte less that of zero
pub digit_is : (b : ℕ) → digit_of b < 10 → b ≡ 48 + digit_of b
digit_is b h = go (ltb b 48) refl (leb b 57) refl (ltb b 65) refl (leb b 70) refl (ltb b 97) refl (leb b 102) refl
  where
    go : (t : Bool) → ltb b 48 ≡ t → (u : Bool) → leb b 57 ≡ u → (v : Bool) → ltb b 65 ≡ v → (w : Bool) → leb b 70 ≡ w → (x : Bool) → ltb b 97 ≡ x → (y : Bool) → leb b 102 ≡ y
        → b ≡ 48 + digit_of b
    go true e u f v g w i x j y k = absurd (omega (arith, h, below_digits b (ltb-true b 48 e)))
    go false e true f v g w i x j y k = omega (arith, decimal_digit b (ltb-false b 48 e) (leb-true b 57 f), ltb-false b 48 e)
    go false e false f true g w i x j y k = absurd (omega (arith, h, below_capitals b (leb-false b 57 f) (ltb-true b 65 g)))
    go false e false f false g true i x j y k = absurd (omega (arith, h, capital_digit b (ltb-false b 65 g) (leb-true b 70 i)))
    go false e false f false g false i true j y k = absurd (omega (arith, h, below_letters b (leb-false b 70 i) (ltb-true b 97 j)))
    go false e false f false g false i false j true k = absurd (omega (arith, h, letter_digit b (ltb-false b 97 j) (leb-true b 102 k)))
    go false e false f false g false i false j false k = absurd (omega (arith, h, above_letters b (leb-false b 102 k)))

-- ---- too many digits for the limit
module _ (limit : ℕ) where
  abbrev picked : ℕ → ℕ → List ℕ → Bool → Option ℕ
  picked v b s t = cond t (value_from 10 limit (v * 10 + digit_of b) s) None

  grown : (v d p : ℕ) → limit < v * (p * 10) → limit < (v * 10 + d) * p
  grown v d p h =
      let e : v * (p * 10) ≡ v * 10 * p = ap (λ (x : ℕ). v * x) (mul_comm p 10) ∙ sym (mul_assoc v 10 p) in
      let l : v * 10 * p ≤ (v * 10 + d) * p = mul-le-mul_right p (omega arith) in
      omega (arith, e, l)

  long_bad : (k v : ℕ) (s : List ℕ) → suc k ≤ length s → limit < v * 10 ^ suc k → value_from 10 limit v s ≡ None
  unfolding value_from
  long_bad k v [] h l = absurd (omega arith)
  long_bad zero v (b ∷ s) h l = go (ltb (digit_of b) 10 && leb (v * 10 + digit_of b) limit) refl
    where
      go : (t : Bool) → (ltb (digit_of b) 10 && leb (v * 10 + digit_of b) limit) ≡ t → picked v b s t ≡ None
      go false e = refl
      go true e =
          let q : 10 ^ 1 ≡ 10 = refl in
          absurd (omega (arith, l, q, leb-true (v * 10 + digit_of b) limit (and_right (ltb (digit_of b) 10) _ e)))
  long_bad (suc k) v (b ∷ s) h l =
      go (ltb (digit_of b) 10 && leb (v * 10 + digit_of b) limit)
      (long_bad k (v * 10 + digit_of b) s (omega arith) (grown v (digit_of b) (10 ^ suc k) (subst (λ (x : ℕ). limit < v * x) (pow-suc 10 (suc k)) l)))
    where
      go : (t : Bool) → value_from 10 limit (v * 10 + digit_of b) s ≡ None → picked v b s t ≡ None
      go false ih = refl
      go true ih = ih

  pub given_long : (k : ℕ) (s : List ℕ) → suc (suc k) ≤ length s → limit < 10 ^ suc k → given_of limit s ≡ None
  unfolding given_of needless number_in value_from
  given_long k [] h l = absurd (omega arith)
  given_long k (b ∷ []) h l = absurd (omega arith)
  given_long k (b ∷ (c ∷ s)) h l = go (eqb b 48) refl (ltb (digit_of b) 10 && leb (0 * 10 + digit_of b) limit) refl
    where
      go : (t : Bool) → eqb b 48 ≡ t → (u : Bool) → (ltb (digit_of b) 10 && leb (0 * 10 + digit_of b) limit) ≡ u → cond t None (picked 0 b (c ∷ s) u) ≡ None
      go true e u f = refl
      go false e false f = refl
      go false e true f =
          let d = digit_is b (ltb-true (digit_of b) 10 (and_left (ltb (digit_of b) 10) _ f)) in
          let n = eqb-false b 48 e in
          let o : 1 ≤ 0 * 10 + digit_of b = omega (arith, d, n) in
          let m : 1 * 10 ^ suc k ≤ (0 * 10 + digit_of b) * 10 ^ suc k = mul-le-mul_right (10 ^ suc k) o in
          let one : 1 * 10 ^ suc k ≡ 10 ^ suc k = one-mul (10 ^ suc k) in
          long_bad k (0 * 10 + digit_of b) (c ∷ s) (omega arith) (omega (arith, l, m, one))

  -- what is cut off changes nothing
  pub given_cut : (k m : ℕ) (s : List ℕ) → suc (suc k) ≤ m → limit < 10 ^ suc k → given_of limit (take m s) ≡ given_of limit s
  given_cut k m s h l = go (leb (length s) m) refl
    where
      go : (t : Bool) → leb (length s) m ≡ t → given_of limit (take m s) ≡ given_of limit s
      go true e = ap (given_of limit) (take_all m s (leb-true (length s) m e))
      go false e =
          let q = leb-false (length s) m e in
          given_long k (take m s) (omega (arith, length-take m s, q)) l ∙ sym (given_long k s (omega (arith, q)) l)
