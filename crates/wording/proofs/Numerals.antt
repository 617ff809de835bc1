-- The digits that are written are as few as there can be, and so are those of the definitions.
use Prim.Native.Nat.{ℕ, zero, suc, ◌-◌, ◌*◌, ◌/◌, ◌^◌, ◌≤◌, ◌<◌}
use mathlib.Core.Path.{◌≡◌, refl, ap, ◌∙◌}
use mathlib.Core.List.{List}
use mathlib.Core.Bool.{Bool, true, false}
use native.Mathlib.Omega.{arith}
use native.Mathlib.Nat.{pow-suc, pow-zero, pow-le-pow_right, div-lt_iff_lt-mul, le-div_iff_mul-le}
use lib.Dec.{ltb}
use borrow.Author.Tests.{ltb-true, ltb-false}
use Rattle.io.specs.Digits.{last_digits, IsDigitCount}
use Rattle.wording.specs.Output.{places, decimal, hex, hash}

module _ (b : ℕ) (large : 1 < b) where
  first : b ^ 1 ≡ b
  first = pow-suc b 0 ∙ ap (λ (x : ℕ). x * b) (pow-zero b) ∙ omega arith

  -- a number of one digit
  one : (n k : ℕ) → n < b → IsDigitCount b 1 n k → k ≡ 1
  one n zero h (a, l, m) = absurd (omega arith)
  one n (suc zero) h (a, l, m) = refl
  one n (suc (suc k)) h (a, l, m) =
      let lo : b ^ (suc (suc k) - 1) ≤ n = m (omega arith) in
      let up : b ^ 1 ≤ b ^ (suc (suc k) - 1) = pow-le-pow_right {n = b} (omega arith) (omega arith) in
      absurd (omega (arith, lo, up, first))

  -- a number of more: the digits of its quotient, and one
  record Less (n k : ℕ) : Type 0 where
    rest : ℕ
    more : k ≡ suc rest
    fewest : IsDigitCount b 1 (n / b) rest

  less : (n k : ℕ) → b ≤ n → IsDigitCount b 1 n k → Less n k
  less n zero h (a, l, m) = absurd (omega arith)
  less n (suc zero) h (a, l, m) = absurd (omega (arith, first))
  less n (suc (suc k)) h (a, l, m) =
      record {
        rest = suc k;
        more = refl;
        fewest = (
          omega arith,
          (div-lt_iff_lt-mul {k = b} {x = n} {y = b ^ suc k} (omega arith)).1 (omega (arith, pow-suc b (suc k))),
          λ g. (le-div_iff_mul-le {k = b} {x = b ^ (suc k - 1)} {y = n} (omega arith)).1 (low g),
        );
      }
    where
      low : 1 < suc k → b ^ (suc k - 1) * b ≤ n
      low g =
          let e : suc (suc k) - 1 ≡ suc (suc k - 1) = omega arith in
          let q : b ^ (suc (suc k) - 1) ≡ b ^ (suc k - 1) * b = ap (λ (x : ℕ). b ^ x) e ∙ pow-suc b (suc k - 1) in
          let lo : b ^ (suc (suc k) - 1) ≤ n = m (omega arith) in
          omega (arith, q, lo)

  step : (f n k : ℕ) → ((m j : ℕ) → m < b ^ suc f → IsDigitCount b 1 m j → j ≡ places b f m) → n < b ^ suc (suc f) → IsDigitCount b 1 n k
      → (t : Bool) → ltb n b ≡ t → k ≡ elim t [ true ↦ 1 | false ↦ suc (places b f (n / b)) ]
  step f n k i h g true e = one n k (ltb-true n b e) g
  step f n k i h g false e =
      let l = less n k (ltb-false n b e) g in
      l.more ∙ ap suc (i (n / b) l.rest ((div-lt_iff_lt-mul {k = b} {x = n} {y = b ^ suc f} (omega arith)).1 (omega (arith, pow-suc b (suc f)))) l.fewest)

  pub fewest_places : (f n k : ℕ) → n < b ^ suc f → IsDigitCount b 1 n k → k ≡ places b f n
  unfolding places
  fewest_places zero n k h g = one n k (omega (arith, first)) g
  fewest_places (suc f) n k h g = step f n k (λ m j x y. fewest_places f m j x y) h g (ltb n b) refl

pub decimal_is : (n k : ℕ) (t : List ℕ) → n < 2 ^ 64 → IsDigitCount 10 1 n k → t ≡ last_digits 10 k n → t ≡ decimal n
unfolding decimal
decimal_is n k t h g e = e ∙ ap (λ (x : ℕ). last_digits 10 x n) (fewest_places 10 (omega arith) 19 n k (omega arith) g)

pub hex_is : (n k : ℕ) (t : List ℕ) → n < 2 ^ 64 → IsDigitCount 16 1 n k → t ≡ last_digits 16 k n → t ≡ hex n
unfolding hex
hex_is n k t h g e = e ∙ ap (λ (x : ℕ). last_digits 16 x n) (fewest_places 16 (omega arith) 15 n k (omega arith) g)

sixteen : (n k : ℕ) → n < 2 ^ 64 → IsDigitCount 16 16 n k → k ≡ 16
sixteen n k h (a, l, m) = go (ltb 16 k) refl
  where
    go : (t : Bool) → ltb 16 k ≡ t → k ≡ 16
    go true e =
        let lo : 16 ^ (k - 1) ≤ n = m (ltb-true 16 k e) in
        let up : 16 ^ 16 ≤ 16 ^ (k - 1) = pow-le-pow_right {n = 16} (omega arith) {i = 16} {j = k - 1} (omega (arith, ltb-true 16 k e)) in
        absurd (omega (arith, lo, up))
    go false e = omega (arith, a, ltb-false 16 k e)

pub hash_is : (n k : ℕ) (t : List ℕ) → n < 2 ^ 64 → IsDigitCount 16 16 n k → t ≡ last_digits 16 k n → t ≡ hash n
unfolding hash
hash_is n k t h g e = e ∙ ap (λ (x : ℕ). last_digits 16 x n) (sixteen n k h g)
