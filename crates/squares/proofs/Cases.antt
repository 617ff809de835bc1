-- What belongs to a difference, to a union, to one bit; and one member fewer.
use Rattle.std.proofs.Common.{◌≡◌, ℕ, ◌^◌, ◌<◌, Bool, true, false, not, ◌&&◌, ◌||◌, ◌⊎◌, sym, refl, ap, ◌∙◌, ap₂, inl, inr, true≢false, eqb-true}
use mathlib.Core.Bool.{or-true}
use lib.Bits.{bit_or, or_lt}
use lib.Pow.{pow-lt}
use borrow.Author.Tests.{not-true}
use Rattle.squares.specs.Sets.{has, size, without}
use Rattle.squares.proofs.Bools.{and_left, and_right, not_so}
use Rattle.squares.proofs.Pointwise.{has_or, has_bit, has_bit_same, member_lt, without_lt, has_without}
use Rattle.squares.proofs.Sizes.{size_lt}

-- what belongs to a difference
pub of_without : (a b : ℕ) → a < 2 ^ 64 → b < 2 ^ 64 → (i : ℕ) → has (without a b) i ≡ true → (has a i ≡ true) × (has b i ≡ false)
of_without a b ha hb i h =
    let both = sym (has_without a b ha hb i (member_lt 64 (without a b) i (without_lt a b ha) h)) ∙ h in
    (and_left (has a i) (not (has b i)) both, not-true (has b i) (and_right (has a i) (not (has b i)) both))

pub in_without : (a b : ℕ) → a < 2 ^ 64 → b < 2 ^ 64 → (i : ℕ) → has a i ≡ true → has b i ≡ false → has (without a b) i ≡ true
in_without a b ha hb i p q = has_without a b ha hb i (member_lt 64 a i ha p) ∙ ap₂ (λ (x y : Bool). x && not y) p q

or_cases : (x y : Bool) → (x || y) ≡ true → (x ≡ true) ⊎ (y ≡ true)
or_cases true y e = inl refl
or_cases false y e = inr e

-- what belongs to a union
pub of_or : (a b i : ℕ) → has (bit_or a b) i ≡ true → (has a i ≡ true) ⊎ (has b i ≡ true)
of_or a b i h = or_cases (has a i) (has b i) (sym (has_or a b i) ∙ h)

pub of_bit : (j i : ℕ) → has (2 ^ j) i ≡ true → i ≡ j
of_bit j i h = eqb-true i j (sym (has_bit j i) ∙ h)

-- a member of a that leaves with t and o, but not with t alone, makes the rest smaller
pub size_falls : (a t o : ℕ) → a < 2 ^ 64 → t < 2 ^ 64 → o < 64 → has a o ≡ true → has t o ≡ false
    → size (without a (bit_or t (2 ^ o))) < size (without a t)
size_falls a t o ha ht l p q =
    size_lt (without a t) (without a (bit_or t (2 ^ o))) o (without_lt a t ha) (without_lt a (bit_or t (2 ^ o)) ha)
    (λ i k h. let r = of_without a (bit_or t (2 ^ o)) ha both i h in in_without a t ha ht i r.0 (none i r.1))
    (in_without a t ha ht o p q)
    (not_so _ (λ h. true≢false (sym (has_or t (2 ^ o) o ∙ ap (λ (x : Bool). has t o || x) (has_bit_same o) ∙ or-true (has t o))
    ∙ (of_without a (bit_or t (2 ^ o)) ha both o h).1)))
  where
    both : bit_or t (2 ^ o) < 2 ^ 64
    both = or_lt 64 t (2 ^ o) ht (pow-lt l)

    none : (i : ℕ) → has (bit_or t (2 ^ o)) i ≡ false → has t i ≡ false
    none i h = not_so (has t i) (λ e. true≢false (sym (has_or t (2 ^ o) i ∙ ap (λ (x : Bool). x || has (2 ^ o) i) e) ∙ h))
