-- A set that is stepped on and on runs off the board: 64 steps are enough.
use mathlib.Core.Path.{◌≡◌, refl, sym, ap, ◌∙◌}
use Prim.Native.Nat.{ℕ, zero, suc, ◌+◌, ◌-◌, ◌*◌, ◌%◌, ◌^◌, ◌≤◌, ◌<◌}
use native.Mathlib.Nat.{pow-suc, mod-lt}
use native.Mathlib.Omega.{arith}
use mathlib.Core.Bool.{Bool, true, false, false≢true}
use lib.Bits.{bit_and, and_le_l}
use lib.Count.{count_trailing_zeros, trailing_le}
use lib.Dec.{ltb}
use lib.Pow.{pow_pos}
use borrow.Author.Tests.{ltb-true, ltb-false}
use Rattle.squares.specs.Sets.{has, lowest}
use Rattle.squares.specs.Directions.{Direction, up_left, up_right, down_left, down_right, shifted}
use Rattle.squares.proofs.Bools.{and_left}
use Rattle.squares.proofs.Pointwise.{has_and, has_mod, has_shl, has_shl_low}
use Rattle.squares.proofs.Members.{lowest_in, lowest_lt, none_below}

-- ---- the lowest member
-- a member is not below the lowest
pub not_below : (s j : ℕ) → has s j ≡ true → lowest s ≤ j
not_below s j e = go (ltb j (lowest s)) refl
  where
    go : (t : Bool) → ltb j (lowest s) ≡ t → lowest s ≤ j
    go true q = absurd (false≢true (sym (none_below 64 s j (ltb-true j (lowest s) q)) ∙ e))
    go false q = ltb-false j (lowest s) q

-- of a part of a set
lowest_and : (a b : ℕ) → a < 2 ^ 64 → lowest a ≤ lowest (bit_and a b)
unfolding count_trailing_zeros
lowest_and a b h = go (bit_and a b) refl
  where
    go : (x : ℕ) → x ≡ bit_and a b → lowest a ≤ lowest x
    go zero e = trailing_le 64 a
    go (suc x) e =
        let lt : suc x < 2 ^ 64 = omega (arith, and_le_l a b) in
        not_below a (lowest (suc x)) (and_left _ _ (sym (has_and a b (lowest (suc x))) ∙ ap (λ (y : ℕ). has y (lowest (suc x))) (sym e) ∙ lowest_in 64 (suc x) (omega arith) lt))

-- of a set shifted down by k places
down : (k s : ℕ) → 0 < k → k ≤ 6 → s < 2 ^ 64 → 0 < s → lowest s < lowest ((s * 2 ^ k) % 2 ^ 64)
unfolding count_trailing_zeros
down k s p l h q = go ((s * 2 ^ k) % 2 ^ 64) refl
  where
    at : (j : ℕ) → j < 64 → has (s * 2 ^ k) j ≡ true → (t : Bool) → ltb j k ≡ t → lowest s < j
    at j m e true r = absurd (false≢true (sym (has_shl_low s k j (ltb-true j k r)) ∙ e))
    at j m e false r =
        let high : k ≤ j = ltb-false j k r in
        let back : j ≡ k + (j - k) = omega arith in
        omega (arith, not_below s (j - k) (sym (has_shl s k (j - k)) ∙ ap (has (s * 2 ^ k)) (sym back) ∙ e))

    go : (x : ℕ) → x ≡ (s * 2 ^ k) % 2 ^ 64 → lowest s < lowest x
    go zero e = lowest_lt 64 s q h
    go (suc x) e =
        let lt : suc x < 2 ^ 64 = omega (arith, mod-lt (s * 2 ^ k) (pow_pos 64)) in
        let j = lowest (suc x) in
        let jl : j < 64 = lowest_lt 64 (suc x) (omega arith) lt in
        at j jl (sym (has_mod 64 (s * 2 ^ k) j jl) ∙ ap (λ (y : ℕ). has y j) (sym e) ∙ lowest_in 64 (suc x) (omega arith) lt) (ltb j k) refl

-- ---- n steps are enough to bring s off the board
abbrev pub Enough : Direction → ℕ → ℕ → Type 0
Enough up_left n s = s < 2 ^ n
Enough up_right n s = s < 2 ^ n
Enough down_left n s = 64 ≤ n + lowest s
Enough down_right n s = 64 ≤ n + lowest s

pub enough_64 : (d : Direction) (s : ℕ) → s < 2 ^ 64 → Enough d 64 s
enough_64 up_left s h = h
enough_64 up_right s h = h
enough_64 down_left s h = omega arith
enough_64 down_right s h = omega arith

pub enough_0 : (d : Direction) (s : ℕ) → s < 2 ^ 64 → Enough d 0 s → s ≡ 0
enough_0 up_left s h e = omega arith
enough_0 up_right s h e = omega arith
enough_0 down_left zero h e = refl
enough_0 down_left (suc s) h e = absurd (omega (arith, lowest_lt 64 (suc s) (omega arith) h))
enough_0 down_right zero h e = refl
enough_0 down_right (suc s) h e = absurd (omega (arith, lowest_lt 64 (suc s) (omega arith) h))

pub enough_step : (d : Direction) (n s : ℕ) → s < 2 ^ 64 → (s ≡ 0 → ⊥) → Enough d (suc n) s → Enough d n (shifted d s)
unfolding shifted
enough_step up_left n s h f e = omega (arith, pow-suc 2 n)
enough_step up_right n s h f e = omega (arith, pow-suc 2 n)
enough_step down_left n s h f e = omega (arith, down 5 s (omega arith) (omega arith) h (omega arith))
enough_step down_right n s h f e = omega (arith, down 6 s (omega arith) (omega arith) h (omega arith))

-- and for a part of it
pub enough_and : (d : Direction) (n s m : ℕ) → s < 2 ^ 64 → Enough d n s → Enough d n (bit_and s m)
enough_and up_left n s m h e = omega (arith, and_le_l s m)
enough_and up_right n s m h e = omega (arith, and_le_l s m)
enough_and down_left n s m h e = omega (arith, lowest_and s m h)
enough_and down_right n s m h e = omega (arith, lowest_and s m h)

-- ---- nothing steps to nothing
pub step_none : (d : Direction) → shifted d 0 ≡ 0
unfolding shifted
step_none up_left = refl
step_none up_right = refl
step_none down_left = refl
step_none down_right = refl

-- where nothing is jumped, there is nothing to land on
pub no_land : (d : Direction) (o m : ℕ) → o ≡ 0 → bit_and (shifted d o) m ≡ 0
no_land d o m z = ap (λ (x : ℕ). bit_and x m) (ap (shifted d) z ∙ step_none d)
