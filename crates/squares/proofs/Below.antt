-- A law of every number below n is one computed test; so is a law of all 50 squares or of their 54 bits.
use Rattle.std.proofs.Common.{◌≡◌, ℕ, zero, suc, ◌<◌, Bool, true, false, ◌&&◌, eqb, refl, ap, ◌∙◌, not-suc-le-zero, arith, eqb-true}
use borrow.Author.Tests.{eqb-false}
use Rattle.squares.proofs.Bools.{and_left, and_right}

unfoldable pub below : ℕ → (ℕ → Bool) → Bool
below zero p = true
below (suc n) p = below n p && p n

pub below_at : (n : ℕ) (p : ℕ → Bool) → below n p ≡ true → (i : ℕ) → i < n → p i ≡ true
unfolding below
below_at zero p e i h = absurd (not-suc-le-zero h)
below_at (suc n) p e i h = go (eqb i n) refl (below_at n p (and_left (below n p) (p n) e) i)
  where
    go : (t : Bool) → eqb i n ≡ t → (i < n → p i ≡ true) → p i ≡ true
    go true q ih = ap p (eqb-true i n q) ∙ and_right (below n p) (p n) e
    go false q ih = ih (omega (arith, eqb-false i n q))
