-- A loop over the members of a set that takes the lowest and clears it is a fold, with any state and step.
use Rattle.std.proofs.Common.{◌≡◌, ℕ, ◌-◌, ◌^◌, ◌<◌, sym, ap, ◌∙◌, arith}
use mathlib.Core.List.{foldl}
use lib.Bits.{bit_and, and_le_r}
use Rattle.squares.specs.Sets.{lowest, members}
use Rattle.squares.proofs.Members.{members_cons, members_none, lowest_lt}

pub cleared : (m : ℕ) → 0 < m → bit_and m (m - 1) < m
cleared m p = omega (arith, and_le_r m (m - 1))

module _ {S : Type 0} (f : S → ℕ → S) where
  -- the state s and the members m that are left give the whole
  pub record Left (whole s : S) (m : ℕ) : Type 0 where
    pub fold : foldl f s (members m) ≡ whole
    pub fits : m < 2 ^ 64

  pub next_lt : {whole s : S} {m : ℕ} → Left whole s m → 0 < m → lowest m < 64
  next_lt {whole} {s} {m} l p = lowest_lt 64 m p l.fits

  pub turn : {whole s r : S} {m : ℕ} → Left whole s m → 0 < m → r ≡ f s (lowest m) → Left whole r (bit_and m (m - 1))
  turn {whole} {s} {r} {m} l p e =
      record {
        fold = ap (λ (t : S). foldl f t (members (bit_and m (m - 1)))) e ∙ ap (foldl f s) (sym (members_cons m p l.fits)) ∙ l.fold;
        fits = omega (arith, cleared m p, l.fits);
      }

  pub done : {whole s : S} {m : ℕ} → Left whole s m → m ≡ 0 → s ≡ whole
  done {whole} {s} {m} l z = ap (foldl f s) (sym members_none) ∙ ap (λ (n : ℕ). foldl f s (members n)) (sym z) ∙ l.fold
