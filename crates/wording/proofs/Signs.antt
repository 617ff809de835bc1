-- The text of a signed number of 32 bits, by whether the code finds it negative.
use mathlib.Core.Path.{◌≡◌, refl, sym, ap, ◌∙◌}
use Prim.Native.Nat.{ℕ}
use native.Mathlib.Omega.{arith}
use mathlib.Core.Bool.{true, false, true≢false}
use mathlib.Core.List.{◌∷◌}
use lib.IntN.{ℤ, pos, negsuc, nat_abs}
use lib.Signed.{lt_z}
use mir.Syntax.{w32}
use mir.Val.{SFits, to_z, of_z}
use mir.Facts.{to_z-of_z}
use borrow.Author.Tests.{ltb-true}
use Rattle.wording.specs.Output.{decimal, signed}

abbrev pub held : ℤ → ℤ
held z = to_z w32 (of_z w32 z)

-- k is the number without its sign
module _ (z : ℤ) (k : ℕ) (f : SFits w32 z) (e : k ≡ nat_abs (held z)) where
  size : k ≡ nat_abs z
  size = e ∙ ap nat_abs (to_z-of_z f)

  pub negative_text : lt_z (held z) (pos 0) ≡ true → 45 ∷ decimal k ≡ signed z
  unfolding signed
  negative_text t = ap (λ (x : ℕ). 45 ∷ decimal x) size ∙ go z (ap (λ (x : ℤ). lt_z x (pos 0)) (sym (to_z-of_z f)) ∙ t)
    where
      go : (y : ℤ) → lt_z y (pos 0) ≡ true → 45 ∷ decimal (nat_abs y) ≡ signed y
      go (pos n) t = absurd (omega (arith, ltb-true n 0 t))
      go (negsuc n) t = refl

  pub other_text : lt_z (held z) (pos 0) ≡ false → decimal k ≡ signed z
  unfolding signed
  other_text t = ap decimal size ∙ go z (ap (λ (x : ℤ). lt_z x (pos 0)) (sym (to_z-of_z f)) ∙ t)
    where
      go : (y : ℤ) → lt_z y (pos 0) ≡ false → decimal (nat_abs y) ≡ signed y
      go (pos n) t = refl
      go (negsuc n) t = absurd (true≢false t)
