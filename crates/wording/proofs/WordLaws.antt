-- The same text, byte by byte, and how many spaces there are.
use Rattle.std.specs.Prelude.{count_by, ◌==◌}
use Rattle.std.proofs.lemmas.List.Sums.{sum_by-cons}
use Prim.Native.Nat.{ℕ, ◌+◌}
use mathlib.Core.Path.{◌≡◌, refl, ap, ◌∙◌}
use mathlib.Core.List.{List, [], ◌∷◌}
use mathlib.Core.Bool.{Bool, cond, ◌&&◌}
use lib.Dec.{eqb}
use lib.Pointwise.{pointwise}
use Rattle.wording.specs.Words.{same_text, blanks_in}

-- ---- the same text
pub same_pointwise : (a b : List ℕ) → pointwise eqb a b ≡ same_text a b
unfolding same_text
same_pointwise [] [] = refl
same_pointwise [] (y ∷ b) = refl
same_pointwise (x ∷ a) [] = refl
same_pointwise (x ∷ a) (y ∷ b) = ap (λ (t : Bool). eqb x y && t) (same_pointwise a b)

-- ---- spaces
pub blanks_counted : (s : List ℕ) → count_by (λ b. b == 32) s ≡ blanks_in s
unfolding blanks_in
blanks_counted [] = refl
blanks_counted (b ∷ s) = sum_by-cons _ b s ∙ ap (λ (n : ℕ). cond (eqb b 32) 1 0 + n) (blanks_counted s)
