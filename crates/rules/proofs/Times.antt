-- How often an entry stands in a list, also in one without doubles.
use mathlib.Core.Path.{◌≡◌, refl, sym, ap, ap₂, ◌∙◌, subst}
use Rattle.std.specs.Prelude.{count_by}
use Rattle.std.proofs.lemmas.List.Sums.{sum_by-cons}
use Prim.Native.Nat.{ℕ, ◌+◌, ◌≤◌, ◌<◌}
use native.Mathlib.Omega.{arith}
use mathlib.Core.Bool.{Bool, true, false, cond}
use mathlib.Core.List.Memᴰ.{cases_cons}
use mathlib.Core.List.Memᴰ.{head}
use mathlib.Core.List.Memᴰ.{not-nil}
use mathlib.Core.List.Memᴰ.{tail}
use mathlib.Core.List.{List, [], ◌∷◌, ◌++◌, Memᴰ as Member}
use mathlib.Core.Logic.{◌⊎◌, inl, inr}
use Rattle.squares.proofs.Bools.{not_so}
use Rattle.rules.specs.Lists.{keep, times}
use Rattle.rules.proofs.Lists.{keep_yes, keep_no}
use Rattle.rules.proofs.Held.{Distinct, cons}

module _ {A : Type 0} (same : A → A → Bool) (x : A) where
  pub times_nil : 0 ≡ times same [] x
  unfolding times
  times_nil = refl

  pub times_one : (y : A) (b : Bool) → b ≡ same y x → times same (y ∷ []) x ≡ cond b 1 0
  unfolding times
  times_one y b e = let h = ap {B = ℕ} (λ (t : Bool). cond t 1 0) e in omega arith

  pub times_append : (ys zs : List A) → times same (ys ++ zs) x ≡ times same ys x + times same zs x
  unfolding times
  times_append [] zs = omega arith
  times_append (y ∷ ys) zs = let ih = times_append ys zs in omega arith

  -- as the count of the library
  pub times_counted : (l : List A) → count_by (λ (y : A). same y x) l ≡ times same l x
  unfolding times
  times_counted [] = refl
  times_counted (y ∷ l) = sum_by-cons _ y l ∙ ap (λ (n : ℕ). cond (same y x) 1 0 + n) (times_counted l)

  -- the entries that are x
  unfoldable pub is_it : A → Bool
  is_it y = same y x

  kept_none : (l : List A) → times same l x ≡ 0 → keep is_it l ≡ []
  unfolding times keep is_it
  kept_none [] h = refl
  kept_none (y ∷ l) h = go (same y x) refl (kept_none l) h
    where
      go : (t : Bool) → same y x ≡ t → (times same l x ≡ 0 → keep is_it l ≡ []) → cond t 1 0 + times same l x ≡ 0 → keep is_it (y ∷ l) ≡ []
      go true e ih k = absurd (omega arith)
      go false e ih k = keep_no is_it y l e ∙ ih (omega (arith, k))

  -- where it stands once, it alone is kept
  pub kept_one : ((y : A) → same y x ≡ true → y ≡ x) → (l : List A) → times same l x ≡ 1 → keep is_it l ≡ x ∷ []
  unfolding times keep is_it
  kept_one true_same [] h = absurd (omega arith)
  kept_one true_same (y ∷ l) h = go (same y x) refl (kept_one true_same l) h
    where
      go : (t : Bool) → same y x ≡ t → (times same l x ≡ 1 → keep is_it l ≡ x ∷ []) → cond t 1 0 + times same l x ≡ 1 → keep is_it (y ∷ l) ≡ x ∷ []
      go true e ih k = keep_yes is_it y l e ∙ ap₂ (λ (z : A) (r : List A). z ∷ r) (true_same y e) (kept_none l (omega arith))
      go false e ih k = keep_no is_it y l e ∙ ih (omega (arith, k))

module _ {A : Type 0} (same : A → A → Bool) (same_refl : (x : A) → same x x ≡ true) (same_true : (x y : A) → same x y ≡ true → x ≡ y) where
  times_none : (l : List A) (x : A) → (Member x l → ⊥) → times same l x ≡ 0
  unfolding times
  times_none [] x n = refl
  times_none (y ∷ l) x n =
      ap₂ (λ (t : Bool) (k : ℕ). cond t 1 0 + k) (not_so (same y x) (λ e. n (head (sym (same_true y x e))))) (times_none l x (λ m. n (tail m)))

  pub times_most : (l : List A) (x : A) → Distinct l → times same l x ≤ 1
  unfolding times
  times_most [] x d = omega arith
  times_most (y ∷ l) x (cons h d) = go (same y x) refl (times_most l x d)
    where
      go : (t : Bool) → same y x ≡ t → times same l x ≤ 1 → cond t 1 0 + times same l x ≤ 1
      go true e k = omega (arith, times_none l x (subst (λ z. Member z l → ⊥) (same_true y x e) h))
      go false e k = omega (arith, k)

  pub times_some : (l : List A) (x : A) → Member x l → 0 < times same l x
  unfolding times
  times_some [] x m = absurd (not-nil m)
  times_some (y ∷ l) x m = go (λ k. times_some l x k) (cases_cons m)
    where
      go : (Member x l → 0 < times same l x) → (x ≡ y) ⊎ Member x l → 0 < cond (same y x) 1 0 + times same l x
      go ih (inl e) = rw (ap (same y) e ∙ same_refl y) (omega arith)
      go ih (inr k) = omega (arith, ih k)
