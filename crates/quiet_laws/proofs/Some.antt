-- Whether a list has an entry, and whether some entry passes a test.
use mathlib.Core.Path.{◌≡◌, refl, sym, ap, ap₂, ◌∙◌}
use Prim.Native.Nat.{ℕ, ◌^◌, ◌<◌}
use native.Mathlib.Omega.{arith}
use mathlib.Core.Bool.{Bool, true, false, not, ◌||◌, false≢true, or-true}
use mathlib.Core.List.Memᴰ.{head}
use mathlib.Core.List.Memᴰ.{tail}
use mathlib.Core.List.{List, [], ◌∷◌, Memᴰ as Member}
use lib.Dec.{eqb}
use borrow.Author.Tests.{eqb-true, eqb-false}
use Rattle.squares.specs.Sets.{members}
use Rattle.squares.proofs.Members.{members_cons, members_none}
use Rattle.rules.specs.Lists.{concat_map, keep, some}
use Rattle.rules.proofs.Lists.{keep_yes, keep_no, none_some, some_append}
use Rattle.quiets.specs.Tests.{any_in}

-- ---- a list has an entry
module _ {A B : Type 0} where
  pub some_concat_map : (f : A → List B) (l : List A) → some (concat_map f l) ≡ any_in (λ x. some (f x)) l
  unfolding some concat_map any_in
  some_concat_map f [] = refl
  some_concat_map f (x ∷ xs) = some_append (f x) (concat_map f xs) ∙ ap (λ (c : Bool). some (f x) || c) (some_concat_map f xs)

pub some_keep : {A : Type 0} (p : A → Bool) (l : List A) → some (keep p l) ≡ any_in p l
unfolding some keep any_in
some_keep p [] = refl
some_keep {A} p (x ∷ xs) = go (p x) refl (some_keep p xs)
  where
    go : (t : Bool) → p x ≡ t → some (keep p xs) ≡ any_in p xs → some (keep p (x ∷ xs)) ≡ (p x || any_in p xs)
    go true e ih = ap some (keep_yes p x xs e) ∙ ap (λ (c : Bool). c || any_in p xs) (sym e)
    go false e ih = ap some (keep_no p x xs e) ∙ ih ∙ ap (λ (c : Bool). c || any_in p xs) (sym e)

-- a set has members exactly where it is not the number 0
pub some_members : (s : ℕ) → s < 2 ^ 64 → not (eqb s 0) ≡ some (members s)
some_members s h = go (eqb s 0) refl
  where
    go : (t : Bool) → eqb s 0 ≡ t → not t ≡ some (members s)
    go true e = sym (ap (λ (n : ℕ). some (members n)) (eqb-true s 0 e) ∙ none_some (members 0) members_none)
    go false e = sym (ap some (members_cons s (omega (arith, eqb-false s 0 e)) h) ∙ unfold some in refl)

-- ---- an entry passes
module _ {A : Type 0} where
  pub any_ext : (p q : A → Bool) (l : List A) → ((x : A) → Member x l → p x ≡ q x) → any_in p l ≡ any_in q l
  unfolding any_in
  any_ext p q [] h = refl
  any_ext p q (x ∷ xs) h = ap₂ (λ (a b : Bool). a || b) (h x (head refl)) (any_ext p q xs (λ y m. h y (tail m)))

  any_false : (l : List A) → any_in (λ (x : A). false) l ≡ false
  unfolding any_in
  any_false [] = refl
  any_false (x ∷ xs) = any_false xs

  any_or : (p q : A → Bool) (l : List A) → any_in (λ x. p x || q x) l ≡ (any_in p l || any_in q l)
  unfolding any_in
  any_or p q [] = refl
  any_or p q (x ∷ xs) = ap (λ (c : Bool). (p x || q x) || c) (any_or p q xs) ∙ go (p x) (q x) (any_in p xs) (any_in q xs)
    where
      go : (a b c d : Bool) → ((a || b) || (c || d)) ≡ ((a || c) || (b || d))
      go true b c d = refl
      go false true true d = refl
      go false true false d = refl
      go false false c d = refl

  -- the entry that passes
  pub record Found (p : A → Bool) (l : List A) : Type 0 where
    pub at : A
    pub among : Member at l
    pub passes : p at ≡ true

  pub any_found : (p : A → Bool) (l : List A) → any_in p l ≡ true → Found p l
  unfolding any_in
  any_found p [] e = absurd (false≢true e)
  any_found p (x ∷ xs) e = go (p x) refl e (any_found p xs)
    where
      go : (t : Bool) → p x ≡ t → (t || any_in p xs) ≡ true → (any_in p xs ≡ true → Found p xs) → Found p (x ∷ xs)
      go true q r ih = record { at = x; among = head refl; passes = q }
      go false q r ih = let f = ih r in record { at = f.at; among = tail f.among; passes = f.passes }

  pub found_any : (p : A → Bool) {x : A} {l : List A} → Member x l → p x ≡ true → any_in p l ≡ true
  unfolding any_in
  found_any p (head {xs = xs} e) q = ap (λ (c : Bool). c || any_in p xs) (ap p (sym e) ∙ q)
  found_any p (tail {x = z} {xs = xs} m) q = ap (λ (c : Bool). p z || c) (found_any p m q) ∙ or-true (p z)

pub any_swap : {A B : Type 0} (p : A → B → Bool) (xs : List A) (ys : List B) → any_in (λ x. any_in (p x) ys) xs ≡ any_in (λ y. any_in (λ x. p x y) xs) ys
unfolding any_in
any_swap p [] ys = sym (any_false ys)
any_swap p (x ∷ xs) ys = ap (λ (c : Bool). any_in (p x) ys || c) (any_swap p xs ys) ∙ sym (any_or (p x) (λ y. any_in (λ z. p z y) xs) ys)
