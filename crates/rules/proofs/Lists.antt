-- Membership in a list made of lists, of images, of the entries that pass.
use mathlib.Core.Path.{◌≡◌, refl, sym, ap, ◌∙◌, subst}
use mathlib.Core.Bool.{Bool, true, false, cond, ◌||◌, true≢false, false≢true}
use mathlib.Core.List.Memᴰ.{append_cases as in-cases}
use mathlib.Core.List.Memᴰ.{append_left as in_left}
use mathlib.Core.List.Memᴰ.{append_right as in_right}
use mathlib.Core.List.Memᴰ.{cases_cons}
use mathlib.Core.List.Memᴰ.{head}
use mathlib.Core.List.Memᴰ.{not-nil}
use mathlib.Core.List.Memᴰ.{tail}
use mathlib.Core.List.{List, [], ◌∷◌, ◌++◌, map, append_assoc, Memᴰ as Member}
use mathlib.Core.Logic.{◌⊎◌, inl, inr}
use Rattle.rules.specs.Lists.{concat_map, keep, some}

-- ---- a list has an entry
module _ {A : Type 0} where
  pub some_none : (l : List A) → some l ≡ false → l ≡ []
  unfolding some
  some_none [] e = refl
  some_none (x ∷ xs) e = absurd (true≢false e)

  pub none_some : (l : List A) → l ≡ [] → some l ≡ false
  unfolding some
  none_some l e = ap some e

  pub some_in : (l : List A) {x : A} → Member x l → some l ≡ true
  unfolding some
  some_in [] m = absurd (not-nil m)
  some_in (y ∷ l) m = refl

  pub of_some : (l : List A) → some l ≡ true → (x : A) × Member x l
  unfolding some
  of_some [] e = absurd (false≢true e)
  of_some (x ∷ xs) e = (x, head refl)

  pub some_append : (xs ys : List A) → some (xs ++ ys) ≡ (some xs || some ys)
  unfolding some
  some_append [] ys = refl
  some_append (x ∷ xs) ys = refl

module _ {A B : Type 0} where
  pub some_map : (f : A → B) (l : List A) → some (map f l) ≡ some l
  unfolding some
  some_map f [] = refl
  some_map f (x ∷ xs) = refl

-- ---- a list made of lists
module _ {A B : Type 0} where
  pub in_concat_map : (f : A → List B) {x : A} {y : B} {xs : List A} → Member x xs → Member y (f x) → Member y (concat_map f xs)
  unfolding concat_map
  in_concat_map f {x} {y} (head {xs = xs} e) m = in_left (concat_map f xs) (subst (λ z. Member y (f z)) e m)
  in_concat_map f (tail {x = z} h) m = in_right (f z) (in_concat_map f h m)

  pub of_concat_map : (f : A → List B) (xs : List A) {y : B} → Member y (concat_map f xs) → (x : A) × Member x xs × Member y (f x)
  unfolding concat_map
  of_concat_map f [] m = absurd (not-nil m)
  of_concat_map f (x ∷ xs) {y} m = go (λ h. of_concat_map f xs h) (in-cases (f x) m)
    where
      go : (Member y (concat_map f xs) → (z : A) × Member z xs × Member y (f z)) → Member y (f x) ⊎ Member y (concat_map f xs)
          → (z : A) × Member z (x ∷ xs) × Member y (f z)
      go ih (inl h) = (x, head refl, h)
      go ih (inr h) = let r = ih h in (r.0, tail r.1, r.2)

  pub concat_map_append : (f : A → List B) (xs ys : List A) → concat_map f (xs ++ ys) ≡ concat_map f xs ++ concat_map f ys
  unfolding concat_map
  concat_map_append f [] ys = refl
  concat_map_append f (x ∷ xs) ys = ap (λ (z : List B). f x ++ z) (concat_map_append f xs ys)
      ∙ sym (append_assoc (f x) (concat_map f xs) (concat_map f ys))

pub concat_map_concat_map : {A B C : Type 0} (f : B → List C) (g : A → List B) (xs : List A)
    → concat_map f (concat_map g xs) ≡ concat_map (λ x. concat_map f (g x)) xs
unfolding concat_map
concat_map_concat_map f g [] = refl
concat_map_concat_map f g (x ∷ xs) = concat_map_append f (g x) (concat_map g xs) ∙ ap (λ z. concat_map f (g x) ++ z) (concat_map_concat_map f g xs)

module _ {A B : Type 0} where
  pub in_map : (f : A → B) {x : A} {xs : List A} → Member x xs → Member (f x) (map f xs)
  in_map f (head e) = head (ap f e)
  in_map f (tail h) = tail (in_map f h)

  pub of_map : (f : A → B) (xs : List A) {y : B} → Member y (map f xs) → (x : A) × Member x xs × (y ≡ f x)
  of_map f [] m = absurd (not-nil m)
  of_map f (x ∷ xs) {y} (head e) = (x, head refl, e)
  of_map f (x ∷ xs) {y} (tail h) = let r = of_map f xs h in (r.0, tail r.1, r.2)

module _ {A : Type 0} where
  pub keep_yes : (p : A → Bool) (x : A) (xs : List A) → p x ≡ true → keep p (x ∷ xs) ≡ x ∷ keep p xs
  unfolding keep
  keep_yes p x xs e = rw (e, keep) refl

  pub keep_no : (p : A → Bool) (x : A) (xs : List A) → p x ≡ false → keep p (x ∷ xs) ≡ keep p xs
  unfolding keep
  keep_no p x xs e = rw (e, keep) refl

  pub in_keep : (p : A → Bool) {x : A} {xs : List A} → Member x xs → p x ≡ true → Member x (keep p xs)
  in_keep p {x} (head {x = z} {xs = xs} e) q = rw (keep_yes p z xs (ap p (sym e) ∙ q)) (head e)
  in_keep p {x} (tail {x = z} {xs = xs} h) q = go (in_keep p h q) (p z) refl
    where
      go : Member x (keep p xs) → (b : Bool) → p z ≡ b → Member x (keep p (z ∷ xs))
      go m true r = rw (keep_yes p z xs r) (tail m)
      go m false r = rw (keep_no p z xs r) m

  pub of_keep : (p : A → Bool) (xs : List A) {x : A} → Member x (keep p xs) → Member x xs × (p x ≡ true)
  unfolding keep
  of_keep p [] m = absurd (not-nil m)
  of_keep p (z ∷ xs) {x} m = go (λ h. of_keep p xs h) (p z) refl
    where
      cases : p z ≡ true → (Member x (keep p xs) → Member x xs × (p x ≡ true)) → Member x (z ∷ keep p xs) → Member x (z ∷ xs) × (p x ≡ true)
      cases r ih (head e) = (head e, ap p e ∙ r)
      cases r ih (tail h) = (tail (ih h).0, (ih h).1)

      go : (Member x (keep p xs) → Member x xs × (p x ≡ true)) → (b : Bool) → p z ≡ b → Member x (z ∷ xs) × (p x ≡ true)
      go ih true r = cases r ih (rw (keep_yes p z xs r) at m)
      go ih false r = let h = ih (rw (keep_no p z xs r) at m) in (tail h.0, h.1)

  -- where none passes, nothing is kept
  pub keep_none : (p : A → Bool) (xs : List A) → ((x : A) → Member x xs → p x ≡ false) → keep p xs ≡ []
  unfolding keep
  keep_none p [] h = refl
  keep_none p (x ∷ xs) h = keep_no p x xs (h x (head refl)) ∙ keep_none p xs (λ y m. h y (tail m))

  -- two tests that agree on the entries
  pub keep_ext : (p q : A → Bool) (xs : List A) → ((x : A) → Member x xs → p x ≡ q x) → keep p xs ≡ keep q xs
  unfolding keep
  keep_ext p q [] h = refl
  keep_ext p q (x ∷ xs) h = go (q x) refl (keep_ext p q xs (λ y m. h y (tail m)))
    where
      go : (t : Bool) → q x ≡ t → keep p xs ≡ keep q xs → keep p (x ∷ xs) ≡ keep q (x ∷ xs)
      go true e ih = keep_yes p x xs (h x (head refl) ∙ e) ∙ ap (λ (k : List A). x ∷ k) ih ∙ sym (keep_yes q x xs e)
      go false e ih = keep_no p x xs (h x (head refl) ∙ e) ∙ ih ∙ sym (keep_no q x xs e)

  -- one entry more at the end
  pub keep_snoc : (p : A → Bool) (xs : List A) (x : A) → keep p (xs ++ (x ∷ [])) ≡ cond (p x) (keep p xs ++ (x ∷ [])) (keep p xs)
  unfolding keep
  keep_snoc p [] x = go (p x) refl
    where
      go : (t : Bool) → p x ≡ t → keep p (x ∷ []) ≡ cond t (keep p [] ++ (x ∷ [])) (keep p [])
      go true e = keep_yes p x [] e
      go false e = keep_no p x [] e
  keep_snoc p (y ∷ xs) x = go (p y) refl (keep_snoc p xs x)
    where
      moved : (t : Bool) (k : List A) → y ∷ cond t (k ++ (x ∷ [])) k ≡ cond t ((y ∷ k) ++ (x ∷ [])) (y ∷ k)
      moved true k = refl
      moved false k = refl

      go : (t : Bool) → p y ≡ t → keep p (xs ++ (x ∷ [])) ≡ cond (p x) (keep p xs ++ (x ∷ [])) (keep p xs)
          → keep p (y ∷ (xs ++ (x ∷ []))) ≡ cond (p x) (keep p (y ∷ xs) ++ (x ∷ [])) (keep p (y ∷ xs))
      go true e ih =
          keep_yes p y (xs ++ (x ∷ [])) e ∙ ap (λ (k : List A). y ∷ k) ih ∙ moved (p x) (keep p xs)
          ∙ sym (ap (λ (k : List A). cond (p x) (k ++ (x ∷ [])) k) (keep_yes p y xs e))
      go false e ih = keep_no p y (xs ++ (x ∷ [])) e ∙ ih ∙ sym (ap (λ (k : List A). cond (p x) (k ++ (x ∷ [])) k) (keep_no p y xs e))

-- ---- a list of one
pub in_one : {A : Type 0} {x y : A} → Member y (x ∷ []) → y ≡ x
in_one {A} {x} {y} m = go (cases_cons m)
  where
    go : (y ≡ x) ⊎ Member y [] → y ≡ x
    go (inl e) = e
    go (inr h) = absurd (not-nil h)
