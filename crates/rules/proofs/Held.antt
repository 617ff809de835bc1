-- What a fold has taken in already changes nothing; the members of the longest; no doubles.
use mathlib.Core.Path.{◌≡◌, refl, sym, ap, ◌∙◌, subst}
use Prim.Native.Nat.{ℕ, ◌≤◌, ◌<◌, max}
use native.Mathlib.Omega.{arith}
use mathlib.Core.Bool.{Bool, true, false, ◌||◌, false≢true, or-true}
use mathlib.Core.List.Memᴰ.{append_cases as in-cases}
use mathlib.Core.List.Memᴰ.{append_left as in_left}
use mathlib.Core.List.Memᴰ.{append_right as in_right}
use mathlib.Core.List.Memᴰ.{cases_cons}
use mathlib.Core.List.Memᴰ.{eq_of_singleton as singleton}
use mathlib.Core.List.Memᴰ.{head}
use mathlib.Core.List.Memᴰ.{not-nil}
use mathlib.Core.List.Memᴰ.{tail}
use mathlib.Core.List.{List, [], ◌∷◌, ◌++◌, foldl, Memᴰ as Member}
use mathlib.Core.Logic.{◌⊎◌, inl, inr}
use lib.Dec.{eqb}
use borrow.Author.Tests.{eqb-true, eq-eqb}
use Rattle.rules.specs.Lists.{contains, add, distinct, best, longest}
use Rattle.rules.proofs.Fold.{Found, found, note, note_zero, note_less, note_more, note_same, Case, none, less, more, equal, case}
use Rattle.rules.proofs.Lists.{in_keep, of_keep}

-- no doubles
pub data Distinct {A : Type 0} : List A → Type 0 where
  nil : Distinct []
  cons : {x : A} {xs : List A} → (Member x xs → ⊥) → Distinct xs → Distinct (x ∷ xs)

-- x is among xs and none of them is longer
pub record Longest {A : Type 0} (size : A → ℕ) (xs : List A) (x : A) : Type 0 where
  pub among : Member x xs
  pub most : (y : A) → Member y xs → size y ≤ size x

-- a search that has x already, or has no use for it
pub data Held {A : Type 0} (size : A → ℕ) (s : Found A) (x : A) : Type 0 where
  nothing : size x ≡ 0 → Held size s x
  short : size x < s.most → Held size s x
  kept : size x ≡ s.most → Member x s.list → Held size s x

module _ {A : Type 0} (same : A → A → Bool) (same_refl : (x : A) → same x x ≡ true) (same_true : (x y : A) → same x y ≡ true → x ≡ y) where
  pub contains_member : (l : List A) (x : A) → contains same l x ≡ true → Member x l
  unfolding contains
  contains_member [] x e = absurd (false≢true e)
  contains_member (y ∷ l) x e = go (λ h. contains_member l x h) (same y x) refl e
    where
      go : (contains same l x ≡ true → Member x l) → (b : Bool) → same y x ≡ b → (b || contains same l x) ≡ true → Member x (y ∷ l)
      go ih true p q = head (sym (same_true y x p))
      go ih false p q = tail (ih q)

  pub member_contains : (l : List A) (x : A) → Member x l → contains same l x ≡ true
  unfolding contains
  member_contains [] x m = absurd (not-nil m)
  member_contains (y ∷ l) x m = go (λ h. member_contains l x h) (cases_cons m)
    where
      go : (Member x l → contains same l x ≡ true) → (x ≡ y) ⊎ Member x l → (same y x || contains same l x) ≡ true
      go ih (inl e) = ap (λ (z : A). same y z || contains same l x) e ∙ ap (λ (b : Bool). b || contains same l x) (same_refl y)
      go ih (inr h) = ap (λ (b : Bool). same y x || b) (ih h) ∙ or-true (same y x)

  add_there : (l : List A) (x : A) → contains same l x ≡ true → add same l x ≡ l
  unfolding add
  add_there l x e = rw e refl

  add_new : (l : List A) (x : A) → contains same l x ≡ false → add same l x ≡ l ++ (x ∷ [])
  unfolding add
  add_new l x e = rw e refl

  pub data Adds (l : List A) (x : A) : Type 0 where
    there : Member x l → add same l x ≡ l → Adds l x
    new : (Member x l → ⊥) → add same l x ≡ l ++ (x ∷ []) → Adds l x

  pub adds : (l : List A) (x : A) → Adds l x
  adds l x = go (contains same l x) refl
    where
      go : (b : Bool) → contains same l x ≡ b → Adds l x
      go true e = there (contains_member l x e) (add_there l x e)
      go false e = new (λ m. false≢true (sym e ∙ member_contains l x m)) (add_new l x e)

  in_add : (l : List A) (x y : A) → Member y l → Member y (add same l x)
  in_add l x y m = go (adds l x)
    where
      go : Adds l x → Member y (add same l x)
      go (there h e) = rw e m
      go (new h e) = rw e (in_left (x ∷ []) m)

  in_added : (l : List A) (x : A) → Member x (add same l x)
  in_added l x = go (adds l x)
    where
      go : Adds l x → Member x (add same l x)
      go (there h e) = rw e h
      go (new h e) = rw e (in_right l (head refl))

  of_add : (l : List A) (x y : A) → Member y (add same l x) → Member y l ⊎ (y ≡ x)
  of_add l x y m = go (adds l x)
    where
      last : Member y l ⊎ Member y (x ∷ []) → Member y l ⊎ (y ≡ x)
      last (inl h) = inl h
      last (inr h) = inr (singleton h)

      go : Adds l x → Member y l ⊎ (y ≡ x)
      go (there h e) = inl (rw e at m)
      go (new h e) = last (in-cases l (rw e at m))

  in_adds : (xs l : List A) (y : A) → Member y l → Member y (foldl (add same) l xs)
  in_adds [] l y m = m
  in_adds (x ∷ xs) l y m = in_adds xs (add same l x) y (in_add l x y m)

  in_fold : (xs l : List A) (y : A) → Member y xs → Member y (foldl (add same) l xs)
  in_fold [] l y m = absurd (not-nil m)
  in_fold (x ∷ xs) l y m = go (λ h. in_fold xs (add same l x) y h) (cases_cons m)
    where
      go : (Member y xs → Member y (foldl (add same) (add same l x) xs)) → (y ≡ x) ⊎ Member y xs → Member y (foldl (add same) (add same l x) xs)
      go ih (inl e) = in_adds xs (add same l x) y (subst (λ z. Member z (add same l x)) (sym e) (in_added l x))
      go ih (inr h) = ih h

  of_fold : (xs l : List A) (y : A) → Member y (foldl (add same) l xs) → Member y l ⊎ Member y xs
  of_fold [] l y m = inl m
  of_fold (x ∷ xs) l y m = go (of_fold xs (add same l x) y m)
    where
      first : Member y l ⊎ (y ≡ x) → Member y l ⊎ Member y (x ∷ xs)
      first (inl h) = inl h
      first (inr e) = inr (head e)

      go : Member y (add same l x) ⊎ Member y xs → Member y l ⊎ Member y (x ∷ xs)
      go (inl h) = first (of_add l x y h)
      go (inr h) = inr (tail h)

  pub in_distinct : (xs : List A) (y : A) → Member y xs → Member y (distinct same xs)
  unfolding distinct
  in_distinct xs y m = in_fold xs [] y m

  pub of_distinct : (xs : List A) (y : A) → Member y (distinct same xs) → Member y xs
  unfolding distinct
  of_distinct xs y m = go (of_fold xs [] y m)
    where
      go : Member y [] ⊎ Member y xs → Member y xs
      go (inl h) = absurd (not-nil h)
      go (inr h) = h

  -- ---- no doubles
  snoc : (l : List A) (x : A) → (Member x l → ⊥) → Distinct l → Distinct (l ++ (x ∷ []))
  snoc [] x n d = cons not-nil nil
  snoc (y ∷ l) x n (cons h d) = cons (λ m. go (in-cases l m)) (snoc l x (λ m. n (tail m)) d)
    where
      go : Member y l ⊎ Member y (x ∷ []) → ⊥
      go (inl k) = h k
      go (inr k) = n (head (sym (singleton k)))

  fold_distinct : (xs l : List A) → Distinct l → Distinct (foldl (add same) l xs)
  fold_distinct [] l d = d
  fold_distinct (x ∷ xs) l d = fold_distinct xs (add same l x) (go (adds l x))
    where
      go : Adds l x → Distinct (add same l x)
      go (there h e) = rw e d
      go (new h e) = rw e (snoc l x h d)

  pub distinct_law : (xs : List A) → Distinct (distinct same xs)
  unfolding distinct
  distinct_law xs = fold_distinct xs [] nil

  -- ---- the members of the longest
  module _ (size : A → ℕ) where
    pub best_le : (xs : List A) (y : A) → Member y xs → size y ≤ best size xs
    unfolding best
    best_le [] y m = absurd (not-nil m)
    best_le (x ∷ xs) y m = go (λ h. best_le xs y h) (cases_cons m)
      where
        go : (Member y xs → size y ≤ best size xs) → (y ≡ x) ⊎ Member y xs → size y ≤ max (size x) (best size xs)
        go ih (inl e) = omega (arith, ap size e)
        go ih (inr h) = omega (arith, ih h)

    pub best_least : (xs : List A) (k : ℕ) → ((y : A) → Member y xs → size y ≤ k) → best size xs ≤ k
    unfolding best
    best_least [] k h = omega arith
    best_least (x ∷ xs) k h = omega (arith, h x (head refl), best_least xs k (λ y m. h y (tail m)))

    pub of_longest : (xs : List A) (x : A) → Member x (longest same size xs) → Longest size xs x
    unfolding longest
    of_longest xs x m =
        let h = of_keep (λ y. eqb (size y) (best size xs)) xs (of_distinct _ x m) in
        let e = eqb-true (size x) (best size xs) h.1 in
        record { among = h.0; most = λ y k. omega (arith, best_le xs y k) }

    pub in_longest : (xs : List A) (x : A) → Longest size xs x → Member x (longest same size xs)
    unfolding longest
    in_longest xs x h =
        let a = best_le xs x h.among in
        let b = best_least xs (size x) h.most in
        in_distinct _ x (in_keep (λ y. eqb (size y) (best size xs)) h.among (eq-eqb (size x) (best size xs) (omega arith)))

    -- ---- what is held already
    pub held_note : (s : Found A) (x : A) → Held size s x → note same size s x ≡ s
    held_note s x h = go (case same size s x) h
      where
        go : Case same size s x → Held size s x → note same size s x ≡ s
        go (none e) h = note_zero same size s x e
        go (less p q) h = note_less same size s x q
        go (more q) (nothing e) = absurd (omega arith)
        go (more q) (short e) = absurd (omega arith)
        go (more q) (kept e m) = absurd (omega arith)
        go (equal p q) (nothing e) = absurd (omega arith)
        go (equal p q) (short e) = absurd (omega arith)
        go (equal p q) (kept e m) = note_same same size s x p q ∙ ap (found s.most) (add_there s.list x (member_contains s.list x m))

    pub note_held : (s : Found A) (x : A) → Held size (note same size s x) x
    note_held s x = go (case same size s x)
      where
        go : Case same size s x → Held size (note same size s x) x
        go (none e) = nothing e
        go (less p q) = rw (note_less same size s x q) (short q)
        go (more q) = rw (note_more same size s x q) (kept refl (head refl))
        go (equal p q) = rw (note_same same size s x p q) (kept q (in_added s.list x))

    pub held_after : (s : Found A) (x y : A) → Held size s x → Held size (note same size s y) x
    held_after s x y h = go (case same size s y) h
      where
        go : Case same size s y → Held size s x → Held size (note same size s y) x
        go (none e) h = rw (note_zero same size s y e) h
        go (less p q) h = rw (note_less same size s y q) h
        go (more q) (nothing e) = nothing e
        go (more q) (short e) = rw (note_more same size s y q) (short (omega arith))
        go (more q) (kept e m) = rw (note_more same size s y q) (short (omega arith))
        go (equal p q) (nothing e) = nothing e
        go (equal p q) (short e) = rw (note_same same size s y p q) (short e)
        go (equal p q) (kept e m) = rw (note_same same size s y p q) (kept e (in_add s.list y x m))

    pub held_shorter : (s : Found A) (x y : A) → Held size s x → size y < size x → Held size s y
    held_shorter s x y (nothing e) l = absurd (omega arith)
    held_shorter s x y (short e) l = short (omega arith)
    held_shorter s x y (kept e m) l = short (omega arith)

    -- for lists
    pub held_fold : (ys : List A) (s : Found A) (x : A) → Held size s x → Held size (foldl (note same size) s ys) x
    held_fold [] s x h = h
    held_fold (y ∷ ys) s x h = held_fold ys (note same size s y) x (held_after s x y h)

    pub fold_held : (ys : List A) (s : Found A) (x : A) → Member x ys → Held size (foldl (note same size) s ys) x
    fold_held [] s x m = absurd (not-nil m)
    fold_held (y ∷ ys) s x m = go (λ h. fold_held ys (note same size s y) x h) (cases_cons m)
      where
        go : (Member x ys → Held size (foldl (note same size) (note same size s y) ys) x) → (x ≡ y) ⊎ Member x ys
            → Held size (foldl (note same size) (note same size s y) ys) x
        go ih (inl e) = subst (λ z. Held size (foldl (note same size) (note same size s y) ys) z) (sym e)
            (held_fold ys (note same size s y) y (note_held s y))
        go ih (inr h) = ih h

    pub absorb : (ys : List A) (s : Found A) → ((x : A) → Member x ys → Held size s x) → foldl (note same size) s ys ≡ s
    absorb [] s h = refl
    absorb (y ∷ ys) s h =
        ap (λ (t : Found A). foldl (note same size) t ys) (held_note s y (h y (head refl))) ∙ absorb ys s (λ x m. h x (tail m))
