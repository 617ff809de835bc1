-- A search that keeps the largest number so far and the entries of that number ends with the longest, each once.
use mathlib.Core.Path.{◌≡◌, refl, sym, ap, ap₂, ◌∙◌}
use Prim.Native.Nat.{ℕ, ◌<◌, max}
use native.Mathlib.Omega.{arith}
use mathlib.Core.Bool.{Bool, true, false, not, cond, false≢true}
use mathlib.Core.List.Memᴰ.{head}
use mathlib.Core.List.Memᴰ.{tail}
use mathlib.Core.List.{List, [], ◌∷◌, foldl, Memᴰ as Member}
use lib.Dec.{eqb, ltb}
use borrow.Author.Tests.{eqb-true, eqb-false, eq-eqb, ne_eqb, ltb-true, ltb-false, lt-ltb, le-ltb}
use Rattle.rules.specs.Lists.{keep, contains, add, distinct, best, longest}
use Rattle.rules.proofs.Lists.{keep_yes, keep_no, of_keep}

-- ---- what a search keeps while it runs
pub record Found (A : Type 0) : Type 0 where
  pub most : ℕ
  pub list : List A

abbrev pub found : {A : Type 0} → ℕ → List A → Found A
found k l = record { most = k; list = l }

-- what does not take a piece counts for nothing
abbrev pub takes : {A : Type 0} → (A → ℕ) → A → Bool
takes size x = not (eqb (size x) 0)

module _ {A : Type 0} (same : A → A → Bool) (size : A → ℕ) where
  -- a longer one clears what was found
  unfoldable pub note : Found A → A → Found A
  note s x =
      cond (eqb (size x) 0) s
      (cond (ltb (size x) s.most) s
      (cond (ltb s.most (size x)) (found (size x) (x ∷ []))
      (found s.most (add same s.list x))))

  pub note_zero : (s : Found A) (x : A) → size x ≡ 0 → note s x ≡ s
  unfolding note
  note_zero s x e = rw (eq-eqb (size x) 0 e) refl

  pub note_less : (s : Found A) (x : A) → size x < s.most → note s x ≡ s
  unfolding note
  note_less s x h = go (eqb (size x) 0)
    where
      go : (b : Bool)
          → cond b s (cond (ltb (size x) s.most) s (cond (ltb s.most (size x)) (found (size x) (x ∷ [])) (found s.most (add same s.list x)))) ≡ s
      go true = refl
      go false = rw (lt-ltb (size x) s.most h) refl

  pub note_more : (s : Found A) (x : A) → s.most < size x → note s x ≡ found (size x) (x ∷ [])
  unfolding note
  note_more s x h = rw (ne_eqb (size x) 0 (λ e. omega arith), le-ltb (size x) s.most (omega arith), lt-ltb s.most (size x) h) refl

  pub note_same : (s : Found A) (x : A) → 0 < size x → size x ≡ s.most → note s x ≡ found s.most (add same s.list x)
  unfolding note
  note_same s x p h = rw (ne_eqb (size x) 0 (λ e. omega arith), le-ltb (size x) s.most (omega arith), le-ltb s.most (size x) (omega arith)) refl

  -- where x stands to what was found
  pub data Case (s : Found A) (x : A) : Type 0 where
    none : size x ≡ 0 → Case s x
    less : 0 < size x → size x < s.most → Case s x
    more : s.most < size x → Case s x
    equal : 0 < size x → size x ≡ s.most → Case s x

  pub case : (s : Found A) (x : A) → Case s x
  case s x = go (eqb (size x) 0) (ltb (size x) s.most) (ltb s.most (size x)) refl refl refl
    where
      go : (a b c : Bool) → eqb (size x) 0 ≡ a → ltb (size x) s.most ≡ b → ltb s.most (size x) ≡ c → Case s x
      go true b c p q r = none (eqb-true (size x) 0 p)
      go false true c p q r = let n = eqb-false (size x) 0 p in less (omega arith) (ltb-true (size x) s.most q)
      go false false true p q r = more (ltb-true s.most (size x) r)
      go false false false p q r =
          let n = eqb-false (size x) 0 p in
          let h = ltb-false (size x) s.most q in
          let l = ltb-false s.most (size x) r in
          equal (omega arith) (omega arith)

  -- ---- the running best gives the longest, each once
  abbrev Positive : List A → Type 0
  Positive xs = (x : A) → Member x xs → 0 < size x

  abbrev upshot : ℕ → Bool → List A → List A → Found A
  upshot m c l ys = found m (foldl (add same) (cond c [] l) (keep (λ x. eqb (size x) m) ys))

  ltb_cong : (a b c d : ℕ) → (a < b → c < d) → (c < d → a < b) → ltb a b ≡ ltb c d
  ltb_cong a b c d f g = go (ltb a b) (ltb c d) refl refl
    where
      go : (s t : Bool) → ltb a b ≡ s → ltb c d ≡ t → s ≡ t
      go true true p q = refl
      go false false p q = refl
      go true false p q = absurd (false≢true (sym q ∙ lt-ltb c d (f (ltb-true a b p))))
      go false true p q = absurd (false≢true (sym p ∙ lt-ltb a b (g (ltb-true c d q))))

  abbrev Goes : List A → Type 0
  Goes xs = (k : ℕ) (l : List A) → foldl note (found k l) xs ≡ upshot (max k (best size xs)) (ltb k (best size xs)) l xs

  step : (x : A) (xs : List A) → 0 < size x → Goes xs → Goes (x ∷ xs)
  unfolding best
  step x xs p ih k l = go (case (found k l) x)
    where
      B : ℕ
      B = best size xs

      M : ℕ
      M = max k (max (size x) B)

      bring : (m : ℕ) (c : Bool) (r : Found A) → M ≡ m → ltb k (max (size x) B) ≡ c → r ≡ upshot m c l (x ∷ xs)
          → r ≡ upshot M (ltb k (max (size x) B)) l (x ∷ xs)
      bring m c r e f q = q ∙ sym (ap₂ (λ (i : ℕ) (j : Bool). upshot i j l (x ∷ xs)) e f)

      skipped : (m : ℕ) (c : Bool) (l' : List A) → (size x ≡ m → ⊥) → upshot m c l' xs ≡ upshot m c l' (x ∷ xs)
      skipped m c l' n = ap (λ (z : List A). found m (foldl (add same) (cond c [] l') z))
          (sym (keep_no (λ y. eqb (size y) m) x xs (ne_eqb (size x) m n)))

      taken : (m : ℕ) (l' : List A) → size x ≡ m
          → found m (foldl (add same) (add same l' x) (keep (λ y. eqb (size y) m) xs)) ≡ upshot m false l' (x ∷ xs)
      taken m l' e = ap (λ (z : List A). found m (foldl (add same) l' z)) (sym (keep_yes (λ y. eqb (size y) m) x xs (eq-eqb (size x) m e)))

      longer : k < size x → (b : Bool) → ltb (size x) B ≡ b → foldl note (note (found k l) x) xs ≡ upshot M (ltb k (max (size x) B)) l (x ∷ xs)
      longer h true q =
          let t = ltb-true (size x) B q in
          bring (max (size x) B) true _ (omega arith) (lt-ltb k (max (size x) B) (omega arith))
          (ap (λ (s : Found A). foldl note s xs) (note_more (found k l) x h) ∙ ih (size x) (x ∷ [])
          ∙ ap (λ (c : Bool). upshot (max (size x) B) c (x ∷ []) xs) q ∙ skipped (max (size x) B) true l (λ e. omega arith))
      longer h false q =
          let t = ltb-false (size x) B q in
          bring (max (size x) B) true _ (omega arith) (lt-ltb k (max (size x) B) (omega arith))
          (ap (λ (s : Found A). foldl note s xs) (note_more (found k l) x h) ∙ ih (size x) (x ∷ [])
          ∙ ap (λ (c : Bool). upshot (max (size x) B) c (x ∷ []) xs) q ∙ unfold add contains in taken (max (size x) B) [] (omega arith))

      level : size x ≡ k → (b : Bool) → ltb k B ≡ b → foldl note (note (found k l) x) xs ≡ upshot M (ltb k (max (size x) B)) l (x ∷ xs)
      level h true q =
          let t = ltb-true k B q in
          bring (max k B) true _ (omega arith) (lt-ltb k (max (size x) B) (omega arith))
          (ap (λ (s : Found A). foldl note s xs) (note_same (found k l) x p h) ∙ ih k (add same l x)
          ∙ ap (λ (c : Bool). upshot (max k B) c (add same l x) xs) q ∙ skipped (max k B) true l (λ e. omega arith))
      level h false q =
          let t = ltb-false k B q in
          bring (max k B) false _ (omega arith) (le-ltb k (max (size x) B) (omega arith))
          (ap (λ (s : Found A). foldl note s xs) (note_same (found k l) x p h) ∙ ih k (add same l x)
          ∙ ap (λ (c : Bool). upshot (max k B) c (add same l x) xs) q ∙ taken (max k B) l (omega arith))

      go : Case (found k l) x → foldl note (note (found k l) x) xs ≡ upshot M (ltb k (max (size x) B)) l (x ∷ xs)
      go (none e) = absurd (omega arith)
      go (less h q) =
          bring (max k B) (ltb k B) _ (omega arith) (ltb_cong k (max (size x) B) k B (λ e. omega arith) (λ e. omega arith))
          (ap (λ (s : Found A). foldl note s xs) (note_less (found k l) x q) ∙ ih k l ∙ skipped (max k B) (ltb k B) l (λ e. omega arith))
      go (more h) = longer h (ltb (size x) B) refl
      go (equal h q) = level q (ltb k B) refl

  pub fold_from : (xs : List A) → Positive xs → Goes xs
  unfolding best keep
  fold_from [] h k l = sym (ap₂ (λ (m : ℕ) (c : Bool). found m (foldl (add same) (cond c [] l) [])) (omega arith) (le-ltb k 0 (omega arith)))
  fold_from (x ∷ xs) h k l = step x xs (h x (head refl)) (fold_from xs (λ y m. h y (tail m))) k l

  pub fold_longest : (xs : List A) → Positive xs → foldl note (found 0 []) xs ≡ found (best size xs) (longest same size xs)
  unfolding longest distinct
  fold_longest xs h =
      fold_from xs h 0 [] ∙ ap (λ (m : ℕ). upshot m (ltb 0 (best size xs)) [] xs) (omega arith)
      ∙ ap (λ (l : List A). found (best size xs) (foldl (add same) l (keep (λ x. eqb (size x) (best size xs)) xs))) (both (ltb 0 (best size xs)))
    where
      both : (c : Bool) → cond {A = List A} c [] [] ≡ []
      both true = refl
      both false = refl

  fold_takes : (s : Found A) (xs : List A) → foldl note s xs ≡ foldl note s (keep (takes size) xs)
  unfolding keep
  fold_takes s [] = refl
  fold_takes s (x ∷ xs) = go (λ t. fold_takes t xs) (eqb (size x) 0) refl
    where
      go : ((t : Found A) → foldl note t xs ≡ foldl note t (keep (takes size) xs)) → (b : Bool) → eqb (size x) 0 ≡ b
          → foldl note (note s x) xs ≡ foldl note s (keep (takes size) (x ∷ xs))
      go ih true e = ap (λ (t : Found A). foldl note t xs) (note_zero s x (eqb-true _ _ e)) ∙ ih s
          ∙ ap (λ (l : List A). foldl note s l) (sym (keep_no (takes size) x xs (ap not e)))
      go ih false e = ih (note s x) ∙ ap (λ (l : List A). foldl note s l) (sym (keep_yes (takes size) x xs (ap not e)))

  pub positive : (xs : List A) → Positive (keep (takes size) xs)
  positive xs x m = go (eqb (size x) 0) refl
    where
      go : (b : Bool) → eqb (size x) 0 ≡ b → 0 < size x
      go true e = absurd (false≢true (sym (ap not e) ∙ (of_keep (takes size) xs m).1))
      go false e = let n = eqb-false (size x) 0 e in omega arith

  -- the fold over all that is found
  pub fold_law : (xs : List A) → foldl note (found 0 []) xs ≡ found (best size (keep (takes size) xs)) (longest same size (keep (takes size) xs))
  fold_law xs = fold_takes (found 0 []) xs ∙ fold_longest (keep (takes size) xs) (positive xs)
