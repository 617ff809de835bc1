-- Laws of bytes held, trimming, splitting and joining: of any bytes, any separator.
use Prim.Native.Nat.{ℕ}
use mathlib.Core.Path.{◌≡◌, refl, sym, ap, ap₂, ◌∙◌}
use mathlib.Core.List.{List, [], ◌∷◌, ◌++◌, map}
use mathlib.Core.Bool.{Bool, true, false, cond, ◌&&◌, ◌||◌, not, or-true, true≢false}
use lib.Dec.{eqb}
use borrow.Author.Tests.{eq-eqb, not-true, not-false}
use Rattle.squares.proofs.Bools.{and_left, and_right, and_both}
use Rattle.texts.specs.Bytes.{is, holds, trim_start, keep_end, trim_end, trim, cons_head, split_on, joined}

-- p takes each of l
unfoldable pub each : {A : Type 0} → (A → Bool) → List A → Bool
each p [] = true
each p (x ∷ l) = p x && each p l

pub each_map : {A B : Type 0} (f : A → B) (p : B → Bool) (l : List A) → each (λ (x : A). p (f x)) l ≡ true → each p (map f l) ≡ true
unfolding each
each_map f p [] h = refl
each_map f p (x ∷ l) h = and_both (p (f x)) _ (and_left (p (f x)) _ h) (each_map f p l (and_right (p (f x)) _ h))

pub each_imp : {A : Type 0} (p q : A → Bool) → ((x : A) → p x ≡ true → q x ≡ true) → (l : List A) → each p l ≡ true → each q l ≡ true
unfolding each
each_imp p q i [] h = refl
each_imp p q i (x ∷ l) h = and_both (q x) _ (i x (and_left (p x) _ h)) (each_imp p q i l (and_right (p x) _ h))

-- p takes no byte of s
unfoldable pub lacks : (ℕ → Bool) → List ℕ → Bool
lacks p [] = true
lacks p (b ∷ s) = not (p b) && lacks p s

pub lacks_imp : (p q : ℕ → Bool) → ((b : ℕ) → p b ≡ true → q b ≡ true) → (s : List ℕ) → lacks q s ≡ true → lacks p s ≡ true
unfolding lacks
lacks_imp p q i [] h = refl
lacks_imp p q i (b ∷ s) h = and_both (not (p b)) _ (go (p b) refl) (lacks_imp p q i s (and_right (not (q b)) _ h))
  where
    go : (t : Bool) → p b ≡ t → not t ≡ true
    go true e = absurd (true≢false (sym (i b e) ∙ not-true (q b) (and_left (not (q b)) _ h)))
    go false e = refl

pub lacks_append : (p : ℕ → Bool) (s t : List ℕ) → lacks p s ≡ true → lacks p t ≡ true → lacks p (s ++ t) ≡ true
unfolding lacks
lacks_append p [] t h l = l
lacks_append p (b ∷ s) t h l = and_both (not (p b)) _ (and_left (not (p b)) _ h) (lacks_append p s t (and_right (not (p b)) _ h) l)

pub lacks_cons : (p : ℕ → Bool) (b : ℕ) (s : List ℕ) → p b ≡ false → lacks p s ≡ true → lacks p (b ∷ s) ≡ true
unfolding lacks
lacks_cons p b s e h = and_both (not (p b)) _ (ap not e) h

pub lacks_joined : (p : ℕ → Bool) (c : ℕ) → p c ≡ false → (fs : List (List ℕ)) → each (lacks p) fs ≡ true → lacks p (joined c fs) ≡ true
unfolding joined each lacks
lacks_joined p c e [] h = refl
lacks_joined p c e (f ∷ []) h = and_left (lacks p f) _ h
lacks_joined p c e (f ∷ (g ∷ fs)) h =
    lacks_append p f (c ∷ joined c (g ∷ fs)) (and_left (lacks p f) _ h) (lacks_cons p c (joined c (g ∷ fs)) e (lacks_joined p c e (g ∷ fs) (and_right (lacks p f) _ h)))

-- what neither p nor q takes
pub lacks_or : (p q : ℕ → Bool) (s : List ℕ) → lacks p s ≡ true → lacks q s ≡ true → lacks (λ b. p b || q b) s ≡ true
unfolding lacks
lacks_or p q [] h k = refl
lacks_or p q (b ∷ s) h k =
    and_both (not (p b || q b)) _ (neither (p b) (q b) (and_left (not (p b)) _ h) (and_left (not (q b)) _ k))
    (lacks_or p q s (and_right (not (p b)) _ h) (and_right (not (q b)) _ k))
  where
    neither : (x y : Bool) → not x ≡ true → not y ≡ true → not (x || y) ≡ true
    neither true y h k = h
    neither false y h k = k

-- ---- a byte held
pub holds_lacks : (c : ℕ) (s : List ℕ) → holds c s ≡ not (lacks (is c) s)
unfolding holds lacks is
holds_lacks c [] = refl
holds_lacks c (b ∷ s) = ap (λ (x : Bool). eqb b c || x) (holds_lacks c s) ∙ not_both (eqb b c) (lacks (is c) s)
  where
    not_both : (x y : Bool) → (x || not y) ≡ not (not x && y)
    not_both true y = refl
    not_both false y = refl

pub lacks_held : (c : ℕ) (s : List ℕ) → holds c s ≡ false → lacks (is c) s ≡ true
lacks_held c s h = not-false (lacks (is c) s) (sym (holds_lacks c s) ∙ h)

pub holds_in : (c : ℕ) (f s : List ℕ) → holds c (f ++ c ∷ s) ≡ true
unfolding holds
holds_in c [] s = ap (λ (x : Bool). x || holds c s) (eq-eqb c c refl)
holds_in c (b ∷ f) s = ap (λ (x : Bool). eqb b c || x) (holds_in c f s) ∙ or-true (eqb b c)

-- ---- trimming
pub trim_start_lacks : (p : ℕ → Bool) (s : List ℕ) → lacks p s ≡ true → trim_start p s ≡ s
unfolding trim_start lacks
trim_start_lacks p [] h = refl
trim_start_lacks p (b ∷ s) h = rw (not-true (p b) (and_left (not (p b)) _ h))

keep_end_lem : (p : ℕ → Bool) (b : ℕ) (s : List ℕ) → p b ≡ false → keep_end p b s ≡ b ∷ s
unfolding keep_end
keep_end_lem p b [] h = rw h
keep_end_lem p b (x ∷ s) h = refl

pub trim_end_lacks : (p : ℕ → Bool) (s : List ℕ) → lacks p s ≡ true → trim_end p s ≡ s
unfolding trim_end lacks
trim_end_lacks p [] h = refl
trim_end_lacks p (b ∷ s) h = rw (trim_end_lacks p s (and_right (not (p b)) _ h)) (keep_end_lem p b s (not-true (p b) (and_left (not (p b)) _ h)))

pub trim_lacks : (p : ℕ → Bool) (s : List ℕ) → lacks p s ≡ true → trim p s ≡ s
unfolding trim
trim_lacks p s h = ap (trim_end p) (trim_start_lacks p s h) ∙ trim_end_lacks p s h

-- ---- splitting
split_whole : (p : ℕ → Bool) (s : List ℕ) → lacks p s ≡ true → split_on p s ≡ s ∷ []
unfolding split_on lacks cons_head
split_whole p [] h = refl
split_whole p (b ∷ s) h = rw (not-true (p b) (and_left (not (p b)) _ h), split_whole p s (and_right (not (p b)) _ h))

split_first : (p : ℕ → Bool) (c : ℕ) → p c ≡ true → (f s : List ℕ) → lacks p f ≡ true → split_on p (f ++ c ∷ s) ≡ f ∷ split_on p s
unfolding split_on lacks cons_head
split_first p c e [] s h = rw e
split_first p c e (b ∷ f) s h = rw (not-true (p b) (and_left (not (p b)) _ h), split_first p c e f s (and_right (not (p b)) _ h))

-- two separators that agree on every byte of s
pub split_agree : (p q r : ℕ → Bool) → ((b : ℕ) → r b ≡ false → p b ≡ q b) → (s : List ℕ) → lacks r s ≡ true → split_on p s ≡ split_on q s
unfolding split_on lacks
split_agree p q r a [] h = refl
split_agree p q r a (b ∷ s) h =
    ap₂ (λ (t : Bool) (l : List (List ℕ)). cond t ([] ∷ l) (cons_head b l)) (a b (not-true (r b) (and_left (not (r b)) _ h)))
    (split_agree p q r a s (and_right (not (r b)) _ h))

-- what was joined comes apart again
pub split_joined : (p : ℕ → Bool) (c : ℕ) → p c ≡ true → (f : List ℕ) (fs : List (List ℕ)) → each (lacks p) (f ∷ fs) ≡ true → split_on p (joined c (f ∷ fs)) ≡ f ∷ fs
unfolding joined each
split_joined p c e f [] h = split_whole p f (and_left (lacks p f) _ h)
split_joined p c e f (g ∷ fs) h =
    split_first p c e f (joined c (g ∷ fs)) (and_left (lacks p f) _ h) ∙ ap (λ (l : List (List ℕ)). f ∷ l) (split_joined p c e g fs (and_right (lacks p f) _ h))
