-- The same fold where the list has room for `room` entries only, and an overflow is marked.
use mathlib.Core.Path.{◌≡◌, refl, sym, ap, ap₂, ◌∙◌, subst}
use Prim.Native.Nat.{ℕ, zero, suc, ◌≤◌, ◌<◌}
use native.Mathlib.Omega.{arith}
use mathlib.Core.Bool.{Bool, true, false, ◌||◌, cond, false≢true, or-true}
use mathlib.Core.List.Memᴰ.{append_left as in_left}
use mathlib.Core.List.{List, [], ◌∷◌, ◌++◌, foldl, Memᴰ as Member}
use lib.ListN.{length, take, drop, length-take, length-append, take-append-drop}
use lib.Seq.{take-append-le, take_all}
use lib.Dec.{eqb, ltb, leb}
use borrow.Author.Tests.{eq-eqb, ne_eqb, ltb-true, ltb-false, lt-ltb, le-ltb, le-leb, lt-leb}
use Rattle.rules.specs.Lists.{contains, add}
use Rattle.rules.proofs.Fold.{Found, found, note, note_zero, note_less, note_more, note_same, Case, none, less, more, equal, case}
use Rattle.rules.proofs.Held.{contains_member, member_contains, Adds, there, new, adds}

pub record Bounded (A : Type 0) : Type 0 where
  pub most : ℕ
  pub list : List A
  pub over : Bool

abbrev pub bounded : {A : Type 0} → ℕ → List A → Bool → Bounded A
bounded k l o = record { most = k; list = l; over = o }

-- what a search with room for that many entries has
abbrev pub view : {A : Type 0} → ℕ → Found A → Bounded A
view room s = bounded s.most (take room s.list) (ltb room (length s.list))

-- of one entry a list with no room keeps nothing, and marks it
first_take : {A : Type 0} (room : ℕ) (x : A) → take room (x ∷ []) ≡ cond (ltb 0 room) (x ∷ []) []
first_take zero x = refl
first_take (suc n) x = take_all (suc n) (x ∷ []) (omega arith) ∙ ap (λ (b : Bool). cond b (x ∷ []) []) (sym (lt-ltb 0 (suc n) (omega arith)))

first_over : (room : ℕ) → ltb room 1 ≡ leb room 0
first_over zero = refl
first_over (suc n) = le-ltb (suc n) 1 (omega arith) ∙ sym (lt-leb (suc n) 0 (omega arith))

module _ {A : Type 0} (same : A → A → Bool) (size : A → ℕ) (room : ℕ) where
  abbrev pub push : List A → A → List A
  push l x = cond (ltb (length l) room) (l ++ (x ∷ [])) l

  unfoldable pub note_in : Bounded A → A → Bounded A
  note_in s x =
      cond (eqb (size x) 0) s
      (cond (ltb (size x) s.most) s
      (cond (ltb s.most (size x)) (bounded (size x) (push [] x) (leb room 0))
      (cond (contains same s.list x) s
      (bounded s.most (push s.list x) (s.over || leb room (length s.list))))))

  in_zero : (s : Bounded A) (x : A) → size x ≡ 0 → note_in s x ≡ s
  unfolding note_in
  in_zero s x e = rw (eq-eqb (size x) 0 e) refl

  in_less : (s : Bounded A) (x : A) → 0 < size x → size x < s.most → note_in s x ≡ s
  unfolding note_in
  in_less s x p h = rw (ne_eqb (size x) 0 (λ e. omega arith), lt-ltb (size x) s.most h) refl

  in_more : (s : Bounded A) (x : A) → s.most < size x → note_in s x ≡ bounded (size x) (push [] x) (leb room 0)
  unfolding note_in
  in_more s x h = rw (ne_eqb (size x) 0 (λ e. omega arith), le-ltb (size x) s.most (omega arith), lt-ltb s.most (size x) h) refl

  in_there : (s : Bounded A) (x : A) → 0 < size x → size x ≡ s.most → contains same s.list x ≡ true → note_in s x ≡ s
  unfolding note_in
  in_there s x p h c =
      rw (ne_eqb (size x) 0 (λ e. omega arith), le-ltb (size x) s.most (omega arith), le-ltb s.most (size x) (omega arith), c) refl

  in_new : (s : Bounded A) (x : A) → 0 < size x → size x ≡ s.most → contains same s.list x ≡ false
      → note_in s x ≡ bounded s.most (push s.list x) (s.over || leb room (length s.list))
  unfolding note_in
  in_new s x p h c =
      rw (ne_eqb (size x) 0 (λ e. omega arith), le-ltb (size x) s.most (omega arith), le-ltb s.most (size x) (omega arith), c) refl

  module _ (same_refl : (x : A) → same x x ≡ true) (same_true : (x y : A) → same x y ≡ true → x ≡ y) where
    in_whole : (l : List A) (x : A) → Member x (take room l) → Member x l
    in_whole l x m = subst (λ r. Member x r) (take-append-drop room l) (in_left (drop room l) m)

    level : (k : ℕ) (l : List A) (x : A) → 0 < size x → size x ≡ k → view room (found k (add same l x)) ≡ note_in (view room (found k l)) x
    level k l x p q = go (contains same (take room l) x) refl (adds same same_refl same_true l x) (ltb (length l) room) refl
      where
        ended : contains same (take room l) x ≡ true → Adds same same_refl same_true l x → add same l x ≡ l
        ended c (there h e) = e
        ended c (new h e) = absurd (h (in_whole l x (contains_member same same_refl same_true (take room l) x c)))

        fits : contains same (take room l) x ≡ false → length l < room → Adds same same_refl same_true l x → add same l x ≡ l ++ (x ∷ [])
        fits c h (new n e) = e
        fits c h (there m e) =
            absurd (false≢true (sym c ∙ ap (λ (r : List A). contains same r x) (take_all room l (omega arith)) ∙ member_contains same same_refl same_true l x m))

        full : contains same (take room l) x ≡ false → room ≤ length l → Adds same same_refl same_true l x
            → view room (found k (add same l x)) ≡ bounded k (take room l) true
        full c h (new n e) =
            ap (λ (r : List A). view room (found k r)) e
            ∙ ap₂ (λ (r : List A) (o : Bool). bounded k r o) (take-append-le room l (x ∷ []) h)
            (lt-ltb room (length (l ++ (x ∷ []))) (omega (arith, length-append l (x ∷ []))))
        full c h (there m e) =
            ap (λ (r : List A). view room (found k r)) e ∙ ap (λ (o : Bool). bounded k (take room l) o) (over (ltb room (length l)) refl)
          where
            over : (b : Bool) → ltb room (length l) ≡ b → ltb room (length l) ≡ true
            over true o = o
            over false o = absurd (false≢true (sym c ∙ ap (λ (r : List A). contains same r x) (take_all room l (ltb-false room (length l) o))
                ∙ member_contains same same_refl same_true l x m))

        go : (b : Bool) → contains same (take room l) x ≡ b → Adds same same_refl same_true l x → (t : Bool) → ltb (length l) room ≡ t
            → view room (found k (add same l x)) ≡ note_in (view room (found k l)) x
        go true c a t e = ap (λ (r : List A). view room (found k r)) (ended c a) ∙ sym (in_there (view room (found k l)) x p q c)
        go false c a true e =
            let h = ltb-true (length l) room e in
            let w : take room l ≡ l = take_all room l (omega arith) in
            ap (λ (r : List A). view room (found k r)) (fits c h a)
            ∙ ap₂ (λ (r : List A) (o : Bool). bounded k r o) (take_all room (l ++ (x ∷ [])) (omega (arith, length-append l (x ∷ []))))
            (le-ltb room (length (l ++ (x ∷ []))) (omega (arith, length-append l (x ∷ []))))
            ∙ sym (in_new (view room (found k l)) x p q c
            ∙ ap (λ (r : List A). bounded k (push r x) (ltb room (length l) || leb room (length r))) w
            ∙ ap₂ (λ (b o : Bool). bounded k (cond b (l ++ (x ∷ [])) l) o) e
            (ap₂ (λ (s t : Bool). s || t) (le-ltb room (length l) (omega arith)) (lt-leb room (length l) h)))
        go false c a false e =
            let h = ltb-false (length l) room e in
            let n : length (take room l) ≡ room = omega (arith, length-take room l) in
            full c h a
            ∙ sym (in_new (view room (found k l)) x p q c
            ∙ ap₂ (λ (b o : Bool). bounded k (cond b (take room l ++ (x ∷ [])) (take room l)) o) (le-ltb (length (take room l)) room (omega arith))
            (ap (λ (t : Bool). ltb room (length l) || t) (le-leb room (length (take room l)) (omega arith)) ∙ or-true (ltb room (length l))))

    -- one step of the bounded fold is one step of the free one, seen
    pub seen : (s : Found A) (x : A) → view room (note same size s x) ≡ note_in (view room s) x
    seen s x = go (case same size s x)
      where
        go : Case same size s x → view room (note same size s x) ≡ note_in (view room s) x
        go (none e) = ap (view room) (note_zero same size s x e) ∙ sym (in_zero (view room s) x e)
        go (less p q) = ap (view room) (note_less same size s x q) ∙ sym (in_less (view room s) x p q)
        go (more q) =
            ap (view room) (note_more same size s x q)
            ∙ ap₂ (λ (r : List A) (o : Bool). bounded (size x) r o) (first_take room x) (first_over room)
            ∙ sym (in_more (view room s) x q)
        go (equal p q) = ap (view room) (note_same same size s x p q) ∙ level s.most s.list x p q

    pub fold_seen : (xs : List A) (s : Found A) → foldl note_in (view room s) xs ≡ view room (foldl (note same size) s xs)
    fold_seen [] s = refl
    fold_seen (x ∷ xs) s = ap (λ (t : Bounded A). foldl note_in t xs) (sym (seen s x)) ∙ fold_seen xs (note same size s x)
