-- A fold over renamed things is the renamed fold: entries by bits here, by square numbers there.
use mathlib.Core.Path.{◌≡◌, refl, sym, ap, ap₂, ◌∙◌, subst}
use Prim.Native.Nat.{ℕ}
use mathlib.Core.Bool.{Bool, true, false, ◌||◌, cond}
use mathlib.Core.List.Memᴰ.{head}
use mathlib.Core.List.Memᴰ.{not-nil}
use mathlib.Core.List.Memᴰ.{tail}
use mathlib.Core.List.{List, [], ◌∷◌, ◌++◌, map, map-append, foldl, Memᴰ as Member}
use lib.ListN.{length, length-map}
use lib.Dec.{eqb, ltb, leb}
use Rattle.rules.specs.Lists.{contains}
use Rattle.rules.proofs.Bounded.{Bounded, bounded, push, note_in}

abbrev pub renamed : {A B : Type 0} → (A → B) → Bounded A → Bounded B
renamed φ s = bounded s.most (map φ s.list) s.over

module _ {A B : Type 0} (φ : A → B) (same_a : A → A → Bool) (size_a : A → ℕ) (same_b : B → B → Bool) (size_b : B → ℕ) (room : ℕ)
    (Ok : A → Type 0) (agree : (x y : A) → Ok x → Ok y → same_b (φ x) (φ y) ≡ same_a x y) (sizes : (x : A) → Ok x → size_b (φ x) ≡ size_a x) where
  abbrev pub AllOk : List A → Type 0
  AllOk l = (x : A) → Member x l → Ok x

  contains_map : (l : List A) (x : A) → AllOk l → Ok x → contains same_b (map φ l) (φ x) ≡ contains same_a l x
  unfolding contains
  contains_map [] x h k = refl
  contains_map (y ∷ l) x h k = ap₂ (λ (p q : Bool). p || q) (agree y x (h y (head refl)) k) (contains_map l x (λ z m. h z (tail m)) k)

  push_map : (l : List A) (x : A) → push same_b size_b room (map φ l) (φ x) ≡ map φ (push same_a size_a room l x)
  push_map l x = ap (λ (n : ℕ). cond (ltb n room) (map φ l ++ (φ x ∷ [])) (map φ l)) (length-map l φ) ∙ go (ltb (length l) room)
    where
      go : (t : Bool) → cond t (map φ l ++ (φ x ∷ [])) (map φ l) ≡ map φ (cond t (l ++ (x ∷ [])) l)
      go true = sym (map-append φ l (x ∷ []))
      go false = refl

  note_map : (s : Bounded A) (x : A) → AllOk s.list → Ok x → note_in same_b size_b room (renamed φ s) (φ x) ≡ renamed φ (note_in same_a size_a room s x)
  unfolding note_in
  note_map s x h k =
      ap₂ (λ (n : ℕ) (t : Bool). cond (eqb n 0) (renamed φ s)
      (cond (ltb n s.most) (renamed φ s) (cond (ltb s.most n) (bounded n (push same_b size_b room [] (φ x)) (leb room 0))
      (cond t (renamed φ s) (bounded s.most (push same_b size_b room (map φ s.list) (φ x)) (s.over || leb room (length (map φ s.list))))))))
      (sizes x k) (contains_map s.list x h k)
      ∙ go (eqb (size_a x) 0) (ltb (size_a x) s.most) (ltb s.most (size_a x)) (contains same_a s.list x)
    where
      go : (p q r t : Bool) → cond p (renamed φ s) (cond q (renamed φ s) (cond r (bounded (size_a x) (push same_b size_b room [] (φ x)) (leb room 0))
          (cond t (renamed φ s) (bounded s.most (push same_b size_b room (map φ s.list) (φ x))
          (s.over || leb room (length (map φ s.list)))))))
          ≡ renamed φ (cond p s (cond q s (cond r (bounded (size_a x) (push same_a size_a room [] x) (leb room 0))
          (cond t s (bounded s.most (push same_a size_a room s.list x) (s.over || leb room (length s.list)))))))
      go true q r t = refl
      go false true r t = refl
      go false false true t = ap (λ (l : List B). bounded (size_a x) l (leb room 0)) (push_map [] x)
      go false false false true = refl
      go false false false false = ap₂ (λ (l : List B) (n : ℕ). bounded s.most l (s.over || leb room n)) (push_map s.list x)
          (length-map s.list φ)

  note_ok : (s : Bounded A) (x : A) → AllOk s.list → Ok x → AllOk (note_in same_a size_a room s x).list
  unfolding note_in
  note_ok s x h k = go (eqb (size_a x) 0) (ltb (size_a x) s.most) (ltb s.most (size_a x)) (contains same_a s.list x)
      (ltb (length s.list) room) (ltb 0 room)
    where
      snoc : (l : List A) → AllOk l → AllOk (l ++ (x ∷ []))
      snoc [] f z (head e) = subst Ok (sym e) k
      snoc [] f z (tail m) = absurd (not-nil m)
      snoc (y ∷ l) f z (head e) = f z (head e)
      snoc (y ∷ l) f z (tail m) = snoc l (λ u n. f u (tail n)) z m

      go : (p q r t c d : Bool) → AllOk (cond p s
          (cond q s (cond r (bounded (size_a x) (cond d (x ∷ []) []) (leb room 0))
          (cond t s (bounded s.most (cond c (s.list ++ (x ∷ [])) s.list) (s.over || leb room (length s.list))))))).list
      go true q r t c d = h
      go false true r t c d = h
      go false false true t c true = snoc [] (λ u n. absurd (not-nil n))
      go false false true t c false = λ u n. absurd (not-nil n)
      go false false false true c d = h
      go false false false false true d = snoc s.list h
      go false false false false false d = h

  pub fold_map : (xs : List A) (s : Bounded A) → AllOk s.list → AllOk xs
      → foldl (note_in same_b size_b room) (renamed φ s) (map φ xs) ≡ renamed φ (foldl (note_in same_a size_a room) s xs)
  fold_map [] s h k = refl
  fold_map (x ∷ xs) s h k =
      ap (λ (t : Bounded B). foldl (note_in same_b size_b room) t (map φ xs)) (note_map s x h (k x (head refl)))
      ∙ fold_map xs (note_in same_a size_a room s x) (note_ok s x h (k x (head refl))) (λ z m. k z (tail m))
