-- Sequences followed to their ends: what they are, and which may be left out.
use mathlib.Core.Path.{◌≡◌, refl, sym, ap, ◌∙◌, subst}
use Prim.Native.Nat.{ℕ, zero, suc, ◌≤◌, ◌<◌}
use native.Mathlib.Omega.{arith}
use mathlib.Core.Bool.{Bool, true, false, false≢true}
use mathlib.Core.List.Memᴰ.{append_cases as in-cases}
use mathlib.Core.List.Memᴰ.{eq_of_singleton as singleton}
use mathlib.Core.List.Memᴰ.{head}
use mathlib.Core.List.Memᴰ.{not-nil}
use mathlib.Core.List.Memᴰ.{tail}
use mathlib.Core.List.{List, [], ◌∷◌, ◌++◌, foldl, foldl-append, Memᴰ as Member}
use mathlib.Core.Logic.{◌⊎◌, inl, inr}
use Rattle.rules.specs.Lists.{concat_map, or_end, followed}
use Rattle.rules.proofs.Fold.{Found, note}
use Rattle.rules.proofs.Held.{Held, held_note, held_shorter, held_fold, fold_held, absorb}
use Rattle.rules.proofs.Lists.{in_concat_map, of_concat_map, concat_map_concat_map}

module _ {A : Type 0} where
  in_or_end : (x : A) {z : A} (l : List A) → Member z l → Member z (or_end x l)
  unfolding or_end
  in_or_end x [] m = absurd (not-nil m)
  in_or_end x (y ∷ ys) m = m

  some_or_end : (x : A) (l : List A) → (w : A) × Member w (or_end x l)
  unfolding or_end
  some_or_end x [] = (x, head refl)
  some_or_end x (y ∷ ys) = (y, head refl)

  of_or_end : (x z : A) (l : List A) → Member z (or_end x l) → (z ≡ x) ⊎ Member z l
  unfolding or_end
  of_or_end x z [] m = inl (singleton m)
  of_or_end x z (y ∷ ys) m = inr m

-- z is found, or a longer one is
abbrev pub Reached : {A : Type 0} → (A → ℕ) → A → List A → Type 0
Reached {A} size z l = Member z l ⊎ ((w : A) × Member w l × (size z < size w))

pub wider : {A : Type 0} (size : A → ℕ) (z : A) (l r : List A) → ((w : A) → Member w l → Member w r) → Reached size z l → Reached size z r
wider size z l r f (inl m) = inl (f z m)
wider size z l r f (inr h) = inr (h.0, f h.0 h.1, h.2)

module _ {A : Type 0} (jumps : A → List A) where
  -- zero or more jumps
  pub data From : A → A → Type 0 where
    stop : {x : A} → From x x
    jump : {x y z : A} → Member y (jumps x) → From y z → From x z

  pub from_then : {x y z : A} → From x y → Member z (jumps y) → From x z
  from_then stop m = jump m stop
  from_then (jump h r) m = jump h (from_then r m)

  pub some_followed : (n : ℕ) (x : A) → (w : A) × Member w (followed jumps n x)
  unfolding followed
  some_followed zero x = (x, head refl)
  some_followed (suc n) x = some_or_end x (concat_map (followed jumps n) (jumps x))

  pub sound : (n : ℕ) (x z : A) → Member z (followed jumps n x) → From x z
  unfolding followed
  sound zero x z m = subst (λ y. From x y) (sym (singleton m)) stop
  sound (suc n) x z m = go (λ y. sound n y z) (of_or_end x z (concat_map (followed jumps n) (jumps x)) m)
    where
      go : ((y : A) → Member z (followed jumps n y) → From y z) → (z ≡ x) ⊎ Member z (concat_map (followed jumps n) (jumps x)) → From x z
      go ih (inl e) = subst (λ y. From x y) (sym e) stop
      go ih (inr h) = let r = of_concat_map (followed jumps n) (jumps x) h in jump r.1 (ih r.0 r.2)

  module _ (size left : A → ℕ) (Good : A → Type 0)
      (good : (x y : A) → Good x → Member y (jumps x) → Good y)
      (grows : (x y : A) → Good x → Member y (jumps x) → size y ≡ suc (size x))
      (falls : (x y : A) → Good x → Member y (jumps x) → left y < left x) where
    pub from_size : {x z : A} → From x z → Good x → size x ≤ size z
    from_size stop g = omega arith
    from_size (jump {x = x} {y = y} m r) g = omega (arith, grows x y g m, from_size r (good x y g m))

    pub complete : {x z : A} → From x z → Good x → (n : ℕ) → left x ≤ n → Reached size z (followed jumps n x)
    unfolding followed or_end
    complete (stop {x = x}) g zero h = inl (head refl)
    complete (stop {x = x}) g (suc n) h = go (concat_map (followed jumps n) (jumps x)) (λ z m. m)
      where
        go : (l : List A) → ((z : A) → Member z l → Member z (concat_map (followed jumps n) (jumps x))) → Reached size x (or_end x l)
        go [] f = inl (head refl)
        go (y ∷ ys) f =
            let r = of_concat_map (followed jumps n) (jumps x) (f y (head refl)) in
            inr (y, head refl, omega (arith, grows x r.0 g r.1, from_size (sound n r.0 y r.2) (good x r.0 g r.1)))
    complete (jump {x = x} {y = y} m r) g zero h = absurd (omega (arith, falls x y g m))
    complete (jump {x = x} {y = y} {z = z} m r) g (suc n) h =
        wider size z (followed jumps n y) (or_end x (concat_map (followed jumps n) (jumps x)))
        (λ w k. in_or_end x (concat_map (followed jumps n) (jumps x)) (in_concat_map (followed jumps n) m k))
        (complete r (good x y g m) n (omega (arith, falls x y g m)))

-- ---- the shortcut: at a landing some directions need not be tried
module _ {A : Type 0} where
  -- the first landing by f, the later ones by g, where the direction is not skipped
  unfoldable pub tried : (A → List A) → (A → List A) → List A → Bool → List A
  tried f g ls true = []
  tried f g [] false = []
  tried f g (l ∷ ls) false = f l ++ concat_map g ls

module _ {A D : Type 0} (dirs : List D) (rays : A → D → List A) (first later : D → D → Bool) where
  abbrev pub all_jumps : A → List A
  all_jumps x = concat_map (rays x) dirs

  -- as `followed`, but without the directions that `skip` names
  unfoldable pub pruned : ℕ → (D → Bool) → A → List A
  pruned zero skip x = x ∷ []
  pruned (suc n) skip x = or_end x (concat_map (λ d. tried (pruned n (first d)) (pruned n (later d)) (rays x d) (skip d)) dirs)

  of_tried : (f g : A → List A) (ls : List A) (c : Bool) (z : A) → Member z (tried f g ls c)
      → (y : A) × Member y ls × (Member z (f y) ⊎ Member z (g y))
  unfolding tried
  of_tried f g ls true z m = absurd (not-nil m)
  of_tried f g [] false z m = absurd (not-nil m)
  of_tried f g (l ∷ ls) false z m = go (in-cases (f l) m)
    where
      go : Member z (f l) ⊎ Member z (concat_map g ls) → (y : A) × Member y (l ∷ ls) × (Member z (f y) ⊎ Member z (g y))
      go (inl h) = (l, head refl, inl h)
      go (inr h) = let r = of_concat_map g ls h in (r.0, tail r.1, inr r.2)

  pub pruned_sound : (n : ℕ) (skip : D → Bool) (x z : A) → Member z (pruned n skip x) → From all_jumps x z
  unfolding pruned
  pruned_sound zero skip x z m = subst (λ y. From all_jumps x y) (sym (singleton m)) stop
  pruned_sound (suc n) skip x z m = go (λ s y. pruned_sound n s y z) (of_or_end x z _ m)
    where
      either : ((s : D → Bool) (y : A) → Member z (pruned n s y) → From all_jumps y z) → (d : D) (y : A)
          → Member z (pruned n (first d) y) ⊎ Member z (pruned n (later d) y) → From all_jumps y z
      either ih d y (inl h) = ih (first d) y h
      either ih d y (inr h) = ih (later d) y h

      go : ((s : D → Bool) (y : A) → Member z (pruned n s y) → From all_jumps y z)
          → (z ≡ x) ⊎ Member z (concat_map (λ d. tried (pruned n (first d)) (pruned n (later d)) (rays x d) (skip d)) dirs) → From all_jumps x z
      go ih (inl e) = subst (λ y. From all_jumps x y) (sym e) stop
      go ih (inr h) =
          let r = of_concat_map (λ d. tried (pruned n (first d)) (pruned n (later d)) (rays x d) (skip d)) dirs h in
          let q = of_tried (pruned n (first r.0)) (pruned n (later r.0)) (rays x r.0) (skip r.0) z r.2 in
          jump (in_concat_map (rays x) r.1 q.1) (either ih r.0 q.0 q.2)

  module _ (same : A → A → Bool) (same_refl : (x : A) → same x x ≡ true) (same_true : (x y : A) → same x y ≡ true → x ≡ y)
      (size : A → ℕ) (Good : A → Type 0)
      (good : (x y : A) → Good x → Member y (all_jumps x) → Good y)
      (grows : (x y : A) → Good x → Member y (all_jumps x) → size y ≡ suc (size x))
      -- nothing is found in a direction that the first landing leaves out
      (first_none : (x l : A) (ls : List A) (d e : D) → Good x → Member d dirs → Member e dirs → rays x d ≡ l ∷ ls → first d e ≡ true → rays l e ≡ [])
      -- in a direction that a later landing leaves out it finds what the first finds
      (later_same : (x l k : A) (ls : List A) (d e : D) → Good x → Member d dirs → Member e dirs → rays x d ≡ l ∷ ls → Member k ls → later d e ≡ true
      → rays k e ≡ rays l e) where
    abbrev Hold : Found A → A → Type 0
    Hold s x = Held size s x

    abbrev run : Found A → List A → Found A
    run s l = foldl (note same size) s l

    abbrev full : ℕ → A → List A
    full n x = followed all_jumps n x

    -- what x leaves out is held
    abbrev Covered : ℕ → (D → Bool) → Found A → A → Type 0
    Covered zero skip s x = Unit {0}
    Covered (suc n) skip s x = (d : D) → Member d dirs → skip d ≡ true → (z : A) → Member z (concat_map (full n) (rays x d)) → Hold s z

    covered_on : (n : ℕ) (skip : D → Bool) (s : Found A) (x : A) (ys : List A) → Covered n skip s x → Covered n skip (run s ys) x
    covered_on zero skip s x ys c = tt
    covered_on (suc n) skip s x ys c = λ d m e z k. held_fold same same_refl same_true size ys s z (c d m e z k)

    covered_first : (n : ℕ) (x l : A) (ls : List A) (d : D) (s : Found A) → Good x → Member d dirs → rays x d ≡ l ∷ ls → Covered n (first d) s l
    unfolding concat_map
    covered_first zero x l ls d s g m q = tt
    covered_first (suc n) x l ls d s g m q = λ e k p z h. absurd (not-nil (rw (first_none x l ls d e g m k q p) at h))

    covered_later : (n : ℕ) (x l k : A) (ls : List A) (d : D) (s : Found A) → Good x → Member d dirs → rays x d ≡ l ∷ ls → Member k ls
        → ((z : A) → Member z (full n l) → Hold s z) → Covered n (later d) s k
    unfolding followed
    covered_later zero x l k ls d s g m q h f = tt
    covered_later (suc n) x l k ls d s g m q h f = λ e j p z i.
        f z (in_or_end l (concat_map (full n) (all_jumps l)) (go e j (rw (later_same x l k ls d e g m j q h p) at i)))
      where
        go : (e : D) → Member e dirs → {z : A} → Member z (concat_map (full n) (rays l e)) → Member z (concat_map (full n) (all_jumps l))
        go e j h = let r = of_concat_map (full n) (rays l e) h in in_concat_map (full n) (in_concat_map (rays l) j r.1) r.2

    abbrev Cut : ℕ → Type 0
    Cut n = (skip : D → Bool) (x : A) (s : Found A) → Good x → Covered n skip s x → run s (pruned n skip x) ≡ run s (full n x)

    abbrev branch : ℕ → (D → Bool) → A → D → List A
    branch n skip x d = tried (pruned n (first d)) (pruned n (later d)) (rays x d) (skip d)

    landings : (n : ℕ) → Cut n → (x l : A) (ls : List A) (d : D) (s : Found A) → Good x → Member d dirs → rays x d ≡ l ∷ ls
        → run s (pruned n (first d) l ++ concat_map (pruned n (later d)) ls) ≡ run s (full n l ++ concat_map (full n) ls)
    unfolding concat_map
    landings n ih x l ls d s g m q =
        foldl-append (note same size) s (pruned n (first d) l) (concat_map (pruned n (later d)) ls)
        ∙ ap (λ (t : Found A). run t (concat_map (pruned n (later d)) ls))
        (ih (first d) l s (good x l g (along l (head refl))) (covered_first n x l ls d s g m q))
        ∙ rest ls (λ k h. h) (run s (full n l)) (λ z k. fold_held same same_refl same_true size (full n l) s z k)
        ∙ sym (foldl-append (note same size) s (full n l) (concat_map (full n) ls))
      where
        along : (y : A) → Member y (l ∷ ls) → Member y (all_jumps x)
        along y h = in_concat_map (rays x) m (rw q h)

        rest : (ks : List A) → ((k : A) → Member k ks → Member k ls) → (t : Found A) → ((z : A) → Member z (full n l) → Hold t z)
            → run t (concat_map (pruned n (later d)) ks) ≡ run t (concat_map (full n) ks)
        rest [] f t h = refl
        rest (k ∷ ks) f t h =
            foldl-append (note same size) t (pruned n (later d) k) (concat_map (pruned n (later d)) ks)
            ∙ ap (λ (u : Found A). run u (concat_map (pruned n (later d)) ks))
            (ih (later d) k t (good x k g (along k (tail (f k (head refl))))) (covered_later n x l k ls d t g m q (f k (head refl)) h))
            ∙ rest ks (λ j i. f j (tail i)) (run t (full n k)) (λ z i. held_fold same same_refl same_true size (full n k) t z (h z i))
            ∙ sym (foldl-append (note same size) t (full n k) (concat_map (full n) ks))

    direction : (n : ℕ) → Cut n → (skip : D → Bool) (x : A) (d : D) (s : Found A) → Good x → Member d dirs → Covered (suc n) skip s x
        → run s (branch n skip x d) ≡ run s (concat_map (full n) (rays x d))
    unfolding tried concat_map
    direction n ih skip x d s g m c = go (skip d) (rays x d) refl refl
      where
        go : (b : Bool) (ls : List A) → skip d ≡ b → rays x d ≡ ls
            → run s (tried (pruned n (first d)) (pruned n (later d)) ls b) ≡ run s (concat_map (full n) ls)
        go true ls e q = sym (absorb same same_refl same_true size (concat_map (full n) ls) s (λ z k. c d m e z (rw q k)))
        go false [] e q = refl
        go false (l ∷ ls) e q = landings n ih x l ls d s g m q

    directions : (n : ℕ) → Cut n → (skip : D → Bool) (x : A) → Good x → (ds : List D) → ((d : D) → Member d ds → Member d dirs) → (s : Found A)
        → Covered (suc n) skip s x
        → run s (concat_map (branch n skip x) ds) ≡ run s (concat_map (λ d. concat_map (full n) (rays x d)) ds)
    unfolding concat_map
    directions n ih skip x g [] f s c = refl
    directions n ih skip x g (d ∷ ds) f s c =
        foldl-append (note same size) s (branch n skip x d) (concat_map (branch n skip x) ds)
        ∙ ap (λ (t : Found A). run t (concat_map (branch n skip x) ds)) (direction n ih skip x d s g (f d (head refl)) c)
        ∙ directions n ih skip x g ds (λ e m. f e (tail m)) (run s (concat_map (full n) (rays x d)))
        (covered_on (suc n) skip s x (concat_map (full n) (rays x d)) c)
        ∙ sym (foldl-append (note same size) s (concat_map (full n) (rays x d)) (concat_map (λ e. concat_map (full n) (rays x e)) ds))

    -- a direction that is tried and finds something is found by the full search too
    seen : (n : ℕ) (skip : D → Bool) (x z : A) → Member z (concat_map (branch n skip x) dirs) → (w : A) × Member w (concat_map (full n) (all_jumps x))
    unfolding tried concat_map
    seen n skip x z m = let r = of_concat_map (branch n skip x) dirs m in go r.0 r.1 (rays x r.0) (skip r.0) refl r.2
      where
        go : (d : D) → Member d dirs → (ls : List A) (b : Bool) → rays x d ≡ ls → Member z (tried (pruned n (first d)) (pruned n (later d)) ls b)
            → (w : A) × Member w (concat_map (full n) (all_jumps x))
        go d h ls true q k = absurd (not-nil k)
        go d h [] false q k = absurd (not-nil k)
        go d h (l ∷ ls) false q k =
            let w = some_followed all_jumps n l in
            (w.0, in_concat_map (full n) (in_concat_map (rays x) h (rw q (head refl))) w.1)

    longer : (n : ℕ) (x z : A) → Good x → Member z (concat_map (full n) (all_jumps x)) → size x < size z
    longer n x z g m =
        let r = of_concat_map (full n) (all_jumps x) m in
        omega (arith, grows x r.0 g r.1, from_le (sound all_jumps n r.0 z r.2) (good x r.0 g r.1))
      where
        from_le : {y u : A} → From all_jumps y u → Good y → size y ≤ size u
        from_le stop k = omega arith
        from_le (jump {x = y} {y = v} i r) k = omega (arith, grows y v k i, from_le r (good y v k i))

    ends : (n : ℕ) (x : A) (s : Found A) → Good x → (P F : List A) → run s P ≡ run s F
        → ((z : A) → Member z P → (w : A) × Member w F) → ((z : A) → Member z F → size x < size z) → run s (or_end x P) ≡ run s (or_end x F)
    unfolding or_end
    ends n x s g [] [] e p f = refl
    ends n x s g (y ∷ ys) (u ∷ us) e p f = e
    ends n x s g (y ∷ ys) [] e p f = absurd (not-nil (p y (head refl)).1)
    ends n x s g [] (u ∷ us) e p f =
        held_note same same_refl same_true size s x
        (held_shorter same same_refl same_true size s u x
        (subst (λ t. Hold t u) (sym e) (fold_held same same_refl same_true size (u ∷ us) s u (head refl))) (f u (head refl)))
        ∙ e

    -- leaving these out changes nothing that is found
    pub cut : (n : ℕ) → Cut n
    unfolding pruned followed
    cut zero skip x s g c = refl
    cut (suc n) skip x s g c =
        ends n x s g (concat_map (branch n skip x) dirs) (concat_map (full n) (all_jumps x))
        (directions n (cut n) skip x g dirs (λ d m. m) s c ∙ ap (run s) (sym (concat_map_concat_map (full n) (rays x) dirs)))
        (λ z m. seen n skip x z m) (λ z m. longer n x z g m)

    -- at the start nothing is left out
    pub cut_start : (n : ℕ) (x : A) (s : Found A) → Good x → run s (pruned n (λ d. false) x) ≡ run s (full n x)
    cut_start n x s g = cut n (λ d. false) x s g (free n)
      where
        free : (k : ℕ) → Covered k (λ d. false) s x
        free zero = tt
        free (suc k) = λ d m e z h. absurd (false≢true e)
