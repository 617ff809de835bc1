-- A king's sequences: what one landing, one direction and all four come to, however an ending is noted.
use mathlib.Core.Path.{◌≡◌, refl, sym, ap, ap₂, ◌∙◌}
use mathlib.Core.Logic.{◌⊎◌, inl, inr, ⊎_elim}
use mathlib.Core.Bool.{Bool, true, false, not, cond, ◌&&◌, ◌||◌}
use mathlib.Core.List.{List, [], ◌∷◌, foldl, foldl-append, flat_map}
use Prim.Native.Nat.{ℕ, zero, suc, ◌+◌, ◌≤◌, ◌<◌, ◌^◌}
use native.Mathlib.Nat.{not-suc-le-zero}
use native.Mathlib.Numerals.{add-one}
use native.Mathlib.Omega.{arith}
use lib.Dec.{eqb}
use lib.Bits.{bit_and, bit_or}
use borrow.Author.Tests.{ne_eqb, not-false}
use Rattle.squares.specs.Sets.{size, without}
use Rattle.squares.specs.Directions.{direction_at, shifted}
use Rattle.captures.specs.Rays.{far, slide_of, landings}
use Rattle.captures.specs.Record.{Ending, ending}
use Rattle.captures.specs.Walks.{up_to, any_up_to}
use Rattle.captures.specs.Kings.{skip_of, landed_of, king_over, king_land, king_jumps, king_endings, King}
use Rattle.captures.proofs.Rays.{none_ahead}
use Rattle.captures.proofs.Walks.{or_yes, or_no, none_added}

-- ---- one jump
-- the set jumped over, and the first landing, as the code computes them
pub record Jumped (them empty at c d over first : ℕ) : Type 0 where
  pub over_is : over ≡ king_over them empty at c d
  pub first_is : first ≡ king_land them empty at c d

pub jumped : (them empty at c d u x y : ℕ) → u ≡ without them c → x ≡ slide_of (direction_at d) empty at
    → y ≡ shifted (direction_at d) (bit_and x u) → Jumped them empty at c d (bit_and x u) (bit_and y empty)
jumped them empty at c d u x y eu ex ey =
    let o : bit_and x u ≡ king_over them empty at c d = ap₂ bit_and ex eu in
    record { over_is = o; first_is = ap (λ (z : ℕ). bit_and z empty) (ey ∙ ap (shifted (direction_at d)) o) }

-- ---- along the landings
-- the sequences that go on from the landing l, after a jump over o whose first landing is n
abbrev pub onward : ℕ → ℕ → ℕ → ℕ → ℕ → ℕ → ℕ → ℕ → List Ending
onward them empty c d o n f l = king_endings them empty f l (bit_or c o) (skip_of (landed_of n l d))

abbrev pub branch : ℕ → ℕ → ℕ → ℕ → (ℕ → Bool) → ℕ → ℕ → List Ending
branch them empty at c skip f d =
    cond (skip d) [] (flat_map (onward them empty c d (king_over them empty at c d) (king_land them empty at c d) f) (landings far (direction_at d) empty (king_land them empty at c d)))

-- nothing is open in a direction without a jump
no_branch : (them empty at c : ℕ) (skip : ℕ → Bool) (f d : ℕ) → king_jumps them empty at c skip d ≡ false → branch them empty at c skip f d ≡ []
unfolding landings far flat_map
no_branch them empty at c skip f d q = go (skip d) q
  where
    n : ℕ
    n = king_land them empty at c d

    go : (b : Bool) → (not b && not (eqb n 0)) ≡ false → cond b [] (flat_map (onward them empty c d (king_over them empty at c d) n f) (landings far (direction_at d) empty n)) ≡ []
    go true p = refl
    go false p = rw (not-false (eqb n 0) p)

module _ {S : Type 0} (note : S → Ending → S) (them empty : ℕ) where
  -- in a walk along the landings: the state s, and the landings that are left, come to what s₂ and all of them come to
  pub record Rayed (c d o n : ℕ) (s₂ s : S) (e₂ e : Bool) (left : List ℕ) : Type 0 where
    pub same : (f : ℕ) → size (without them c) < suc f
        → foldl note s₂ (flat_map (onward them empty c d o n f) (landings far (direction_at d) empty n))
        ≡ foldl note s (flat_map (onward them empty c d o n f) left)
    pub any : ((e ≡ true) × (n ≡ 0 → ⊥)) ⊎ ((left ≡ landings far (direction_at d) empty n) × (e ≡ e₂))

  pub ray_start : (c d o n : ℕ) (s₂ : S) (e₂ : Bool) (left : List ℕ) → left ≡ landings far (direction_at d) empty n → Rayed c d o n s₂ s₂ e₂ e₂ left
  ray_start c d o n s₂ e₂ left q = record {
    same = λ f g. rw q refl;
    any = inr (q, refl);
  }

  module _ (c d o n : ℕ) (s₂ s : S) (e₂ e : Bool) (left : List ℕ) (w : Rayed c d o n s₂ s e₂ e left) where
    module _ (land : ℕ) (after : List ℕ) (q : left ≡ land ∷ after) where
      -- a landing follows a first landing
      pub ray_first : n ≡ 0 → ⊥
      ray_first = ⊎_elim (λ v. v.1) (λ v z. apart (sym q ∙ v.0 ∙ none_ahead (direction_at d) empty far n z)) w.any
        where
          apart : land ∷ after ≡ [] → ⊥
          apart e = let z : ◌≡◌ {A = ℕ} 0 1 = cc in omega arith

      pub ray_step : (r : S) → size (without them (bit_or c o)) < size (without them c) → King note them empty s land (bit_or c o) (skip_of (landed_of n land d)) r → Rayed c d o n s₂ r e₂ true after
      unfolding flat_map
      ray_step r less m = record {
        same = λ f g. w.same f g ∙ rw (q, foldl-append, ← m.found f (omega arith));
        any = inl (refl, ray_first);
      }

    pub ray_any : left ≡ [] → e ≡ (e₂ || not (eqb n 0))
    unfolding landings far
    ray_any z =
        ⊎_elim (λ v. v.0 ∙ or_yes e₂ (not (eqb n 0)) (ap not (ne_eqb _ _ v.1))) (λ v. v.1 ∙ or_no e₂ (not (eqb n 0)) (none (eqb n 0) (sym v.0 ∙ z))) w.any
      where
        none : (b : Bool) → cond b [] (n ∷ landings 63 (direction_at d) empty (bit_and (shifted (direction_at d) n) empty)) ≡ [] → not b ≡ false
        none true p = refl
        none false p = let z : ◌≡◌ {A = ℕ} 0 1 = cc in absurd (omega arith)

    pub ray_end : left ≡ [] → (f : ℕ) → size (without them c) < suc f → s ≡ foldl note s₂ (flat_map (onward them empty c d o n f) (landings far (direction_at d) empty n))
    unfolding flat_map
    ray_end z f g = sym (w.same f g ∙ rw z refl)

  -- ---- over the directions
  -- the state of the walk before the direction of index d
  pub record Walked (s₀ : S) (at c : ℕ) (skip : ℕ → Bool) (d : ℕ) (s : S) (e : Bool) : Type 0 where
    pub fits : them < 2 ^ 64
    pub within : d ≤ 4
    pub any : e ≡ any_up_to (king_jumps them empty at c skip) d
    pub found : (f : ℕ) → size (without them c) < suc f → s ≡ foldl note s₀ (up_to (branch them empty at c skip f) d)

  pub walked_none : (s₀ : S) (at c : ℕ) (skip : ℕ → Bool) → them < 2 ^ 64 → Walked s₀ at c skip 0 s₀ false
  unfolding any_up_to up_to
  walked_none s₀ at c skip ht = record { fits = ht; within = omega arith; any = refl; found = λ f h. refl }

  module _ (s₀ : S) (at c : ℕ) (skip : ℕ → Bool) (d : ℕ) (s₂ : S) (e₂ : Bool) (w : Walked s₀ at c skip d s₂ e₂) (l : d < 4) where
    -- a direction that is left out adds nothing
    pub walked_skip : skip d ≡ true → Walked s₀ at c skip (d + 1) s₂ e₂
    unfolding any_up_to up_to
    walked_skip z = record {
      fits = w.fits;
      within = omega arith;
      any = rw add-one (w.any ∙ or_no (any_up_to (king_jumps them empty at c skip) d) (king_jumps them empty at c skip d) (rw z));
      found = λ f h. w.found f h ∙ rw (add-one, foldl-append, z);
    }

    -- another adds the sequences from each of its landings
    pub walked_ray : (o n : ℕ) (s : S) (e : Bool) (left : List ℕ) → skip d ≡ false → Jumped them empty at c d o n → Rayed c d o n s₂ s e₂ e left
        → left ≡ [] → Walked s₀ at c skip (d + 1) s e
    unfolding any_up_to up_to
    walked_ray o n s e left z j v end =
        let jumps : not (eqb n 0) ≡ king_jumps them empty at c skip d = ap (λ (m : ℕ). not (eqb m 0)) j.first_is ∙ rw z in
        record {
          fits = w.fits;
          within = omega arith;
          any = rw add-one (ray_any c d o n s₂ s e₂ e left v end ∙ ap₂ ◌||◌ w.any jumps);
          found = λ f h.
              ray_end c d o n s₂ s e₂ e left v end f h
              ∙ ap₂ (λ (x y : ℕ). foldl note s₂ (flat_map (onward them empty c d x y f) (landings far (direction_at d) empty y))) j.over_is j.first_is
              ∙ rw (add-one, foldl-append, z, ← w.found f h);
        }

  -- all four are walked
  pub walked_out : (s₀ : S) (at c : ℕ) (skip : ℕ → Bool) (d : ℕ) (s : S) → Walked s₀ at c skip d s true → 4 ≤ d → King note them empty s₀ at c skip s
  unfolding king_endings
  walked_out s₀ at c skip d s w h =
      let e : d ≡ 4 = omega (arith, w.within) in
      record { found = go e }
    where
      go : d ≡ 4 → (f : ℕ) → size (without them c) < f → s ≡ foldl note s₀ (king_endings them empty f at c skip)
      go e zero l = absurd (not-suc-le-zero l)
      go e (suc f) l = rw (← e, ← w.any) (w.found f l)

  pub walked_end : (s₀ : S) (at c : ℕ) (skip : ℕ → Bool) (d : ℕ) (s r : S) → Walked s₀ at c skip d s false → 4 ≤ d → r ≡ note s (ending at c) → King note them empty s₀ at c skip r
  unfolding king_endings
  walked_end s₀ at c skip d s r w h p =
      let e : d ≡ 4 = omega (arith, w.within) in
      record { found = go e }
    where
      go : d ≡ 4 → (f : ℕ) → size (without them c) < f → r ≡ foldl note s₀ (king_endings them empty f at c skip)
      go e zero l = absurd (not-suc-le-zero l)
      go e (suc f) l =
          let same : s ≡ s₀ = w.found f l
          ∙ ap (foldl note s₀) (none_added (king_jumps them empty at c skip) _ (no_branch them empty at c skip f) d (sym w.any)) in
          rw (← e, ← w.any) (p ∙ ap (λ (q : S). note q (ending at c)) same)
