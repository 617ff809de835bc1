-- A man's sequences: what one direction adds, and what all four come to, however an ending is noted.
use mathlib.Core.Path.{◌≡◌, refl, sym, ap, ap₂, ◌∙◌}
use mathlib.Core.Bool.{Bool, true, false, not, cond}
use mathlib.Core.List.{List, [], foldl, foldl-append}
use Prim.Native.Nat.{ℕ, zero, suc, ◌+◌, ◌≤◌, ◌<◌}
use native.Mathlib.Nat.{not-suc-le-zero}
use native.Mathlib.Numerals.{add-one}
use native.Mathlib.Omega.{arith}
use lib.Bits.{bit_and, bit_or}
use borrow.Author.Tests.{eq-eqb, ne_eqb}
use Rattle.squares.specs.Sets.{size, without}
use Rattle.squares.specs.Directions.{direction_at, shifted}
use Rattle.captures.specs.Record.{Ending, ending}
use Rattle.captures.specs.Walks.{up_to, any_up_to}
use Rattle.captures.specs.Open.{man_jump}
use Rattle.captures.specs.Men.{man_over, man_land, man_jumps, man_endings, Man}
use Rattle.captures.proofs.Walks.{or_yes, or_no, none_added}

-- what the direction of index d adds
abbrev pub branch : ℕ → ℕ → ℕ → ℕ → ℕ → ℕ → List Ending
branch them empty at c f d = cond (man_jumps them empty at c d) (man_endings them empty f (man_land them empty at c d) (bit_or c (man_over them empty at c d))) []

-- ---- one jump
-- the set jumped over, and the landing, as the code computes them
pub record Jumped (them empty at c d over land : ℕ) : Type 0 where
  pub over_is : over ≡ man_over them empty at c d
  pub land_is : land ≡ man_land them empty at c d

pub jumped : (them empty at c d u x y : ℕ) → u ≡ without them c → x ≡ shifted (direction_at d) at → y ≡ shifted (direction_at d) (bit_and x u)
    → Jumped them empty at c d (bit_and x u) (bit_and y empty)
jumped them empty at c d u x y eu ex ey =
    let o : bit_and x u ≡ man_over them empty at c d = ap₂ bit_and ex eu in
    record { over_is = o; land_is = ap (λ (z : ℕ). bit_and z empty) (ey ∙ ap (shifted (direction_at d)) o) }

-- ---- over the directions
module _ {S : Type 0} (note : S → Ending → S) (them empty : ℕ) where
  -- the state of the walk before the direction of index d
  pub record Walked (s₀ : S) (at c d : ℕ) (s : S) (extended : Bool) : Type 0 where
    pub within : d ≤ 4
    pub any : extended ≡ any_up_to (man_jumps them empty at c) d
    pub found : (f : ℕ) → size (without them c) < suc f → s ≡ foldl note s₀ (up_to (branch them empty at c f) d)

  pub walked_none : (s₀ : S) (at c : ℕ) → Walked s₀ at c 0 s₀ false
  unfolding any_up_to up_to
  walked_none s₀ at c = record { within = omega arith; any = refl; found = λ f h. refl }

  module _ (s₀ : S) (at c d : ℕ) (s : S) (extended : Bool) (w : Walked s₀ at c d s extended) (lt : d < 4) (over land : ℕ)
      (j : Jumped them empty at c d over land) where
    -- a direction without a jump adds nothing
    pub walked_past : land ≡ 0 → Walked s₀ at c (d + 1) s extended
    unfolding any_up_to up_to
    walked_past z =
        let no : man_jumps them empty at c d ≡ false = ap not (eq-eqb _ _ (sym j.land_is ∙ z)) in
        record {
          within = omega arith;
          any = rw add-one (w.any ∙ or_no _ _ no);
          found = λ f h. w.found f h ∙ rw (add-one, foldl-append, no);
        }

    -- a jump adds the sequences of the man that jumped
    pub walked_jump : (r : S) → size (without them (bit_or c over)) < size (without them c) → (land ≡ 0 → ⊥) → Man note them empty s land (bit_or c over) r → Walked s₀ at c (d + 1) r true
    unfolding any_up_to up_to
    walked_jump r less ne m =
        let yes : man_jumps them empty at c d ≡ true = ap not (ne_eqb _ _ (λ z. ne (j.land_is ∙ z))) in
        record {
          within = omega arith;
          any = rw add-one (or_yes (any_up_to (man_jumps them empty at c) d) (man_jumps them empty at c d) yes);
          found = λ f h. rw (add-one, foldl-append, yes, ← w.found f h, ← j.land_is, ← j.over_is) (m.found f (omega arith));
        }

  -- all four are walked
  pub walked_out : (s₀ : S) (at c d : ℕ) (s : S) → Walked s₀ at c d s true → 4 ≤ d → Man note them empty s₀ at c s
  unfolding man_endings
  walked_out s₀ at c d s w h =
      let e : d ≡ 4 = omega (arith, w.within) in
      record { found = go e }
    where
      go : d ≡ 4 → (f : ℕ) → size (without them c) < f → s ≡ foldl note s₀ (man_endings them empty f at c)
      go e zero l = absurd (not-suc-le-zero l)
      go e (suc f) l = rw (← e, ← w.any) (w.found f l)

  pub walked_end : (s₀ : S) (at c d : ℕ) (s r : S) → Walked s₀ at c d s false → 4 ≤ d → r ≡ note s (ending at c) → Man note them empty s₀ at c r
  unfolding man_endings
  walked_end s₀ at c d s r w h p =
      let e : d ≡ 4 = omega (arith, w.within) in
      record { found = go e }
    where
      nothing : (f n : ℕ) → man_jumps them empty at c n ≡ false → branch them empty at c f n ≡ []
      nothing f n q = rw q

      go : d ≡ 4 → (f : ℕ) → size (without them c) < f → r ≡ foldl note s₀ (man_endings them empty f at c)
      go e zero l = absurd (not-suc-le-zero l)
      go e (suc f) l =
          let same : s ≡ s₀ = w.found f l ∙ ap (foldl note s₀) (none_added (man_jumps them empty at c) _ (nothing f) d (sym w.any)) in
          rw (← e, ← w.any) (p ∙ ap (λ (q : S). note q (ending at c)) same)

  -- where the man can not go on, noting what it took is all
  pub man_ends : (s : S) (at c : ℕ) → any_up_to (man_jump at (without them c) empty) 4 ≡ false → Man note them empty s at c (note s (ending at c))
  unfolding man_endings man_jump
  man_ends s at c h = record { found = go }
    where
      go : (f : ℕ) → size (without them c) < f → note s (ending at c) ≡ foldl note s (man_endings them empty f at c)
      go zero l = absurd (not-suc-le-zero l)
      go (suc f) l = rw h refl
