-- What lies ahead in one direction, as a ray gives it: the first square, and those that follow it.
use mathlib.Core.Path.{◌≡◌, refl, sym, ap, ◌∙◌}
use mathlib.Core.Bool.{Bool, true, false, cond}
use mathlib.Core.List.{List, [], ◌∷◌}
use Prim.Native.Nat.{ℕ, zero, suc, ◌-◌, ◌<◌, ◌≤◌, ◌^◌}
use native.Mathlib.Omega.{arith}
use lib.Bits.{bit_and}
use lib.ListN.{length}
use lib.Dec.{eqb}
use borrow.Author.Tests.{eq-eqb, ne_eqb, eqb-true, eqb-false}
use Rattle.std.specs.Prelude.{Option, Some, None}
use Rattle.std.specs.List.{find}
use Rattle.std.specs.Option.{unwrap_or, option_map}
use Rattle.std.proofs.Math.Nat.{mod-eq_of_lt}
use Rattle.std.proofs.lemmas.Nat.{and_mask}
use Rattle.squares.specs.Directions.{Direction, shifted}
use Rattle.squares.proofs.Pointwise.{and_lt}
use Rattle.squares.proofs.Shifts.{shifted_lt}
use Rattle.captures.specs.Rays.{far, slide_from, slide_of, landings, ray_of}
use Rattle.captures.proofs.Steps.{Enough, enough_64, enough_0, enough_step, enough_and}

pub enough_far : (d : Direction) (s : ℕ) → s < 2 ^ 64 → Enough d far s
unfolding far
enough_far d s h = enough_64 d s h

module _ (d : Direction) (within : ℕ) where
  -- nothing follows nothing
  pub none_ahead : (n s : ℕ) → s ≡ 0 → landings n d within s ≡ []
  unfolding landings
  none_ahead zero s z = refl
  none_ahead (suc n) s z = rw (eq-eqb _ _ z)

  -- the square after s
  abbrev after : ℕ → ℕ
  after s = bit_and (shifted d s) within

  after_lt : (s : ℕ) → s < 2 ^ 64 → after s < 2 ^ 64
  after_lt s h = and_lt (shifted d s) within (shifted_lt d s h)

  after_enough : (n s : ℕ) → s < 2 ^ 64 → (s ≡ 0 → ⊥) → Enough d (suc n) s → Enough d n (after s)
  after_enough n s h ne e = enough_and d n (shifted d s) within (shifted_lt d s h) (enough_step d n s h ne e)

  -- any two numbers of steps that are enough give the same
  same_ahead : (n m s : ℕ) → s < 2 ^ 64 → Enough d n s → Enough d m s → landings n d within s ≡ landings m d within s
  unfolding landings
  same_ahead zero m s h e f = sym (none_ahead m s (enough_0 d s h e))
  same_ahead (suc n) zero s h e f = none_ahead (suc n) s (enough_0 d s h f)
  same_ahead (suc n) (suc m) s h e f =
      go (eqb s 0) refl (λ ne. same_ahead n m (after s) (after_lt s h) (after_enough n s h ne e) (after_enough m s h ne f))
    where
      go : (b : Bool) → eqb s 0 ≡ b → ((s ≡ 0 → ⊥) → landings n d within (after s) ≡ landings m d within (after s))
          → cond b [] (s ∷ landings n d within (after s)) ≡ cond b [] (s ∷ landings m d within (after s))
      go true q ih = refl
      go false q ih = ap (λ (l : List ℕ). s ∷ l) (ih (eqb-false s 0 q))

  -- the first, and what follows it; y is where the first steps to
  module _ (s y : ℕ) (h : s < 2 ^ 64) (ne : s ≡ 0 → ⊥) (e : y ≡ shifted d s) where
    pub first_ahead : landings far d within s ≡ s ∷ landings far d within (bit_and y within)
    unfolding landings
    first_ahead = go far (enough_far d s h) ∙ ap (λ (x : ℕ). s ∷ landings far d within (bit_and x within)) (sym e)
      where
        go : (n : ℕ) → Enough d n s → landings n d within s ≡ s ∷ landings far d within (after s)
        go zero f = absurd (ne (enough_0 d s h f))
        go (suc n) f =
            rw (ne_eqb _ _ ne) (ap (λ (l : List ℕ). s ∷ l) (same_ahead n far (after s) (after_lt s h) (after_enough n s h ne f) (enough_far d (after s) (after_lt s h))))

    pub fewer_ahead : length (landings far d within (bit_and y within)) < length (landings far d within s)
    fewer_ahead = omega (arith, ap length first_ahead)

-- no more than the steps
most_ahead : (n : ℕ) (d : Direction) (within s : ℕ) → length (landings n d within s) ≤ n
unfolding landings
most_ahead zero d within s = omega arith
most_ahead (suc n) d within s = go (eqb s 0) (most_ahead n d within (bit_and (shifted d s) within))
  where
    go : (b : Bool) → length (landings n d within (bit_and (shifted d s) within)) ≤ n → length (cond b [] (s ∷ landings n d within (bit_and (shifted d s) within))) ≤ suc n
    go true ih = omega arith
    go false ih = omega arith

pub ray_most : (d : Direction) (within from : ℕ) → length (ray_of d within from) ≤ 64
unfolding far
ray_most d within from = most_ahead 64 d within (bit_and (shifted d from) within)

-- ---- a slide
-- a set that keeps every bit
abbrev pub full : ℕ
full = 2 ^ 64 - 1

all_kept : (s : ℕ) → s < 2 ^ 64 → bit_and s full ≡ s
all_kept s h = and_mask s 64 ∙ mod-eq_of_lt h

module _ (d : Direction) (empty : ℕ) where
  abbrev ends : ℕ → Bool
  ends s = eqb (bit_and s empty) 0

  -- where nothing is left, a slide stays
  off : (n s : ℕ) → s ≡ 0 → slide_from n d empty s ≡ 0
  unfolding slide_from
  off zero s z = z
  off (suc n) s z = rw z refl

  -- it ends at the first square ahead that is not empty, or off the board
  slide_first : (n s : ℕ) → s < 2 ^ 64 → Enough d n s → slide_from n d empty s ≡ unwrap_or (find ends (landings n d full s)) 0
  unfolding slide_from landings
  slide_first zero s h e = enough_0 d s h e
  slide_first (suc n) s h e =
      go (eqb s 0) refl (λ ne. ap (λ (x : ℕ). unwrap_or (find ends (landings n d full x)) 0) (all_kept (shifted d s) (shifted_lt d s h)) ∙ sym (slide_first n (shifted d s) (shifted_lt d s h) (enough_step d n s h ne e)))
    where
      next : List ℕ
      next = landings n d full (bit_and (shifted d s) full)

      go : (b : Bool) → eqb s 0 ≡ b → ((s ≡ 0 → ⊥) → unwrap_or (find ends next) 0 ≡ slide_from n d empty (shifted d s))
          → cond (ends s) s (slide_from n d empty (shifted d s)) ≡ unwrap_or (find ends (cond b [] (s ∷ next))) 0
      go true q ih = off (suc n) s (eqb-true s 0 q)
      go false q ih = met (ends s) (ih (eqb-false s 0 q))
        where
          met : (c : Bool) → unwrap_or (find ends next) 0 ≡ slide_from n d empty (shifted d s) → cond c s (slide_from n d empty (shifted d s)) ≡ unwrap_or (cond c (Some s) (find ends next)) 0
          met true w = refl
          met false w = sym w

  -- the same, as the chain says what it found
  pub slide_found : (from : ℕ) → from < 2 ^ 64 → (r : Option ℕ) → option_map (λ x. x) r ≡ find ends (ray_of d full from) → unwrap_or r 0 ≡ slide_of d empty from
  unfolding slide_of
  slide_found from h r e =
      same r ∙ ap (λ (o : Option ℕ). unwrap_or o 0) e
      ∙ ap (λ (x : ℕ). unwrap_or (find ends (landings far d full x)) 0) (all_kept (shifted d from) (shifted_lt d from h))
      ∙ sym (slide_first far (shifted d from) (shifted_lt d from h) (enough_far d (shifted d from) (shifted_lt d from h)))
    where
      same : (o : Option ℕ) → unwrap_or o 0 ≡ unwrap_or (option_map (λ x. x) o) 0
      same None = refl
      same (Some x) = refl
