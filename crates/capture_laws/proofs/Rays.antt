-- A king's rays: a slide of a one-bit set ends beyond the ray of the rules, and its landings are the ray.
use mathlib.Core.Path.{◌≡◌, refl, sym, ap, ◌∙◌}
use Prim.Native.Nat.{ℕ, zero, suc, ◌^◌, ◌<◌}
use native.Mathlib.Nat.{add_comm}
use mathlib.Core.Bool.{Bool, true, false, ◌||◌, cond}
use mathlib.Core.List.{List, [], ◌∷◌, map}
use lib.Bits.{bit_and}
use lib.Dec.{eqb}
use borrow.Author.Tests.{eqb-true, eq-eqb}
use Rattle.squares.specs.Directions.{Direction, next, shifted, index_of}
use Rattle.squares.specs.Sets.{has}
use Rattle.squares.proofs.Bools.{bool_ext}
use Rattle.squares.proofs.Folds.{bit_if}
use Rattle.squares.proofs.Pointwise.{member_lt}
use Rattle.squares.proofs.Shifts.{step_and}
use Rattle.captures.specs.declared.movegen.Came.TheVariants.{Nowhere, Near, Far}
use Rattle.captures.specs.Kings.{skip_of}
use Rattle.captures.specs.Rays.{far, slide_from, slide_of, landings}
use Rattle.rules.specs.Ordered.{ahead, ray, last}
use Rattle.rules.proofs.Ray.{ahead_on, ahead_end}
use Rattle.rules.proofs.Shortcut.{back, straight, aside}
use Rattle.squares.proofs.OneBit.{step_bit, bit_some}

-- ---- the squares of e along d
module _ (e : ℕ) (small : e < 2 ^ 54) (d : Direction) where
  slide_on : (n i : ℕ) → i < 54 → has e (next d i) ≡ true → slide_from (suc n) d e (shifted d (2 ^ i)) ≡ slide_from n d e (shifted d (2 ^ next d i))
  unfolding slide_from
  slide_on n i h q =
      ap (λ (c : Bool). cond c (shifted d (2 ^ i)) (slide_from n d e (shifted d (shifted d (2 ^ i)))))
      (ap (λ (w : ℕ). eqb w 0) (step_and d i h e small ∙ ap (λ (c : Bool). bit_if c (next d i)) q) ∙ bit_some (next d i))
      ∙ ap (λ (w : ℕ). slide_from n d e (shifted d w)) (step_bit d i h (member_lt 54 e (next d i) small q))

  slide_end : (n i : ℕ) → i < 54 → has e (next d i) ≡ false → slide_from n d e (shifted d (2 ^ i)) ≡ shifted d (2 ^ i)
  unfolding slide_from
  slide_end zero i h q = refl
  slide_end (suc n) i h q =
      ap (λ (c : Bool). cond c (shifted d (2 ^ i)) (slide_from n d e (shifted d (shifted d (2 ^ i)))))
      (ap (λ (w : ℕ). eqb w 0) (step_and d i h e small ∙ ap (λ (c : Bool). bit_if c (next d i)) q))

  slide_from_lem : (n i : ℕ) → i < 54 → slide_from n d e (shifted d (2 ^ i)) ≡ shifted d (2 ^ last i (ahead n e d i))
  unfolding slide_from ahead last
  slide_from_lem zero i h = refl
  slide_from_lem (suc n) i h = go (λ l. slide_from_lem n (next d i) l) (has e (next d i)) refl
    where
      go : (next d i < 54 → slide_from n d e (shifted d (2 ^ next d i)) ≡ shifted d (2 ^ last (next d i) (ahead n e d (next d i))))
          → (c : Bool) → has e (next d i) ≡ c → slide_from (suc n) d e (shifted d (2 ^ i)) ≡ shifted d (2 ^ last i (ahead (suc n) e d i))
      go ih true q =
          slide_on n i h q ∙ ih (member_lt 54 e (next d i) small q)
          ∙ ap (λ (l : List ℕ). shifted d (2 ^ last i l)) (sym (ahead_on e d n i q))
      go ih false q = slide_end (suc n) i h q ∙ ap (λ (l : List ℕ). shifted d (2 ^ last i l)) (sym (ahead_end e d (suc n) i q))

  pub slide_is : (i : ℕ) → i < 54 → slide_of d e (2 ^ i) ≡ shifted d (2 ^ last i (ray e d i))
  unfolding slide_of far ray
  slide_is i h = slide_from_lem 64 i h

  landings_from : (n o : ℕ) → o < 54 → landings n d e (bit_if (has e (next d o)) (next d o)) ≡ map (λ (j : ℕ). 2 ^ j) (ahead n e d o)
  unfolding landings ahead
  landings_from zero o h = refl
  landings_from (suc n) o h = go (λ l. landings_from n (next d o) l) (has e (next d o)) refl
    where
      go : (next d o < 54 → landings n d e (bit_if (has e (next d (next d o))) (next d (next d o))) ≡ map (λ (j : ℕ). 2 ^ j) (ahead n e d (next d o)))
          → (c : Bool) → has e (next d o) ≡ c
          → landings (suc n) d e (bit_if (has e (next d o)) (next d o)) ≡ map (λ (j : ℕ). 2 ^ j) (ahead (suc n) e d o)
      go ih true q =
          let l = member_lt 54 e (next d o) small q in
          ap (λ (c : Bool). landings (suc n) d e (bit_if c (next d o))) q
          ∙ ap (λ (c : Bool). cond c [] (2 ^ next d o ∷ landings n d e (bit_and (shifted d (2 ^ next d o)) e))) (bit_some (next d o))
          ∙ ap (λ (r : List ℕ). 2 ^ next d o ∷ r) (ap (landings n d e) (step_and d (next d o) l e small) ∙ ih l)
          ∙ ap (map (λ (j : ℕ). 2 ^ j)) (sym (ahead_on e d n o q))
      go ih false q = ap (λ (c : Bool). landings (suc n) d e (bit_if c (next d o))) q ∙ ap (map (λ (j : ℕ). 2 ^ j)) (sym (ahead_end e d (suc n) o q))

  pub landings_are : (o : ℕ) → o < 54 → landings far d e (bit_if (has e (next d o)) (next d o)) ≡ map (λ (j : ℕ). 2 ^ j) (ray e d o)
  unfolding far ray
  landings_are o h = landings_from 64 o h

  -- as the quiet lists write it
  pub landings_ray : (o : ℕ) → o < 54 → landings far d e (bit_and (shifted d (2 ^ o)) e) ≡ map (λ (j : ℕ). 2 ^ j) (ray e d o)
  landings_ray o h = ap (landings far d e) (step_and d o h e small) ∙ landings_are o h

  pub landings_none : landings far d e 0 ≡ []
  unfolding far landings
  landings_none = refl

-- ---- which directions are left out
eqb_turned : (m n : ℕ) → eqb m n ≡ eqb n m
eqb_turned m n = bool_ext _ _ (λ p. eq-eqb n m (sym (eqb-true m n p))) (λ p. eq-eqb m n (sym (eqb-true n m p)))

pub skips_back : (d c : Direction) → skip_of (Near (index_of d)) (index_of c) ≡ back d c
unfolding skip_of back
skips_back d c = ap (λ (n : ℕ). eqb n 3) (add_comm (index_of c) (index_of d))

pub skips_aside : (d c : Direction) → skip_of (Far (index_of d)) (index_of c) ≡ aside d c
unfolding skip_of aside straight back
skips_aside d c =
    ap (λ (x : Bool). x || skip_of (Near (index_of d)) (index_of c)) (eqb_turned (index_of c) (index_of d))
    ∙ ap (λ (x : Bool). eqb (index_of d) (index_of c) || x) (skips_back d c)

-- at the start none
pub skips_none : (c : Direction) → skip_of Nowhere (index_of c) ≡ false
unfolding skip_of
skips_none c = refl
