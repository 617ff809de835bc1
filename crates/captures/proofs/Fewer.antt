-- What a jump takes leaves fewer untaken enemies.
use mathlib.Core.Path.{◌≡◌, refl, sym, ap, ◌∙◌, subst}
use Prim.Native.Nat.{ℕ, ◌^◌, ◌<◌}
use native.Mathlib.Omega.{arith}
use mathlib.Core.Bool.{Bool, true, false, not, ◌&&◌, ◌||◌, or-true}
use lib.Bits.{bit_and, bit_or, and_le_r, or_lt}
use Rattle.squares.specs.Sets.{has, size, without, lowest}
use Rattle.squares.specs.Directions.{Direction, shifted}
use Rattle.squares.proofs.Bools.{at3, imp, imp_elim, and_right, tested}
use Rattle.squares.proofs.Pointwise.{has_and, has_or, has_without, without_lt}
use Rattle.squares.proofs.Members.{lowest_in, lowest_lt}
use Rattle.squares.proofs.Sizes.{size_lt}
use Rattle.captures.proofs.Steps.{no_land}

-- x meets the untaken of t in something: they are fewer once that is taken too
pub fewer : (x t c : ℕ) → t < 2 ^ 64 → c < 2 ^ 64 → (bit_and x (without t c) ≡ 0 → ⊥)
    → size (without t (bit_or c (bit_and x (without t c)))) < size (without t c)
unfolding tested
fewer x t c ht hc ne = size_lt (without t c) (without t (bit_or c o)) j (without_lt t c ht) (without_lt t (bit_or c o) ht) within there gone
  where
    o : ℕ
    o = bit_and x (without t c)

    ol : o < 2 ^ 64
    ol = omega (arith, and_le_r x (without t c), without_lt t c ht)

    pos : 0 < o
    pos = omega (arith, ne)

    j : ℕ
    j = lowest o

    jl : j < 64
    jl = lowest_lt 64 o pos ol

    joined : bit_or c o < 2 ^ 64
    joined = or_lt 64 c o hc ol

    left : (i : ℕ) → i < 64 → has (without t (bit_or c o)) i ≡ (has t i && not (has c i || has o i))
    left i l = has_without t (bit_or c o) ht joined i l ∙ ap (λ (b : Bool). has t i && not b) (has_or c o i)

    within : (i : ℕ) → i < 64 → has (without t (bit_or c o)) i ≡ true → has (without t c) i ≡ true
    within i l e =
        has_without t c ht hc i l
        ∙ imp_elim _ _ (at3 (λ a b d. imp (a && not (b || d)) (a && not b)) refl (has t i) (has c i) (has o i)) (sym (left i l) ∙ e)

    met : has o j ≡ true
    met = lowest_in 64 o pos ol

    there : has (without t c) j ≡ true
    there = and_right (has x j) _ (sym (has_and x (without t c) j) ∙ met)

    gone : has (without t (bit_or c o)) j ≡ false
    gone = left j jl ∙ ap (λ (b : Bool). has t j && not (has c j || b)) met ∙ none (has t j) (has c j)
      where
        none : (a b : Bool) → (a && not (b || true)) ≡ false
        none true true = refl
        none true false = refl
        none false true = refl
        none false false = refl

-- the same of a jump as the code computes it, over whatever lies ahead: where there is a landing, fewer are untaken
pub jump_fewer : (them empty c : ℕ) (d : Direction) (u x y : ℕ) → u ≡ without them c → y ≡ shifted d (bit_and x u) → them < 2 ^ 64 → c < 2 ^ 64
    → (bit_and y empty ≡ 0 → ⊥) → size (without them (bit_or c (bit_and x u))) < size (without them c)
jump_fewer them empty c d u x y eu ey ht hc ne =
    subst (λ (w : ℕ). size (without them (bit_or c (bit_and x w))) < size (without them c)) (sym eu)
    (fewer x them c ht hc (λ z. ne (ap (λ (v : ℕ). bit_and v empty) ey ∙ no_land d (bit_and x u) empty (ap (bit_and x) eu ∙ z))))

-- what a jump takes is more than what was taken
pub more_taken : (x t c : ℕ) (u : ℕ) → u ≡ without t c → t < 2 ^ 64 → c < 2 ^ 64 → (bit_and x u ≡ 0 → ⊥) → size c < size (bit_or c (bit_and x u))
more_taken x t c u e ht hc ne = size_lt (bit_or c o) c j (or_lt 64 c o hc ol) hc within there gone
  where
    o : ℕ
    o = bit_and x u

    ul : u < 2 ^ 64
    ul = rw e (without_lt t c ht)

    ol : o < 2 ^ 64
    ol = omega (arith, and_le_r x u, ul)

    pos : 0 < o
    pos = omega (arith, ne)

    j : ℕ
    j = lowest o

    jl : j < 64
    jl = lowest_lt 64 o pos ol

    met : has o j ≡ true
    met = lowest_in 64 o pos ol

    within : (i : ℕ) → i < 64 → has c i ≡ true → has (bit_or c o) i ≡ true
    within i l h = has_or c o i ∙ rw h refl

    there : has (bit_or c o) j ≡ true
    there = has_or c o j ∙ rw (met, or-true) refl

    gone : has c j ≡ false
    gone = apart (has t j) (has c j) (sym (has_without t c ht hc j jl) ∙ ap (λ (y : ℕ). has y j) (sym e) ∙ and_right (has x j) _ (sym (has_and x u j) ∙ met))
      where
        apart : (a b : Bool) → (a && not b) ≡ true → b ≡ false
        apart a false q = refl
        apart true true q = sym q
        apart false true q = let z : false ≡ true = q in cc

-- the same where there is a landing
pub jump_more : (them empty c : ℕ) (d : Direction) (u x y : ℕ) → u ≡ without them c → y ≡ shifted d (bit_and x u) → them < 2 ^ 64 → c < 2 ^ 64
    → (bit_and y empty ≡ 0 → ⊥) → size c < size (bit_or c (bit_and x u))
jump_more them empty c d u x y eu ey ht hc ne =
    more_taken x them c u eu ht hc (λ z. ne (ap (λ (v : ℕ). bit_and v empty) ey ∙ no_land d (bit_and x u) empty z))
