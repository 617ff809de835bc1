-- One-bit sets of the code against bits of the rules: the enemy jumped and the square behind it.
use mathlib.Core.Path.{◌≡◌, refl, ap, ◌∙◌}
use Prim.Native.Nat.{ℕ, ◌^◌, ◌<◌}
use native.Mathlib.Nat.{lt_of_le_of_lt}
use mathlib.Core.Bool.{Bool, true, false, ◌&&◌}
use lib.Bits.{bit_and, and_zero_l}
use Rattle.squares.specs.Directions.{Direction, next, shifted}
use Rattle.squares.specs.Sets.{has, without}
use Rattle.squares.proofs.Bools.{and_left}
use Rattle.squares.proofs.Folds.{bit_if}
use Rattle.squares.proofs.Pointwise.{member_lt, has_without, without_le}
use Rattle.squares.proofs.Shifts.{next_lt, step_and}
use Rattle.positions.specs.Boards.{Board, own, enemy}
use Rattle.captures.specs.Record.{Ending, ending}
use Rattle.captures.proofs.Steps.{step_none}
use Rattle.rules.specs.Ordered.{target}
use Rattle.rules.specs.Rules.{BitMove, space, Fair}
use Rattle.rules.proofs.Boards.{wide, own_lt, enemy_lt, space_lt}

-- the ending that the code records for a move by bits
abbrev pub ended : BitMove → Ending
ended w = ending (2 ^ w.to) w.taken

module _ (b : Board) (fair : Fair b) where
  pub target_lt : (t o : ℕ) → target b t o ≡ true → o < 54
  unfolding target
  target_lt t o e = member_lt 54 (enemy b) o (enemy_lt b fair) (and_left _ _ e)

  -- the enemy next to bit i that is not yet taken
  pub over_is : (d : Direction) (i t : ℕ) → i < 54 → t < 2 ^ 64
      → bit_and (shifted d (2 ^ i)) (without (enemy b) t) ≡ bit_if (target b t (next d i)) (next d i)
  unfolding target
  over_is d i t h l =
      step_and d i h (without (enemy b) t) (lt_of_le_of_lt (without_le (enemy b) t) (enemy_lt b fair))
      ∙ ap (λ (c : Bool). bit_if c (next d i)) (has_without (enemy b) t (wide (enemy b) (enemy_lt b fair)) l (next d i) (next_lt d i))

  module _ (f : ℕ) (mine : has (own b) f ≡ true) where
    pub small : space b f < 2 ^ 54
    small = space_lt b fair f (member_lt 54 (own b) f (own_lt b fair) mine)

    -- the square behind o, where it is empty
    pub land_is : (d : Direction) (t o w : ℕ) → w ≡ bit_if (target b t o) o
        → bit_and (shifted d w) (space b f) ≡ bit_if (target b t o && has (space b f) (next d o)) (next d o)
    land_is d t o w e = ap (λ (u : ℕ). bit_and (shifted d u) (space b f)) e ∙ go (target b t o) refl
      where
        go : (c : Bool) → target b t o ≡ c → bit_and (shifted d (bit_if c o)) (space b f) ≡ bit_if (c && has (space b f) (next d o)) (next d o)
        go true q = step_and d o (target_lt t o q) (space b f) small
        go false q = ap (λ (u : ℕ). bit_and u (space b f)) (step_none d) ∙ and_zero_l (space b f)
