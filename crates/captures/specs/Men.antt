-- A man's captures, in the order in which the search finds them (docs/RULES.md, "Captures", "Order of the list"), by
-- sets, as the code computes them: `them` are the enemies, `empty` the squares on which the man may land.
use Rattle.std.specs.Prelude.{◌≡◌, ℕ, zero, suc, ◌^◌, ◌<◌, Bool, cond, not, eqb}
use mathlib.Core.List.{List, [], ◌∷◌, foldl}
use Rattle.std.specs.Int.Bits.{bit_and, bit_or}
use Rattle.squares.specs.Sets.{size, without, members}
use Rattle.squares.specs.Directions.{direction_at, shifted}
use Rattle.captures.specs.declared.movegen.Captures.{Captures}
use Rattle.captures.specs.Record.{Ending, ending, note_of}
use Rattle.captures.specs.Walks.{up_to, any_up_to}

module _ (them empty : ℕ) where
  -- the enemy next to a man on `at` in the direction of index d, if it is not among the taken c
  abbrev pub man_over : ℕ → ℕ → ℕ → ℕ
  man_over at c d = bit_and (shifted (direction_at d) at) (without them c)

  -- the square next behind it, where it is empty
  abbrev pub man_land : ℕ → ℕ → ℕ → ℕ
  man_land at c d = bit_and (shifted (direction_at d) (man_over at c d)) empty

  -- whether the man has a jump in the direction of index d
  abbrev pub man_jumps : ℕ → ℕ → ℕ → Bool
  man_jumps at c d = not (eqb (man_land at c d) 0)

  -- the endings reached by each jump; where no jump is open, the ending on `at`. The number of jumps that are followed
  -- stays below the first argument
  unfoldable pub man_endings : ℕ → ℕ → ℕ → List Ending
  man_endings zero at c = []
  man_endings (suc f) at c =
      cond (any_up_to (man_jumps at c) 4)
      (up_to (λ d. cond (man_jumps at c d) (man_endings f (man_land at c d) (bit_or c (man_over at c d))) []) 4)
      (ending at c ∷ [])

-- r is s after `note` has been applied to each ending of a man on `at` that has taken c. Every bound f above the number
-- of untaken enemies gives the same, since each jump takes one
pub record Man {S : Type 0} (note : S → Ending → S) (them empty : ℕ) (s : S) (at c : ℕ) (r : S) : Type 0 where
  pub found : (f : ℕ) → size (without them c) < f → r ≡ foldl note s (man_endings them empty f at c)

-- the search s turned to the piece on `at`, whose square counts as empty
abbrev pub set_onto : {N : ℕ} → ℕ → Captures N → ℕ → Captures N
set_onto empty s at = record { moves = s.moves; len = s.len; them = s.them; empty = bit_or empty at; from = at; best = s.best }

-- the same, turned to the piece at bit i
abbrev pub onto : {N : ℕ} → ℕ → Captures N → ℕ → Captures N
onto empty s i = set_onto empty s (2 ^ i)

-- s after the search from the man at bit i; 65 is above any number of enemies
unfoldable pub man_captures : {N : ℕ} → ℕ → Captures N → ℕ → Captures N
man_captures empty s i = foldl note_of (onto empty s i) (man_endings s.them (bit_or empty (2 ^ i)) 65 (2 ^ i) 0)

-- s after the search from each man, by bit
unfoldable pub men_captures_of : {N : ℕ} → Captures N → ℕ → ℕ → Captures N
men_captures_of s men empty = foldl (man_captures empty) s (members men)
