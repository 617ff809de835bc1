-- A king's captures, in the order in which the search finds them (docs/RULES.md, "Captures", "Order of the list"), by
-- sets, as the code computes them: `them` are the enemies, `empty` the squares on which the king may land.
use Rattle.std.specs.Prelude.{◌≡◌, ℕ, zero, suc, ◌+◌, ◌^◌, ◌<◌, Bool, false, cond, not, ◌&&◌, ◌||◌, eqb}
use mathlib.Core.List.{List, [], ◌∷◌, foldl, flat_map}
use Rattle.std.specs.Int.Bits.{bit_and, bit_or}
use Rattle.squares.specs.Sets.{size, without, members}
use Rattle.squares.specs.Directions.{direction_at, shifted}
use Rattle.captures.specs.declared.movegen.Came.{Came}
use Rattle.captures.specs.declared.movegen.Came.TheVariants.{Nowhere, Near, Far}
use Rattle.captures.specs.declared.movegen.Captures.{Captures}
use Rattle.captures.specs.Rays.{far, slide_of, landings}
use Rattle.captures.specs.Record.{Ending, ending, note_of}
use Rattle.captures.specs.Walks.{up_to, any_up_to}
use Rattle.captures.specs.Men.{onto}

-- whether a king that came so leaves out direction d: once it has jumped, the way back, and after a landing that is not
-- the first also straight on
unfoldable pub skip_of : Came → ℕ → Bool
skip_of Nowhere d = false
skip_of (Near came) d = eqb (d + came) 3
skip_of (Far came) d = eqb d came || eqb (d + came) 3

-- how a king came to `land` by a jump in direction d whose first landing is `near`
unfoldable pub landed_of : ℕ → ℕ → ℕ → Came
landed_of near land d = cond (eqb land near) (Near d) (Far d)

module _ (them empty : ℕ) where
  -- the first piece ahead of a king on `at` in the direction of index d, where it is an enemy and not among the taken c
  abbrev pub king_over : ℕ → ℕ → ℕ → ℕ
  king_over at c d = bit_and (slide_of (direction_at d) empty at) (without them c)

  -- the square next behind it, where it is empty: the first landing
  abbrev pub king_land : ℕ → ℕ → ℕ → ℕ
  king_land at c d = bit_and (shifted (direction_at d) (king_over at c d)) empty

  -- whether the king has a jump in the direction of index d
  abbrev pub king_jumps : ℕ → ℕ → (ℕ → Bool) → ℕ → Bool
  king_jumps at c skip d = not (skip d) && not (eqb (king_land at c d) 0)

  -- the endings reached from each landing of each jump; where no jump is open, the ending on `at`. The number of jumps
  -- that are followed stays below the first argument
  unfoldable pub king_endings : ℕ → ℕ → ℕ → (ℕ → Bool) → List Ending
  king_endings zero at c skip = []
  king_endings (suc f) at c skip =
      cond (any_up_to (king_jumps at c skip) 4)
      (up_to (λ d. cond (skip d) [] (flat_map (λ l. king_endings f l (bit_or c (king_over at c d)) (skip_of (landed_of (king_land at c d) l d))) (landings far (direction_at d) empty (king_land at c d)))) 4)
      (ending at c ∷ [])

-- r is s after `note` has been applied to each ending of a king on `at` that has taken c and leaves out the directions
-- of `skip`. Every bound f above the number of untaken enemies gives the same, since each jump takes one
pub record King {S : Type 0} (note : S → Ending → S) (them empty : ℕ) (s : S) (at c : ℕ) (skip : ℕ → Bool) (r : S) : Type 0 where
  pub found : (f : ℕ) → size (without them c) < f → r ≡ foldl note s (king_endings them empty f at c skip)

-- s after the search from the king at bit i; at the start no direction is left out
unfoldable pub king_captures : {N : ℕ} → ℕ → Captures N → ℕ → Captures N
king_captures empty s i = foldl note_of (onto empty s i) (king_endings s.them (bit_or empty (2 ^ i)) 65 (2 ^ i) 0 (skip_of Nowhere))

-- s after the search from each king, by bit
unfoldable pub kings_captures_of : {N : ℕ} → Captures N → ℕ → ℕ → Captures N
kings_captures_of s kings empty = foldl (king_captures empty) s (members kings)
