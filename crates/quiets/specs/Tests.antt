-- Whether a quiet move or a jump is open, by shifted sets (docs/RULES.md, "Quiet moves", "Jumps").
use Rattle.std.specs.Prelude.{Bool, false, not, ◌||◌, List, [], ◌∷◌, ℕ, ◌+◌, ◌-◌, ◌^◌, eqb}
use Rattle.std.specs.Int.Bits.{bit_and, bit_or}
use Rattle.squares.specs.Sets.{members}
use Rattle.squares.specs.Directions.{direction_at, shifted}
use Rattle.squares.specs.declared.piece.Color.{Color}
use Rattle.squares.specs.declared.piece.Color.TheVariants.{White, Black}
use Rattle.captures.specs.Open.{king_jump}
use Rattle.captures.specs.Walks.{any_up_to}

-- the index of the first of a man's two forward directions; the other has the next index
abbrev pub forward_of : Color → ℕ
forward_of White = 0
forward_of Black = 2

-- whether p holds for some x in the list
unfoldable pub any_in : {A : Type 0} → (A → Bool) → List A → Bool
any_in p [] = false
any_in p (x ∷ xs) = p x || any_in p xs

-- whether some member of s can step in the direction of index d onto a square of `empty`
unfoldable pub steps_open : ℕ → ℕ → ℕ → Bool
steps_open s empty d = not (eqb (bit_and (shifted (direction_at d) s) empty) 0)

-- whether there is a quiet move: a man's step forward, or a king's step in any direction
unfoldable pub has_quiet_of : ℕ → ℕ → ℕ → Color → Bool
has_quiet_of men kings empty side =
    any_up_to (λ k. steps_open men empty (forward_of side + k)) 2 || any_up_to (steps_open kings empty) 4

-- whether some man has an enemy next to it in the direction of index d, with an empty square behind it; the test goes
-- back from the empty squares, since 3 - d is the index of the opposite direction
unfoldable pub men_jump : ℕ → ℕ → ℕ → ℕ → Bool
men_jump men them empty d = not (eqb (bit_and (shifted (direction_at (3 - d)) (bit_and (shifted (direction_at (3 - d)) empty) them)) men) 0)

-- whether the king at bit i has a jump in some direction; its own square counts as empty
unfoldable pub king_open : ℕ → ℕ → ℕ → Bool
king_open them empty i = any_up_to (king_jump (2 ^ i) them (bit_or empty (2 ^ i))) 4

-- whether some piece has a jump
unfoldable pub has_capture_of : ℕ → ℕ → ℕ → ℕ → Bool
has_capture_of men kings them empty = any_up_to (men_jump men them empty) 4 || any_in (king_open them empty) (members kings)
