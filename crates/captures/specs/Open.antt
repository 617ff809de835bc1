-- Whether a man or a king has a jump in one direction (docs/RULES.md, "Jumps"), by sets: `at` is the piece's square,
-- `them` are the enemies, `empty` the empty squares.
use Rattle.std.specs.Prelude.{◌≡◌, ℕ, Bool, not, eqb}
use Rattle.std.specs.Int.Bits.{bit_and}
use Rattle.squares.specs.Directions.{direction_at, shifted}
use Rattle.captures.specs.Rays.{slide_of}
use Rattle.captures.specs.Walks.{any_up_to}

-- a man on `at` has an enemy next to it in the direction of index d, with an empty square behind it
unfoldable pub man_jump : ℕ → ℕ → ℕ → ℕ → Bool
man_jump at them empty d = not (eqb (bit_and (shifted (direction_at d) (bit_and (shifted (direction_at d) at) them)) empty) 0)

-- the first piece ahead of a king on `at` in that direction is an enemy, with an empty square behind it
unfoldable pub king_jump : ℕ → ℕ → ℕ → ℕ → Bool
king_jump at them empty d = not (eqb (bit_and (shifted (direction_at d) (bit_and (slide_of (direction_at d) empty at) them)) empty) 0)

-- where `ahead` computes the square h d in the direction of index d: r is whether in some direction an enemy is there,
-- with an empty square behind it
abbrev pub Opens : (ℕ → ℕ → Type 0) → ℕ → ℕ → Bool → Type 0
Opens ahead them empty r =
    (h : ℕ → ℕ) → ((d x : ℕ) → ahead d x → x ≡ h d)
    → r ≡ any_up_to (λ d. not (eqb (bit_and (shifted (direction_at d) (bit_and (h d) them)) empty) 0)) 4
