-- The four diagonal directions: the step from one bit to the next, and the shift of a whole set (docs/RULES.md,
-- "The board"). From bit i they lead to bits i - 6, i - 5, i + 5 and i + 6.
use Rattle.std.specs.Prelude.{ℕ, zero, suc, ◌+◌, ◌-◌, ◌*◌, ◌/◌, ◌%◌, ◌^◌}

pub data Direction : Type 0 where
  up_left : Direction
  up_right : Direction
  down_left : Direction
  down_right : Direction

-- how far a step goes: -6, -5, 5 or 6 bits, modulo 64
abbrev pub places : Direction → ℕ
places up_left = 64 - 6
places up_right = 64 - 5
places down_left = 5
places down_right = 6

-- the bit one step from i; a step off the board ends on a bit that is no square
abbrev pub next : Direction → ℕ → ℕ
next d i = (i + places d) % 64

-- the direction back
abbrev pub opposite : Direction → Direction
opposite up_left = down_right
opposite up_right = down_left
opposite down_left = up_right
opposite down_right = up_left

-- the index of a direction in the table `DIRECTIONS` of the code
abbrev pub index_of : Direction → ℕ
index_of up_left = 0
index_of up_right = 1
index_of down_left = 2
index_of down_right = 3

-- the direction at an index; every index above 2 is down-right
abbrev pub direction_at : ℕ → Direction
direction_at zero = up_left
direction_at (suc zero) = up_right
direction_at (suc (suc zero)) = down_left
direction_at (suc (suc (suc n))) = down_right

-- s with every bit moved one step; a bit that leaves the 64 bits is lost
unfoldable pub shifted : Direction → ℕ → ℕ
shifted up_left s = s / 2 ^ 6
shifted up_right s = s / 2 ^ 5
shifted down_left s = (s * 2 ^ 5) % 2 ^ 64
shifted down_right s = (s * 2 ^ 6) % 2 ^ 64
