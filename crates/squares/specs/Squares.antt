-- The 50 squares: their numbers, bits, rows and files, and sets of them (docs/RULES.md, "The board").
-- A drawing of the numbers and bits is at the top of src/bitboard.rt.
use Rattle.std.specs.Prelude.{ℕ, zero, suc, ◌+◌, ◌-◌, ◌*◌, ◌/◌, ◌%◌, ◌^◌, Bool, cond, not, ◌&&◌, ◌==◌, bit_and, nat_le, nat_lt, Err, Ok, Result}
use Rattle.squares.specs.Sets.{has, without, lowest}
use Rattle.squares.specs.declared.piece.Color.{Color}
use Rattle.squares.specs.declared.piece.Color.TheVariants.{White, Black}
use Rattle.squares.specs.Refusals.{refusal}
use Rattle.squares.specs.declared.refusal.Refusal.{Refusal}

-- whether n is the number of a square
unfoldable pub is_square : ℕ → Bool
is_square n = nat_le 1 n && nat_le n 50

-- the bit of square n: every ten squares are followed by a gap of one bit; division rounds down
unfoldable pub bit_of : ℕ → ℕ
bit_of n = (n - 1) + (n - 1) / 10

-- the set of k squares from number n on
unfoldable pub run : ℕ → ℕ → ℕ
run n zero = 0
run n (suc k) = 2 ^ bit_of n + run (suc n) k

-- the 50 squares
unfoldable pub all : ℕ
all = run 1 50

-- the row where a man of the colour promotes: squares 1 to 5 for White, 46 to 50 for Black
unfoldable pub promotion : Color → ℕ
promotion White = run 1 5
promotion Black = run 46 5

-- whether bit i is a square: it is below 54 and none of the gaps 10, 21, 32, 43
unfoldable pub on_board : ℕ → Bool
on_board i = nat_lt i 54 && not (i % 11 == 10)

-- the number of the square at bit i, 0 where bit i is no square
unfoldable pub square_at_bit : ℕ → ℕ
square_at_bit i = cond (on_board i) (i - i / 11 + 1) 0

-- the row of the square at bit i: five squares a row, row 0 at the top
unfoldable pub row_of : ℕ → ℕ
row_of i = (square_at_bit i - 1) / 5

-- its file, 0 at the left edge: even rows begin at file 1, odd rows at file 0
unfoldable pub file_of : ℕ → ℕ
file_of i = 2 * ((square_at_bit i - 1) % 5) + (1 - row_of i % 2)

-- x where n is a square, else refusal 11
unfoldable pub of_square : ℕ → ℕ → Result ℕ Refusal
of_square n x = cond (is_square n) (Ok x) (Err (refusal 11))

-- the set of square n alone; empty where n is no square
unfoldable pub single : ℕ → ℕ
single n = cond (is_square n) (2 ^ bit_of n) 0

-- whether square n belongs to s
unfoldable pub contains_of : ℕ → ℕ → Bool
contains_of s n = is_square n && has s (bit_of n)

-- the lowest square of s, or 0 where it has none; bits that are no square do not count
unfoldable pub first_of : ℕ → ℕ
first_of s = square_at_bit (lowest (bit_and s all))

-- the squares of s without the lowest
unfoldable pub rest_of : ℕ → ℕ
rest_of s = without (bit_and s all) (2 ^ lowest (bit_and s all))

-- whether every bit of s is a square
unfoldable pub squares_only : ℕ → Bool
squares_only s = without s all == 0

-- the set of these bits; refusal 11 where one of them is no square
unfoldable pub from_bits_of : ℕ → Result ℕ Refusal
from_bits_of s = cond (squares_only s) (Ok s) (Err (refusal 11))
