-- The measure of a board for repetitions, two numbers: the pieces on the board, and the rows that the men still have before
-- them. A capture lowers the first; a man's move keeps it and lowers the second; a quiet king move keeps both.
use mathlib.Core.Path.{◌≡◌}
use Prim.Native.Nat.{ℕ, ◌+◌, ◌-◌, ◌<◌}
use mathlib.Core.Bool.{true, false}
use Rattle.squares.specs.Sets.{has, size}
use Rattle.squares.specs.Squares.{bit_of, row_of}
use Rattle.squares.specs.Folds.{sum_over}
use Rattle.squares.specs.declared.piece.Color.{Color}
use Rattle.squares.specs.declared.piece.Color.TheVariants.{White, Black}
use Rattle.positions.specs.Boards.{Board, men_of}
use Rattle.positions.specs.declared.moves.Move.{Move}

unfoldable pub pieces_on : Board → ℕ
pieces_on b = size b.white + size b.black

-- the rows between a man on bit i and its promotion row
unfoldable pub rows_before : Color → ℕ → ℕ
rows_before White i = row_of i
rows_before Black i = 9 - row_of i

unfoldable pub rows_ahead : Board → ℕ
rows_ahead b = sum_over (rows_before White) (men_of White b) + sum_over (rows_before Black) (men_of Black b)

-- the three kinds of a ply: only a quiet king move can be taken back
pub data Ply (b : Board) (m : Move) : Type 0 where
  capture : 0 < size m.captured → Ply b m
  man : m.captured ≡ 0 → has b.kings (bit_of m.from) ≡ false
      → rows_before b.side (bit_of m.to) < rows_before b.side (bit_of m.from) → Ply b m
  king : m.captured ≡ 0 → has b.kings (bit_of m.from) ≡ true → Ply b m

-- a has a smaller measure than b: fewer pieces, or as many and fewer rows
pub data Smaller (a b : Board) : Type 0 where
  fewer : pieces_on a < pieces_on b → Smaller a b
  nearer : pieces_on a ≡ pieces_on b → rows_ahead a < rows_ahead b → Smaller a b

-- a and b have the same measure
pub record Level (a b : Board) : Type 0 where
  pub pieces : pieces_on a ≡ pieces_on b
  pub rows : rows_ahead a ≡ rows_ahead b
