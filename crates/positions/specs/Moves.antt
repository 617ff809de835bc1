-- The move record: first square, last square, and the set of pieces taken (docs/RULES.md, "Legal moves").
use Rattle.std.specs.Prelude.{ℕ, Bool, not, ◌&&◌, eqb}
use Rattle.squares.specs.Squares.{is_square, first_of, squares_only}
use Rattle.positions.specs.declared.moves.Move.{Move}

-- the record of a move
abbrev pub move : ℕ → ℕ → ℕ → Move
move from to captured = record { captured = captured; from = from; to = to }

-- the same, where each square is given as a set of one bit
abbrev pub by_bits : ℕ → ℕ → ℕ → Move
by_bits from to captured = move (first_of from) (first_of to) captured

-- whether the move takes a piece
unfoldable pub is_capture : Move → Bool
is_capture m = not (eqb m.captured 0)

-- whether both squares are 1 to 50 and every bit of the set is a square; other records are refused with 11
unfoldable pub squares_of : Move → Bool
squares_of m = is_square m.from && (is_square m.to && squares_only m.captured)

-- whether two records are one move: they agree in all three
unfoldable pub same : Move → Move → Bool
same m n = eqb m.from n.from && (eqb m.to n.to && eqb m.captured n.captured)
