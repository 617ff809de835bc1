-- The board that is read from a text, before it is accepted: its sets and its side, or the first refusal.
use Rattle.std.specs.Prelude.{ℕ, ◌≤◌, Err, Ok, Result}
use Rattle.std.specs.Int.Bits.{bit_or}
use Rattle.squares.specs.declared.piece.Color.{Color}
use Rattle.squares.specs.declared.piece.Color.TheVariants.{White, Black}
use Rattle.squares.specs.declared.piece.PieceKind.{PieceKind}
use Rattle.squares.specs.declared.piece.PieceKind.TheVariants.{Man, King}
use Rattle.positions.specs.Acceptance.{from_parts_of}
use Rattle.texts.specs.declared.parts.Parts.{Parts}
use Rattle.positions.specs.declared.position.Position.{Position}
use Rattle.squares.specs.declared.refusal.Refusal.{Refusal}

-- the kings a, with the squares of s added where pieces of the kind are kings
unfoldable pub added : PieceKind → ℕ → ℕ → ℕ
added Man s a = a
added King s a = bit_or a s

-- the squares of s are added to a colour; a square is a king's where it was once added as one
unfoldable pub with_squares : Color → PieceKind → ℕ → Parts → Parts
with_squares White k s p =
    record { white = bit_or p.white s; black = p.black; kings = added k s p.kings; side = p.side }
with_squares Black k s p =
    record { white = p.white; black = bit_or p.black s; kings = added k s p.kings; side = p.side }

-- the empty board, this colour to move
unfoldable pub begun : Color → Parts
begun c = record { white = 0; black = 0; kings = 0; side = c }

-- a refusal ends the reading
abbrev pub and_then : Result Parts Refusal → (Parts → Result Parts Refusal) → Result Parts Refusal
and_then (Ok p) k = k p
and_then (Err e) k = Err e

-- the position of the board that was read; refusals: the one met in reading, else 7, 8
abbrev pub placing : Result Parts Refusal → Result Position Refusal
placing (Ok p) = from_parts_of p.white p.black p.kings p.side
placing (Err e) = Err e

-- a number that was read is that of a square
abbrev pub OnSquare : Result ℕ Refusal → Type 0
OnSquare (Ok n) = (1 ≤ n) × (n ≤ 50)
OnSquare (Err e) = Unit
