-- The texts of a request: their escapes undone, then read.
use Rattle.std.specs.Prelude.{ℕ, List, cond, ◌&&◌, length, eqb, Result}
use Prim.Native.Char.{code}
use Rattle.positions.specs.declared.position.Position.{Position}
use Rattle.texts.specs.Bytes.{is, index_of, from_str_of}
use Rattle.texts.specs.Fen.{from_fen_of}
use Rattle.texts.specs.Hub.{from_hub_of}
use Rattle.notation.specs.Choice.{parse_move_of}
use Rattle.wording.specs.Escapes.{undone}
use Rattle.positions.specs.declared.moves.Move.{Move}
use Rattle.squares.specs.declared.refusal.Refusal.{Refusal}

-- 51 bytes without a colon are Hub, everything else is FEN
unfoldable pub either_of : List ℕ → Result Position Refusal
either_of t = cond (eqb (length t) 51 && eqb (index_of (is (code ":")) t) 51) (from_hub_of t) (from_fen_of t)

-- the position that a word means: as FEN, as Hub, or as whichever of the two it looks like
unfoldable pub fen_in : List ℕ → Result Position Refusal
fen_in word = from_fen_of (undone word)

unfoldable pub hub_in : List ℕ → Result Position Refusal
hub_in word = from_hub_of (undone word)

unfoldable pub position_in : List ℕ → Result Position Refusal
position_in word = either_of (undone word)

-- the listed move that a word means on a position
unfoldable pub move_in : Position → List ℕ → Result Move Refusal
move_in p word = parse_move_of p (undone word)

-- the square that a word means
unfoldable pub square_in : List ℕ → Result ℕ Refusal
square_in word = from_str_of (undone word)
