-- Hub (docs/RULES.md, "Hub"): the side, W or B, then a letter for each of the 50 squares: w and b for men, W and B for
-- kings, e for an empty square.
use Rattle.std.specs.Prelude.{ℕ, zero, suc, ◌+◌, List, [], ◌∷◌, map, cond, eqb, Err, None, Ok, Result, Some}
use Prim.Native.Char.{code}
use Rattle.squares.specs.Squares.{single}
use Rattle.squares.specs.Pieces.{color_char, color_from_char_of, piece_char, piece_from_char_of}
use Rattle.squares.specs.Refusals.{refusal}
use Rattle.positions.specs.Boards.{Board, board_of, piece_at_of}
use Rattle.positions.specs.Acceptance.{sound}
use Rattle.positions.specs.declared.position.Position.{Position}
use Rattle.texts.specs.Bytes.{longest_text, readable}
use Rattle.texts.specs.Parts.{with_squares, begun, and_then, placing}
use Rattle.texts.specs.Lent.{emit_of, emitted}
use Rattle.texts.specs.Fen.{on_color}
use Rattle.texts.specs.declared.parts.Parts.{Parts}
use Rattle.std.specs.declared.option.Option.{Option}
use Rattle.squares.specs.declared.piece.Piece.{Piece}
use Rattle.squares.specs.declared.refusal.Refusal.{Refusal}

-- ---- writing

-- k squares from n on: n, n + 1, ..
unfoldable pub squares_from : ℕ → ℕ → List ℕ
squares_from zero n = []
squares_from (suc k) n = n ∷ squares_from k (n + 1)

-- the letter of what is on a square
abbrev pub standing_char : Result (Option Piece) Refusal → ℕ
standing_char (Ok (Some p)) = piece_char p
standing_char (Ok None) = code "e"
standing_char (Err e) = code "e"

-- the letter of square n
unfoldable pub hub_char : Board → ℕ → ℕ
hub_char b n = standing_char (piece_at_of b n)

unfoldable pub hub_text : Board → List ℕ
hub_text b = color_char b.side ∷ map (hub_char b) (squares_from 50 1)

-- the answer; refusals: 12, 19
unfoldable pub hub_of : Position → List ℕ → Result ℕ Refusal
hub_of p out = cond (sound p) (emit_of (hub_text (board_of p)) out) (Err (refusal 12))

-- the lent bytes afterwards
unfoldable pub hub_lent : Position → List ℕ → List ℕ
hub_lent p out = cond (sound p) (emitted (hub_text (board_of p)) out) out

-- ---- reading
-- the piece is added on square n; the refusal is 5 where the byte is no piece
abbrev pub known_on : ℕ → Parts → Result Piece Refusal → Result Parts Refusal
known_on n p (Ok q) = Ok (with_squares q.color q.kind (single n) p)
known_on n p (Err e) = Err e

-- the byte x is read for square n
unfoldable pub hub_byte_of : ℕ → ℕ → Parts → Result Parts Refusal
hub_byte_of n x p = cond (eqb x (code "e")) (Ok p) (known_on n p (piece_from_char_of x))

-- k squares from n on are read, and nothing comes after them
unfoldable pub hub_from : ℕ → ℕ → Parts → List ℕ → Result Parts Refusal
hub_from zero n p [] = Ok p
hub_from zero n p (x ∷ s) = Err (refusal 6)
hub_from (suc k) n p [] = Err (refusal 6)
hub_from (suc k) n p (x ∷ s) = and_then (hub_byte_of n x p) (λ q. hub_from k (n + 1) q s)

-- the side, then the 50 squares
unfoldable pub hub_parts : List ℕ → Result Parts Refusal
hub_parts [] = Err (refusal 2)
hub_parts (x ∷ s) = on_color (refusal 2) (color_from_char_of x) (λ c. hub_from 50 1 (begun c) s)

-- the position of a text; refusals: 1, 2, then 5 for a byte among the first 50 squares, 6, 7, 8
unfoldable pub from_hub_of : List ℕ → Result Position Refusal
from_hub_of s = cond (readable longest_text s) (placing (hub_parts s)) (Err (refusal 1))
