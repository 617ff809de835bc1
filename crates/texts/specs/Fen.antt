-- FEN (docs/RULES.md, "FEN"): the text of a board, and the position of a text.
use denote.Ref.{Bor}
use Rattle.std.specs.Prelude.{◌≡◌, ℕ, ◌+◌, ◌-◌, List, [], ◌∷◌, map, Bool, cond, ◌&&◌, ◌||◌, leb, eqb, length, Err, Ok, Result}
use Prim.Native.Char.{code}
use Rattle.squares.specs.Sets.{members}
use Rattle.squares.specs.Squares.{run, square_at_bit, contains_of}
use Rattle.squares.specs.Pieces.{color_char}
use Rattle.squares.specs.declared.piece.Color.{Color}
use Rattle.squares.specs.declared.piece.Color.TheVariants.{White, Black}
use Rattle.squares.specs.declared.piece.PieceKind.{PieceKind}
use Rattle.squares.specs.declared.refusal.Refusal.{Refusal}
use Rattle.squares.specs.Refusals.{refusal}
use Rattle.positions.specs.Boards.{Board, board_of, kind_if}
use Rattle.positions.specs.Acceptance.{sound}
use Rattle.positions.specs.declared.position.Position.{Position}
use Rattle.texts.specs.Bytes.{longest_text, readable, blank, is, trim_start, trim_end, trim, split_on, joined, up_to, after_or_all, starts_with, strip, read_square, digits}
use Rattle.texts.specs.Parts.{with_squares, begun, and_then, placing}
use Rattle.texts.specs.Lent.{emit_of, emitted}
use Rattle.texts.specs.declared.parts.Parts.{Parts}

-- ---- writing

-- a square's number, with a K before it for a king
unfoldable pub item_text : ℕ → ℕ → List ℕ
item_text kings n = cond (contains_of kings n) (code "K" ∷ digits n) (digits n)

-- the squares of s in rising order
unfoldable pub list_text : ℕ → ℕ → List ℕ
list_text kings s = joined (code ",") (map (item_text kings) (map square_at_bit (members s)))

-- the side, White's list, Black's list; an empty list is written too
unfoldable pub fen_text : Board → List ℕ
fen_text b =
    joined (code ":")
    ((color_char b.side ∷ [])
    ∷ (code "W" ∷ list_text b.kings b.white)
    ∷ (code "B" ∷ list_text b.kings b.black)
    ∷ [])

-- one colour's list, with its letter and the colon before it
unfoldable pub field_text : ℕ → ℕ → ℕ → List ℕ
field_text letter kings s = code ":" ∷ letter ∷ list_text kings s

-- the answer; refusals: 12, then 18 above 200 bytes, then 19
unfoldable pub fen_of : Position → List ℕ → Result ℕ Refusal
fen_of p out =
    let t = fen_text (board_of p) in
    cond (sound p)
    (cond (leb (length t) 200) (emit_of t out) (Err (refusal 18)))
    (Err (refusal 12))

-- the lent bytes afterwards
unfoldable pub fen_lent : Position → List ℕ → List ℕ
fen_lent p out =
    let t = fen_text (board_of p) in
    cond (sound p && leb (length t) 200) (emitted t out) out

-- ---- reading

-- items are separated by commas, fields by colons
abbrev pub at_comma : ℕ → Bool
at_comma = is (code ",")

abbrev pub at_colon : ℕ → Bool
at_colon = is (code ":")

-- the colour of a letter: W, w, B or b
unfoldable pub fen_color_of : ℕ → Result Color Refusal
fen_color_of c =
    cond (eqb c (code "W") || eqb c (code "w")) (Ok White)
    (cond (eqb c (code "B") || eqb c (code "b")) (Ok Black) (Err (refusal 2)))

-- k goes on with the colour; where there is none, the refusal is e
abbrev pub on_color : Refusal → Result Color Refusal → (Color → Result Parts Refusal) → Result Parts Refusal
on_color e (Ok c) k = k c
on_color e (Err f) k = Err e

-- one end of a range, or an item that is no range: it is trimmed, and leading Ks are dropped
unfoldable pub end_of : List ℕ → Result ℕ Refusal
end_of s = read_square (trim_start (is (code "K")) (trim blank s))

-- the squares from lo to hi are added; none where lo is above hi
abbrev pub ends_of : Color → PieceKind → Parts → Result ℕ Refusal → Result ℕ Refusal → Result Parts Refusal
ends_of c k p (Ok lo) (Ok hi) = Ok (with_squares c k (run lo (hi + 1 - lo)) p)
ends_of c k p (Ok lo) (Err e) = Err e
ends_of c k p (Err e) q = Err e

-- an item whose leading K was taken off: a range, cut at its first -, or one square
unfoldable pub range_of : Color → PieceKind → Parts → List ℕ → Result Parts Refusal
range_of c k p s = ends_of c k p (end_of (up_to (code "-") s)) (end_of (after_or_all (code "-") s))

-- a trimmed item; an empty one is skipped, and a leading K makes kings
unfoldable pub item_of : Color → Parts → List ℕ → Result Parts Refusal
item_of c p [] = Ok p
item_of c p (x ∷ s) = range_of c (kind_if (starts_with (code "K") (x ∷ s))) p (strip (code "K") (x ∷ s))

-- each part is trimmed and given to `read`, in order: the first refusal, or all that was read
unfoldable pub read_each : (Parts → List ℕ → Result Parts Refusal) → Parts → List (List ℕ) → Result Parts Refusal
read_each read p [] = Ok p
read_each read p (f ∷ fs) = and_then (read p (trim blank f)) (λ q. read_each read q fs)

-- where the code reads the text t as `read` does, r is what is read of all the texts
abbrev pub ReadsEach : (Bor (List ℕ) → Parts → Result Parts Refusal → Type 0) → Parts → List (List ℕ) → Result Parts Refusal → Type 0
ReadsEach reads p texts r =
    (read : Parts → List ℕ → Result Parts Refusal) → ((t : Bor (List ℕ)) (q : Parts) (r : Result Parts Refusal) → reads t q r → r ≡ read q t.now) → r ≡ read_each read p texts

abbrev pub items_of : Color → Parts → List (List ℕ) → Result Parts Refusal
items_of c = read_each (item_of c)

-- a trimmed field: its colour, then its items, split at commas
unfoldable pub field_of : Parts → List ℕ → Result Parts Refusal
field_of p [] = Err (refusal 3)
field_of p (x ∷ s) = on_color (refusal 3) (fen_color_of x) (λ c. items_of c p (split_on at_comma s))

abbrev pub fields_of : Parts → List (List ℕ) → Result Parts Refusal
fields_of = read_each field_of

-- the side to move: the trimmed first field is one letter
unfoldable pub side_of : List ℕ → Result Color Refusal
side_of [] = Err (refusal 2)
side_of (x ∷ []) = fen_color_of x
side_of (x ∷ (y ∷ s)) = Err (refusal 2)

-- the side, then the fields after it
unfoldable pub fen_fields : List (List ℕ) → Result Parts Refusal
fen_fields [] = Err (refusal 2)
fen_fields (f ∷ fs) = on_color (refusal 2) (side_of (trim blank f)) (λ c. fields_of (begun c) fs)

-- the text without blanks at both ends, then without quotes at both ends, then without dots at the end
unfoldable pub body : List ℕ → List ℕ
body s = trim_end (is (code ".")) (trim (is (code "\"")) (trim blank s))

unfoldable pub fen_parts : List ℕ → Result Parts Refusal
fen_parts s = fen_fields (split_on at_colon (body s))

-- the position of a text; refusals: 1, then 2 to 4 in reading order, then 7, 8
unfoldable pub from_fen_of : List ℕ → Result Position Refusal
from_fen_of s = cond (readable longest_text s) (placing (fen_parts s)) (Err (refusal 1))
