-- Colours, pieces and their characters (docs/RULES.md, "Pieces and sides"). In Hub texts a capital is a king.
use Rattle.std.specs.Prelude.{ℕ, cond, ◌==◌, Err, Ok, Result}
use Prim.Native.Char.{code}
use Rattle.squares.specs.declared.piece.Color.{Color}
use Rattle.squares.specs.declared.piece.Color.TheVariants.{White, Black}
use Rattle.squares.specs.declared.piece.PieceKind.TheVariants.{Man, King}
use Rattle.squares.specs.declared.piece.PieceKind.{PieceKind}
use Rattle.squares.specs.declared.piece.Piece.{Piece}
use Rattle.squares.specs.Refusals.{refusal}
use Rattle.squares.specs.declared.refusal.Refusal.{Refusal}

-- the opposite colour
abbrev pub other : Color → Color
other White = Black
other Black = White

-- the letter of a side
abbrev pub color_char : Color → ℕ
color_char White = code "W"
color_char Black = code "B"

-- the side with this letter; refusal 2 for any other byte
unfoldable pub color_from_char_of : ℕ → Result Color Refusal
color_from_char_of c =
    cond (c == (code "W")) (Ok White)
    (cond (c == (code "B")) (Ok Black) (Err (refusal 2)))

-- the character of a piece in Hub texts
abbrev pub char_of : Color → PieceKind → ℕ
char_of White Man = code "w"
char_of White King = code "W"
char_of Black Man = code "b"
char_of Black King = code "B"

abbrev pub piece_char : Piece → ℕ
piece_char p = char_of p.color p.kind

abbrev known_as : Color → PieceKind → Result Piece Refusal
known_as c k = Ok (record { color = c; kind = k })

-- the piece with this character; refusal 5 for any other byte
unfoldable pub piece_from_char_of : ℕ → Result Piece Refusal
piece_from_char_of c =
    cond (c == (code "w")) (known_as White Man)
    (cond (c == (code "b")) (known_as Black Man)
    (cond (c == (code "W")) (known_as White King)
    (cond (c == (code "B")) (known_as Black King) (Err (refusal 5)))))
