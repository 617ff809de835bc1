-- Characters are read back as what they were written for.
use Rattle.std.specs.Prelude.{Ok}
use Rattle.std.proofs.Common.{◌≡◌, refl}
use Rattle.squares.specs.Pieces.{color_char, color_from_char_of, char_of, piece_from_char_of}
use Rattle.squares.specs.Computed.{computed}
use Rattle.squares.specs.declared.piece.Color.{Color}
use Rattle.squares.specs.declared.piece.Color.TheVariants.{White, Black}
use Rattle.squares.specs.declared.piece.PieceKind.{PieceKind}
use Rattle.squares.specs.declared.piece.PieceKind.TheVariants.{Man, King}

pub color_back : (c : Color) → color_from_char_of (color_char c) ≡ Ok c
unfolding computed
color_back White = refl
color_back Black = refl

pub piece_back : (c : Color) (k : PieceKind) → piece_from_char_of (char_of c k) ≡ Ok (record { color = c; kind = k })
unfolding computed
piece_back White Man = refl
piece_back White King = refl
piece_back Black Man = refl
piece_back Black King = refl
