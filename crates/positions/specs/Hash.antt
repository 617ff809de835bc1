-- The hash of a board, computed afresh (docs/RULES.md, "Keys and hash"): the keys of all its pieces, and the side key
-- where Black is to move, joined by exclusive or.
use Rattle.std.specs.Prelude.{ℕ}
use Rattle.std.specs.Int.Bits.{bit_and, bit_xor}
use Rattle.squares.specs.Sets.{without}
use Rattle.squares.specs.Keys.{set_key_of, side_key}
use Rattle.squares.specs.declared.piece.Color.{Color}
use Rattle.squares.specs.declared.piece.Color.TheVariants.{White, Black}
use Rattle.squares.specs.declared.piece.PieceKind.TheVariants.{Man, King}
use Rattle.positions.specs.Boards.{Board, start, colored}
use Rattle.positions.specs.declared.position.Position.{Position}

-- the keys of a colour's pieces on the squares s, each as a man or as a king, joined; `kings` marks the kings
unfoldable pub keys_on : Color → ℕ → ℕ → ℕ
keys_on c s kings = bit_xor (set_key_of c Man (without s kings)) (set_key_of c King (bit_and s kings))

-- the keys of a colour's men and kings, joined
unfoldable pub color_key : Color → Board → ℕ
color_key c b = keys_on c (colored c b) b.kings

-- h, with the side key where Black is to move
abbrev pub side_hash : Color → ℕ → ℕ
side_hash White h = h
side_hash Black h = bit_xor h side_key

unfoldable pub hash_of : Board → ℕ
hash_of b = side_hash b.side (bit_xor (color_key White b) (color_key Black b))

-- the board with its hash
abbrev pub position_of : Board → Position
position_of b = record { white = b.white; black = b.black; kings = b.kings; side = b.side; hash = hash_of b }

abbrev pub initial_of : Position
initial_of = position_of start
