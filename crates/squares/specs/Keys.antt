-- The generator SplitMix64, and the keys of pieces and side that it draws (docs/RULES.md, "Keys and hash").
use Rattle.std.specs.Prelude.{ℕ, zero, suc, ◌+◌, ◌-◌, ◌*◌, ◌/◌, ◌%◌, ◌^◌, cond, List, [], ◌∷◌, bit_xor, slice_index}
use Rattle.squares.specs.Squares.{on_board, single}
use Rattle.squares.specs.Folds.{xor_over}
use Rattle.squares.specs.declared.piece.Color.{Color}
use Rattle.squares.specs.declared.piece.Color.TheVariants.{White, Black}
use Rattle.squares.specs.declared.piece.PieceKind.{PieceKind}
use Rattle.squares.specs.declared.piece.PieceKind.TheVariants.{Man, King}
use Rattle.squares.specs.declared.zobrist.Drawn.{Drawn}

-- the state after s
unfoldable pub advance : ℕ → ℕ
advance s = (s + 0x9E37_79B9_7F4A_7C15) % 2 ^ 64

-- z is joined by exclusive or with itself shifted down by k bits, then multiplied by m; the low 64 bits are kept
unfoldable pub scramble : ℕ → ℕ → ℕ → ℕ
scramble k m z = bit_xor z (z / 2 ^ k) * m % 2 ^ 64

-- the output at a state
unfoldable pub output : ℕ → ℕ
output s =
    let z = scramble 27 0x94D0_49BB_1331_11EB (scramble 30 0xBF58_476D_1CE4_E5B9 s) in
    bit_xor z (z / 2 ^ 31)

-- one draw: the state moves on, and the output is that of the new state
unfoldable pub splitmix64_of : ℕ → Drawn
splitmix64_of s = record { state = advance s; output = output (advance s) }

-- the first n outputs after the state s
unfoldable pub outputs : ℕ → ℕ → List ℕ
outputs zero s = []
outputs (suc n) s = output (advance s) ∷ outputs n (advance s)

-- the start value, the letters "dame"
abbrev pub seed : ℕ
seed = 0x6461_6D65

-- all keys: 64 each, by bit, for white men, black men, white kings, black kings
unfoldable pub keys : List ℕ
keys = outputs 256 seed

-- which 64 of them belong to such a piece
abbrev pub block : Color → PieceKind → ℕ
block White Man = 0
block Black Man = 1
block White King = 2
block Black King = 3

-- the key of such a piece on the square at bit i; 0 where bit i is no square
unfoldable pub key_at : Color → PieceKind → ℕ → ℕ
key_at c k i = cond (on_board i) (slice_index keys (64 * block c k + i)) 0

-- the exclusive or of the keys of such pieces on the squares of s
unfoldable pub set_key_of : Color → PieceKind → ℕ → ℕ
set_key_of c k s = xor_over (key_at c k) s

-- the key of such a piece on square n
unfoldable pub piece_key_of : Color → PieceKind → ℕ → ℕ
piece_key_of c k n = set_key_of c k (single n)

-- the key of Black to move: the first output from the start value with its 64 bits inverted
unfoldable pub side_key : ℕ
side_key = output (advance (2 ^ 64 - 1 - seed))
