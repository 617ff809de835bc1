-- The board after a move (docs/RULES.md, "Playing a move"): the mover goes from the first square to the last, the
-- pieces of the set leave the board, and the other side is to move. A move may end on its first square. A man that ends
-- on its promotion row becomes a king; one that only passes the row stays a man.
use Rattle.std.specs.Prelude.{◌≡◌, ℕ, ◌<◌, ◌^◌, Bool, true, not, cond, ◌&&◌, ◌||◌, eqb}
use Rattle.std.specs.Int.Bits.{bit_or, bit_xor}
use Rattle.squares.specs.Sets.{has, without}
use Rattle.squares.specs.Squares.{is_square, bit_of, single, contains_of, promotion}
use Rattle.squares.specs.Pieces.{other}
use Rattle.squares.specs.Keys.{piece_key_of, side_key}
use Rattle.squares.specs.declared.piece.Color.{Color}
use Rattle.squares.specs.declared.piece.Color.TheVariants.{White, Black}
use Rattle.positions.specs.Boards.{Board, board, board_of, own, enemy, kind_if}
use Rattle.positions.specs.Hash.{keys_on}
use Rattle.positions.specs.declared.moves.Move.{Move}
use Rattle.positions.specs.declared.position.Position.{Position}

-- whether the mover is a man that ends on its promotion row
unfoldable pub promotes : Board → Move → Bool
promotes b m = not (contains_of b.kings m.from) && contains_of (promotion b.side) m.to

-- whether the mover ends as a king: it was one, or it promotes
unfoldable pub ends_as_king : Board → Move → Bool
ends_as_king b m = contains_of b.kings m.from || contains_of (promotion b.side) m.to

-- the pieces of the mover's side after the move
unfoldable pub own_after : Board → Move → ℕ
own_after b m = bit_or (without (own b) (single m.from)) (single m.to)

-- the pieces of the other side after the move
unfoldable pub enemy_after : Board → Move → ℕ
enemy_after b m = without (enemy b) m.captured

-- the kings of both sides after the move
unfoldable pub kings_after : Board → Move → ℕ
kings_after b m =
    bit_or (without (without b.kings m.captured) (single m.from)) (cond (ends_as_king b m) (single m.to) 0)

-- the board after a move of the given colour, from the mover's pieces, the other side's and the kings
abbrev pub turned : Color → ℕ → ℕ → ℕ → Board
turned White own enemy kings = board own enemy kings Black
turned Black own enemy kings = board enemy own kings White

-- the board after the move
unfoldable pub successor : Board → Move → Board
successor b m = turned b.side (own_after b m) (enemy_after b m) (kings_after b m)

-- what a move must be for its successor to make sense: a piece of the side to move is on the first square, the set has
-- only enemies, and the last square is empty or is the first square
pub record Playable (b : Board) (m : Move) : Type 0 where
  pub from_square : is_square m.from ≡ true
  pub to_square : is_square m.to ≡ true
  pub mover : has (own b) (bit_of m.from) ≡ true
  pub enemies : (i : ℕ) → has m.captured i ≡ true → has (enemy b) i ≡ true
  pub set_fits : m.captured < 2 ^ 64
  pub free : (eqb m.to m.from || (not (has b.white (bit_of m.to)) && not (has b.black (bit_of m.to)))) ≡ true

-- ---- the same by the formulas of the code, for every input: the hash changes by the keys of the pieces touched

-- the key of a king or man of the colour on square n
abbrev pub mover_key : Color → Bool → ℕ → ℕ
mover_key c king n = piece_key_of c (kind_if king) n

-- the set s after its piece went from the first square to the last; where both are one square, s itself
abbrev pub moved : ℕ → Move → ℕ
moved s m = bit_xor s (bit_xor (single m.from) (single m.to))

-- the kings after a move; `kept` are those that were not taken. A king is moved, a man that promotes is marked
unfoldable pub kings_played : Color → ℕ → Move → ℕ
kings_played c kept m =
    cond (contains_of kept m.from) (moved kept m)
    (cond (contains_of (promotion c) m.to) (bit_or kept (single m.to)) kept)

-- the mover's key on its first square, as what it was, joined with its key on its last square, as what it ends as
unfoldable pub moved_key : Color → ℕ → Move → ℕ
moved_key c kept m =
    bit_xor (mover_key c (contains_of kept m.from) m.from)
    (mover_key c (contains_of kept m.from || contains_of (promotion c) m.to) m.to)

-- the position after a move of the given colour
abbrev pub position_after : Color → ℕ → ℕ → ℕ → ℕ → Position
position_after White own enemy kings hash = record { white = own; black = enemy; kings = kings; side = Black; hash = hash }
position_after Black own enemy kings hash = record { white = enemy; black = own; kings = kings; side = White; hash = hash }

-- the successor with its hash, carried on from the hash before the move
unfoldable pub play_of : Position → Move → Position
play_of p m =
    position_after p.side
    (moved (own (board_of p)) m)
    (without (enemy (board_of p)) m.captured)
    (kings_played p.side (without p.kings m.captured) m)
    (bit_xor (bit_xor (bit_xor p.hash (keys_on (other p.side) m.captured p.kings))
    (moved_key p.side (without p.kings m.captured) m)) side_key)
