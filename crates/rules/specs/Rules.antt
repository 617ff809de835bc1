-- The rules of moves (docs/RULES.md, "Jumps", "Captures", "Quiet moves", "Legal moves"), and where each is settled:
-- - what blocks a piece, and that its first square does not: `space`;
-- - that no piece is jumped twice: `Target`;
-- - how a man jumps, and how a king: `Jump`;
-- - that a sequence may stop after any jump, and that a man passing its promotion row stays a man: `Sequence`;
-- - that the largest number must be taken, and that a capture goes before a quiet move: `BitLegal`;
-- - that routes with the same first square, last square and set are one move: `Legal`.
-- Squares are bits here: `has s i` says that bit i belongs to the set s, `next d i` is the neighbour of bit i along d.
use Rattle.std.specs.Prelude.{◌≡◌, ℕ, ◌^◌, ◌≤◌, ◌<◌, true, false}
use mathlib.Core.List.{List, [], ◌∷◌, ◌++◌, Memᴰ as Member}
use Rattle.std.specs.Int.Bits.{bit_or}
use Rattle.squares.specs.Sets.{has, size}
use Rattle.squares.specs.Squares.{on_board, square_at_bit}
use Rattle.squares.specs.Directions.{Direction, up_left, up_right, down_left, down_right, next}
use Rattle.squares.specs.declared.piece.Color.{Color}
use Rattle.squares.specs.declared.piece.Color.TheVariants.{White, Black}
use Rattle.squares.specs.declared.piece.PieceKind.{PieceKind}
use Rattle.squares.specs.declared.piece.PieceKind.TheVariants.{Man, King}
use Rattle.positions.specs.Boards.{Board, enemy, empty, pieces}
use Rattle.positions.specs.Moves.{move}
use Rattle.positions.specs.declared.moves.Move.{Move}

-- ---- moves

-- a move by bits: first square, last square, the set taken
pub record BitMove : Type 0 where
  pub from : ℕ
  pub to : ℕ
  pub taken : ℕ

abbrev pub bit_move : ℕ → ℕ → ℕ → BitMove
bit_move f t s = record { from = f; to = t; taken = s }

-- its move record, with the squares by their numbers
abbrev pub numbered : BitMove → Move
numbered w = move (square_at_bit w.from) (square_at_bit w.to) w.taken

-- ---- jumps

-- where a piece that began on f may land, and what a king may cross: the empty squares, and f itself, which counts as
-- empty. The square of a taken piece is not among them: the piece is lifted only after the move, and blocks until then.
unfoldable pub space : Board → ℕ → ℕ
space b f = bit_or (empty b) (2 ^ f)

-- from i to j along d in steps onto squares of e only; there may be no step
pub data Glide (e : ℕ) (d : Direction) : ℕ → ℕ → Type 0 where
  rest : {i : ℕ} → Glide e d i i
  step : {i j : ℕ} → has e (next d i) ≡ true → Glide e d (next d i) j → Glide e d i j

-- the same with at least one step: how a king flies
pub record Flight (e : ℕ) (d : Direction) (i j : ℕ) : Type 0 where
  pub near : has e (next d i) ≡ true
  pub far : Glide e d (next d i) j

-- there is an enemy on o, and it is not yet taken: no piece is jumped twice
pub record Target (b : Board) (taken o : ℕ) : Type 0 where
  pub enemy : has (enemy b) o ≡ true
  pub untaken : has taken o ≡ false

-- a jump from i of a piece that began on f and has taken the set `taken` so far; the two last numbers are the square
-- that it jumps over and the square that it lands on
pub data Jump (b : Board) (f taken i : ℕ) : PieceKind → ℕ → ℕ → Type 0 where
  -- a man: over the neighbour to the square behind it, in any of the four directions
  man_jump : (d : Direction) → Target b taken (next d i) → has (space b f) (next d (next d i)) ≡ true
      → Jump b f taken i Man (next d i) (next d (next d i))
  -- a king: across empty squares to p, over the enemy next to p, then across empty squares, landing on any of them
  king_jump : (d : Direction) {p l : ℕ} → Glide (space b f) d i p → Target b taken (next d p) → Flight (space b f) d (next d p) l
      → Jump b f taken i King (next d p) l

-- ---- captures

-- a legal jump sequence of a piece of kind k that began on f: one or more jumps. The two last numbers are the square
-- that it has reached and the set that it has taken. It may stop after any jump. The kind stays k for the whole
-- sequence: a man that passes its promotion row is still a man.
pub data Sequence (b : Board) (k : PieceKind) (f : ℕ) : ℕ → ℕ → Type 0 where
  first : {o l : ℕ} → Jump b f 0 f k o l → Sequence b k f l (2 ^ o)
  then : {i taken o l : ℕ} → Sequence b k f i taken → Jump b f taken i k o l → Sequence b k f l (bit_or taken (2 ^ o))

-- the squares landed on, in order
unfoldable pub route : {b : Board} {k : PieceKind} {f i taken : ℕ} → Sequence b k f i taken → List ℕ
route (first {l = l} j) = square_at_bit l ∷ []
route (then {l = l} s j) = route s ++ (square_at_bit l ∷ [])

-- w has the first square, last square and set of a legal jump sequence of the side to move
pub record Capture (b : Board) (w : BitMove) : Type 0 where
  pub kind : PieceKind
  pub piece : has (pieces b kind) w.from ≡ true
  pub sequence : Sequence b kind w.from w.to w.taken

-- no legal jump sequence of the side to move takes more than n pieces
abbrev pub AtMost : Board → ℕ → Type 0
AtMost b n = (v : BitMove) → Capture b v → size v.taken ≤ n

-- some piece of the side to move has a first jump
pub record Open (b : Board) : Type 0 where
  pub kind : PieceKind
  pub from : ℕ
  pub over : ℕ
  pub land : ℕ
  pub piece : has (pieces b kind) from ≡ true
  pub jump : Jump b from 0 from kind over land

-- no piece of the side to move has a jump
abbrev pub NoJump : Board → Type 0
NoJump b = Open b → ⊥

-- ---- quiet moves

-- the directions of a man's step: White's men go up, towards row 0, Black's down
unfoldable pub forward : Color → List Direction
forward White = up_left ∷ up_right ∷ []
forward Black = down_left ∷ down_right ∷ []

-- a quiet move of the side to move
pub data Quiet (b : Board) : BitMove → Type 0 where
  -- a man goes forward to the empty square next to it
  man_step : {i : ℕ} (d : Direction) → has (pieces b Man) i ≡ true → Member d (forward b.side) → has (empty b) (next d i) ≡ true
      → Quiet b (bit_move i (next d i) 0)
  -- a king goes any distance along one direction, as long as the squares are empty
  king_flight : {i j : ℕ} (d : Direction) → has (pieces b King) i ≡ true → Flight (empty b) d i j → Quiet b (bit_move i j 0)

-- ---- legal moves

-- w is a legal move, by bits
pub data BitLegal (b : Board) (w : BitMove) : Type 0 where
  -- a capture, where no legal jump sequence of the side takes more pieces
  capture : Capture b w → AtMost b (size w.taken) → BitLegal b w
  -- a quiet move, where no jump is open
  quiet : NoJump b → Quiet b w → BitLegal b w

-- m is a legal move: its first square, last square and set are those of such a w
pub record Legal (b : Board) (m : Move) : Type 0 where
  pub by : BitMove
  pub is : m ≡ numbered by
  pub legal : BitLegal b by

-- ---- the boards that the laws are about: every piece is on one of the 50 squares, no square has both colours
pub record Fair (b : Board) : Type 0 where
  pub white_on : (i : ℕ) → has b.white i ≡ true → on_board i ≡ true
  pub black_on : (i : ℕ) → has b.black i ≡ true → on_board i ≡ true
  pub apart : (i : ℕ) → has b.white i ≡ true → has b.black i ≡ false
  pub white_fits : b.white < 2 ^ 54
  pub black_fits : b.black < 2 ^ 54
  pub kings_fits : b.kings < 2 ^ 54
