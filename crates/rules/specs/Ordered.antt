-- The legal moves as a list that can be computed (docs/RULES.md, "Order of the list").
-- - Captures: those of the men by bit, then those of the kings by bit. For each piece the directions are tried in the
--   order up-left, up-right, down-left, down-right, and the landings from near to far, each way to its end before the
--   next. Of these the longest stay, each where it was found first.
-- - Quiet moves, where no jump is open: the men's by direction, then by the bit reached; then the kings' by bit, by
--   direction and from near to far.
use Rattle.std.specs.Prelude.{ℕ, zero, suc, ◌^◌, Bool, true, false, not, ◌&&◌, List, [], ◌∷◌, ◌++◌, map, eqb}
use Rattle.std.specs.Int.Bits.{bit_or}
use Rattle.squares.specs.Sets.{has, size, members}
use Rattle.squares.specs.Directions.{Direction, up_left, up_right, down_left, down_right, next}
use Rattle.squares.specs.declared.piece.PieceKind.{PieceKind}
use Rattle.squares.specs.declared.piece.PieceKind.TheVariants.{Man, King}
use Rattle.positions.specs.Boards.{Board, enemy, empty, pieces}
use Rattle.positions.specs.Moves.{same}
use Rattle.positions.specs.declared.moves.Move.{Move}
use Rattle.rules.specs.Lists.{concat_map, keep, contains, longest, followed}
use Rattle.rules.specs.Rules.{BitMove, bit_move, numbered, space, forward}

-- ---- rays

unfoldable pub directions : List Direction
directions = up_left ∷ up_right ∷ down_left ∷ down_right ∷ []

-- the squares along d after i, near to far, as long as they are in e; at most n
unfoldable pub ahead : ℕ → ℕ → Direction → ℕ → List ℕ
ahead zero e d i = []
ahead (suc n) e d i = elim (has e (next d i)) [ true ↦ next d i ∷ ahead n e d (next d i) | false ↦ [] ]

-- the same without a bound: no ray is longer than 64 bits
unfoldable pub ray : ℕ → Direction → ℕ → List ℕ
ray e d i = ahead 64 e d i

-- the last entry, or i where there is none
unfoldable pub last : ℕ → List ℕ → ℕ
last i [] = i
last i (x ∷ xs) = last x xs

-- the first bit along d that is not in e
unfoldable pub blocker : ℕ → Direction → ℕ → ℕ
blocker e d i = next d (last i (ray e d i))

-- ---- jumps. A sequence so far is written as a move: its first square, the square it has reached, the set taken.

-- whether there is an enemy on o that is not yet taken
unfoldable pub target : Board → ℕ → ℕ → Bool
target b taken o = has (enemy b) o && not (has taken o)

-- the sequence s after a jump over o to l
unfoldable pub hop : BitMove → ℕ → ℕ → BitMove
hop s o l = bit_move s.from l (bit_or s.taken (2 ^ o))

-- the jumps over o to the landings ls; none where there is no enemy to take on o
unfoldable pub jumps_over : Board → BitMove → ℕ → List ℕ → List BitMove
jumps_over b s o ls = elim (target b s.taken o) [ true ↦ map (hop s o) ls | false ↦ [] ]

-- a man's only landing is l, the square behind the enemy, where it is in e
unfoldable pub man_landings : ℕ → ℕ → List ℕ
man_landings e l = elim (has e l) [ true ↦ l ∷ [] | false ↦ [] ]

-- the jumps along d, landings from near to far
unfoldable pub jumps_along : Board → PieceKind → BitMove → Direction → List BitMove
jumps_along b Man s d = jumps_over b s (next d s.to) (man_landings (space b s.from) (next d (next d s.to)))
jumps_along b King s d = let o = blocker (space b s.from) d s.to in jumps_over b s o (ray (space b s.from) d o)

-- the jumps in all directions
unfoldable pub jumps : Board → PieceKind → BitMove → List BitMove
jumps b k s = concat_map (jumps_along b k s) directions

-- ---- captures

-- more jumps than any sequence has: each takes one of at most 64 enemies
unfoldable pub enough : ℕ
enough = 65

-- the sequences of the piece on i, each followed to its end; where it has no jump, the piece on i with nothing taken
unfoldable pub sequences : Board → PieceKind → ℕ → List BitMove
sequences b k i = followed (jumps b k) enough (bit_move i i 0)

-- those of all pieces of the side to move: men by bit, then kings by bit
unfoldable pub all_sequences : Board → List BitMove
all_sequences b = concat_map (sequences b Man) (members (pieces b Man)) ++ concat_map (sequences b King) (members (pieces b King))

-- how many pieces are taken
abbrev pub count : BitMove → ℕ
count w = size w.taken

-- the sequences that take a piece
unfoldable pub captures : Board → List BitMove
captures b = keep (λ w. not (eqb (count w) 0)) (all_sequences b)

-- ---- quiet moves

-- the men's steps along d, rising by the bit left and so by the bit reached
unfoldable pub man_steps : Board → Direction → List BitMove
man_steps b d = map (λ (i : ℕ). bit_move i (next d i) 0) (keep (λ i. has (empty b) (next d i)) (members (pieces b Man)))

-- the quiet moves of the king on i
unfoldable pub king_flights : Board → ℕ → List BitMove
king_flights b i = concat_map (λ d. map (λ (j : ℕ). bit_move i j 0) (ray (empty b) d i)) directions

unfoldable pub quiets : Board → List BitMove
quiets b = concat_map (man_steps b) (forward b.side) ++ concat_map (king_flights b) (members (pieces b King))

-- ---- the list

-- whether two moves agree in first square, last square and set
unfoldable pub same_bits : BitMove → BitMove → Bool
same_bits v w = eqb v.from w.from && (eqb v.to w.to && eqb v.taken w.taken)

-- the longest captures, each once; where there are none, the quiet moves
unfoldable pub bit_legal : Board → List BitMove
bit_legal b = elim (captures b) [ [] ↦ quiets b | w ∷ ws ↦ longest same_bits count (w ∷ ws) ]

-- the same as move records
unfoldable pub legal : Board → List Move
legal b = map numbered (bit_legal b)

-- whether m is in the list
unfoldable pub listed : List Move → Move → Bool
listed l m = contains same l m
