-- Which boards and positions are accepted (docs/RULES.md, "Accepted boards"): every piece is on a square, no square has
-- both colours, no man is on its promotion row, only pieces are marked as kings. A king marked on an empty square is
-- dropped where sets are handed in (`from_parts_of`), and refused where a position is (`sound`).
use Rattle.std.specs.Prelude.{◌≡◌, ℕ, ◌<◌, ◌^◌, Bool, true, false, cond, ◌&&◌, ◌||◌, eqb, Err, Ok, Result}
use Rattle.std.specs.Int.Bits.{bit_and, bit_or}
use Rattle.squares.specs.Sets.{has, without}
use Rattle.squares.specs.Squares.{promotion, first_of, on_board, squares_only}
use Rattle.squares.specs.declared.piece.Color.{Color}
use Rattle.squares.specs.declared.piece.Color.TheVariants.{White, Black}
use Rattle.squares.specs.Refusals.{refusal, refusal_at}
use Rattle.positions.specs.Boards.{Board, board, board_of}
use Rattle.positions.specs.Hash.{hash_of, position_of}
use Rattle.positions.specs.declared.position.Position.{Position}
use Rattle.squares.specs.declared.refusal.Refusal.{Refusal}

-- the men on their promotion row
unfoldable pub misplaced : ℕ → ℕ → ℕ → ℕ
misplaced white black kings = bit_or (bit_and (without white kings) (promotion White)) (bit_and (without black kings) (promotion Black))

-- whether a board of these sets is accepted
unfoldable pub accepted_sets : ℕ → ℕ → ℕ → Bool
accepted_sets white black kings =
    (squares_only white && squares_only black)
    && (eqb (bit_and white black) 0 && (eqb (without kings (bit_or white black)) 0 && eqb (misplaced white black kings) 0))

unfoldable pub accepted : Board → Bool
accepted b = accepted_sets b.white b.black b.kings

-- whether the board is accepted and the hash is that of the board; other positions are refused with 12
unfoldable pub sound : Position → Bool
sound p = accepted (board_of p) && eqb p.hash (hash_of (board_of p))

-- what the test `accepted` says, bit by bit
pub record Accepted (b : Board) : Type 0 where
  pub white_on : (i : ℕ) → has b.white i ≡ true → on_board i ≡ true
  pub black_on : (i : ℕ) → has b.black i ≡ true → on_board i ≡ true
  pub apart : (i : ℕ) → has b.white i ≡ true → has b.black i ≡ false
  pub marked : (i : ℕ) → has b.kings i ≡ true → (has b.white i || has b.black i) ≡ true
  pub white_men : (i : ℕ) → has b.white i ≡ true → has b.kings i ≡ false → has (promotion White) i ≡ false
  pub black_men : (i : ℕ) → has b.black i ≡ true → has b.kings i ≡ false → has (promotion Black) i ≡ false
  pub white_fits : b.white < 2 ^ 54
  pub black_fits : b.black < 2 ^ 54
  pub kings_fits : b.kings < 2 ^ 54

-- what the test `sound` says
pub record Sound (p : Position) : Type 0 where
  pub accepted : Accepted (board_of p)
  pub hash : p.hash ≡ hash_of (board_of p)

-- the position of these sets; refusal 7, then 8, with the lowest such square
unfoldable pub place_of : ℕ → ℕ → ℕ → Color → Result Position Refusal
place_of white black kings side =
    cond (eqb (bit_and white black) 0)
    (cond (eqb (misplaced white black kings) 0) (Ok (position_of (board white black kings side)))
    (Err (refusal_at 8 (first_of (misplaced white black kings)))))
    (Err (refusal_at 7 (first_of (bit_and white black))))

-- the same for any sets: refusal 11 comes first, and kings marked on empty squares are dropped
unfoldable pub from_parts_of : ℕ → ℕ → ℕ → Color → Result Position Refusal
from_parts_of white black kings side =
    cond (squares_only white && (squares_only black && squares_only kings))
    (place_of white black (bit_and kings (bit_or white black)) side)
    (Err (refusal 11))
