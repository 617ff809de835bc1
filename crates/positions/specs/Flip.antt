-- The board turned half round (docs/RULES.md, "Turning the board"): each piece goes from square n to 51 - n and changes
-- its colour, and the other side is to move.
use Rattle.std.specs.Prelude.{ℕ, ◌-◌, cond, Err, Ok, Result}
use Rattle.squares.specs.Squares.{square_at_bit, single}
use Rattle.squares.specs.Folds.{union_over}
use Rattle.squares.specs.Pieces.{other}
use Rattle.squares.specs.Refusals.{refusal}
use Rattle.positions.specs.Boards.{Board, board, board_of}
use Rattle.positions.specs.Hash.{position_of}
use Rattle.positions.specs.Acceptance.{sound}
use Rattle.positions.specs.declared.position.Position.{Position}
use Rattle.squares.specs.declared.refusal.Refusal.{Refusal}

-- the union of the squares 51 - n, for the squares n of s
unfoldable pub rotated : ℕ → ℕ
rotated s = union_over (λ i. single (51 - square_at_bit i)) s

unfoldable pub flip : Board → Board
flip b = board (rotated b.black) (rotated b.white) (rotated b.kings) (other b.side)

-- the flipped position; refusal 12 where p is not sound
unfoldable pub flipped_of : Position → Result Position Refusal
flipped_of p = cond (sound p) (Ok (position_of (flip (board_of p)))) (Err (refusal 12))
