-- What the list call, the two tests and the successor answer, refused calls too (docs/RULES.md, "Legal moves"). The
-- order of refusals (docs/RULES.md, "Refusals"): lists 12, 10, 17; tests 12; a move record 12, 11, 17, 15.
use Rattle.std.specs.Prelude.{ℕ, cond, List, leb, ltb, length, Bool, Err, Ok, Result}
use Rattle.squares.specs.declared.refusal.Refusal.{Refusal}
use Rattle.squares.specs.Refusals.{refusal}
use Rattle.positions.specs.Acceptance.{sound}
use Rattle.positions.specs.Boards.{board_of}
use Rattle.positions.specs.Hash.{position_of}
use Rattle.positions.specs.Moves.{squares_of}
use Rattle.positions.specs.Successor.{successor}
use Rattle.positions.specs.declared.moves.Move.{Move}
use Rattle.positions.specs.declared.position.Position.{Position}
use Rattle.captures.specs.Lists.{list_of}
use Rattle.captures.specs.View.{view_of}
use Rattle.captures.specs.declared.view.View.{View}
use Rattle.rules.specs.Ordered.{captures, quiets, legal, listed}
use Rattle.rules.specs.Lists.{some}
use Rattle.captures.specs.declared.moves.MoveList.{MoveList}

-- what the side to move sees of a sound position
unfoldable pub view_at : Position → Result View Refusal
view_at p = cond (sound p) (Ok (view_of (board_of p))) (Err (refusal 12))

-- the moves and then blanks, if there are at most `limit` moves; else 17
unfoldable pub listed_of : ℕ → List Move → Result MoveList Refusal
listed_of limit xs = cond (leb (length xs) limit) (Ok (list_of xs)) (Err (refusal 17))

unfoldable pub legal_moves_of : Position → ℕ → Result MoveList Refusal
legal_moves_of p limit =
    cond (sound p)
    (cond (leb limit 256) (listed_of limit (legal (board_of p))) (Err (refusal 10)))
    (Err (refusal 12))

unfoldable pub has_captures_of : Position → Result Bool Refusal
has_captures_of p = cond (sound p) (Ok (some (captures (board_of p)))) (Err (refusal 12))

-- even where the side to move must capture
unfoldable pub has_quiet_moves_of : Position → Result Bool Refusal
has_quiet_moves_of p = cond (sound p) (Ok (some (quiets (board_of p)))) (Err (refusal 12))

-- 17 or 15, else the position after the move, with its hash
unfoldable pub played_of : Position → Move → Result Position Refusal
played_of p m =
    cond (ltb 256 (length (legal (board_of p)))) (Err (refusal 17))
    (cond (listed (legal (board_of p)) m) (Ok (position_of (successor (board_of p) m))) (Err (refusal 15)))

unfoldable pub after_of : Position → Move → Result Position Refusal
after_of p m = cond (sound p) (cond (squares_of m) (played_of p m) (Err (refusal 11))) (Err (refusal 12))
