-- What the generator computes on sets, for every input. A law says that on an accepted board this is the list of the
-- rules (docs/RULES.md, "Legal moves"; `generated` in proofs/Generated.antt).
use Rattle.std.specs.Prelude.{ℕ, cond, Option}
use Rattle.std.specs.Int.Bits.{bit_and, bit_or}
use Rattle.squares.specs.Sets.{without}
use Rattle.squares.specs.Squares.{all}
use Rattle.squares.specs.Pieces.{other}
use Rattle.squares.specs.declared.piece.Color.{Color}
use Rattle.squares.specs.declared.piece.Color.TheVariants.{White, Black}
use Rattle.positions.specs.Boards.{Board, board}
use Rattle.positions.specs.Successor.{moved, kings_played}
use Rattle.positions.specs.declared.moves.Move.{Move}
use Rattle.captures.specs.Record.{whole_in}
use Rattle.captures.specs.All.{all_captures_of}
use Rattle.captures.specs.declared.movegen.Captures.{Captures}
use Rattle.captures.specs.declared.moves.MoveList.{MoveList}
use Rattle.quiets.specs.Tests.{has_capture_of}
use Rattle.quiets.specs.Quiets.{quiet_moves_of}
use Rattle.captures.specs.declared.view.View.{View}

-- from what the side to move sees of a board (`view_of`), the way back: the board of a side's own pieces, the enemy's and
-- the kings
abbrev pub facing : Color → ℕ → ℕ → ℕ → Board
facing White us them kings = board us them kings White
facing Black us them kings = board them us kings Black

abbrev pub seen : View → Board
seen v = facing v.side v.us v.them v.kings

-- the captures of all pieces: the men's, then the kings'
abbrev pub long_captures_of : ℕ → ℕ → ℕ → ℕ → Captures 256
long_captures_of = all_captures_of 256

unfoldable pub capture_moves_of : ℕ → ℕ → ℕ → ℕ → Option MoveList
capture_moves_of men kings them empty = whole_in (long_captures_of men kings them empty)

-- captures where a jump is open, else quiet moves; none where there are more than 256
unfoldable pub moves_by_sets : ℕ → ℕ → ℕ → ℕ → Color → Option MoveList
moves_by_sets men kings them empty side =
    cond (has_capture_of men kings them empty) (capture_moves_of men kings them empty) (quiet_moves_of men kings empty side)

unfoldable pub generate_of : View → Option MoveList
generate_of v = moves_by_sets (without v.us v.kings) (bit_and v.us v.kings) v.them (without all (bit_or v.us v.them)) v.side

-- the board after a move, as the other side sees it
unfoldable pub next_of : View → Move → View
next_of v m = record {
  us = without v.them m.captured;
  them = moved v.us m;
  kings = kings_played v.side (without v.kings m.captured) m;
  side = other v.side;
}
