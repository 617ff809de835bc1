-- The last ply of a depth count, computed on sets: the number of moves, or 17 where there are more than 256. No list
-- is made where no jump is open. A law says that this is the depth count 1 of the rules (`last_ply` in
-- proofs/LastPly.antt).
use Rattle.std.specs.Prelude.{ℕ, cond, ltb, length, Option, Some, None, Err, Ok, Result}
use Rattle.std.specs.Int.Bits.{bit_and, bit_or}
use Rattle.squares.specs.Sets.{without}
use Rattle.squares.specs.Squares.{all}
use Rattle.squares.specs.declared.piece.Color.{Color}
use Rattle.squares.specs.Refusals.{refusal}
use Rattle.quiets.specs.Tests.{has_capture_of}
use Rattle.quiets.specs.Quiets.{all_quiets}
use Rattle.movegen.specs.Generate.{capture_moves_of}
use Rattle.captures.specs.declared.moves.MoveList.{MoveList}
use Rattle.captures.specs.declared.view.View.{View}
use Rattle.squares.specs.declared.refusal.Refusal.{Refusal}

-- a number of moves, or 17 where it is above 256
unfoldable pub limited_count : ℕ → Result ℕ Refusal
limited_count n = cond (ltb 256 n) (Err (refusal 17)) (Ok n)

-- the number of moves in a list, or 17 where there are more than 256
unfoldable pub listed_count : Option MoveList → Result ℕ Refusal
listed_count None = Err (refusal 17)
listed_count (Some l) = Ok l.len

unfoldable pub count_by_sets : ℕ → ℕ → ℕ → ℕ → Color → Result ℕ Refusal
count_by_sets men kings them empty side =
    cond (has_capture_of men kings them empty) (listed_count (capture_moves_of men kings them empty)) (limited_count (length (all_quiets men kings empty side)))

unfoldable pub last_ply_of : View → Result ℕ Refusal
last_ply_of v = count_by_sets (without v.us v.kings) (bit_and v.us v.kings) v.them (without all (bit_or v.us v.them)) v.side
