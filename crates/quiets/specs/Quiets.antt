-- The quiet moves in the order of the list (docs/RULES.md, "Quiet moves", "Order of the list"): the men's by direction,
-- then by the bit reached; then the kings' by bit, by direction, near to far.
use Rattle.std.specs.Prelude.{ℕ, ◌+◌, ◌-◌, ◌^◌, Option, Result, Ok, Err}
use mathlib.Core.List.{List, [], ◌∷◌, ◌++◌, map, flat_map}
use Rattle.std.specs.Int.Bits.{bit_and}
use Rattle.squares.specs.Sets.{members}
use Rattle.squares.specs.Directions.{direction_at, shifted}
use Rattle.squares.specs.declared.piece.Color.{Color}
use Rattle.positions.specs.declared.moves.Move.{Move}
use Rattle.positions.specs.Moves.{by_bits}
use Rattle.captures.specs.declared.moves.MoveList.{MoveList}
use Rattle.captures.specs.Lists.{put_of, whole_list}
use Rattle.captures.specs.Rays.{far, landings}
use Rattle.captures.specs.Walks.{up_to}
use Rattle.quiets.specs.Tests.{forward_of}

-- what comes of a list by f, where there was room so far
abbrev pub then_put : (MoveList → Result MoveList MoveList) → Result MoveList MoveList → Result MoveList MoveList
then_put f (Ok l) = f l
then_put f (Err l) = Err l

-- more moves, one after the other; where there is no room for all, the list with the first ones
unfoldable pub put_all : MoveList → List Move → Result MoveList MoveList
put_all l [] = Ok l
put_all l (m ∷ ms) = then_put (λ k. put_all k ms) (put_of l m)

-- the quiet move between two squares, each given as a set of one bit
abbrev pub quiet_move : ℕ → ℕ → Move
quiet_move from to = by_bits from to 0

-- the step in the direction of index d that reaches bit z
abbrev pub step_move : ℕ → ℕ → Move
step_move d z = quiet_move (shifted (direction_at (3 - d)) (2 ^ z)) (2 ^ z)

-- the men's steps in the direction of index d, by the bit reached
unfoldable pub men_steps : ℕ → ℕ → ℕ → List Move
men_steps men empty d = map (step_move d) (members (bit_and (shifted (direction_at d) men) empty))

-- their steps in both forward directions
unfoldable pub men_quiets : ℕ → ℕ → Color → List Move
men_quiets men empty side = up_to (λ k. men_steps men empty (forward_of side + k)) 2

-- the moves of the king on `at` in the direction of index d, near to far
unfoldable pub flight_of : ℕ → ℕ → ℕ → List Move
flight_of at empty d = map (quiet_move at) (landings far (direction_at d) empty (bit_and (shifted (direction_at d) at) empty))

-- the moves of the king at bit i, in all directions
unfoldable pub flights : ℕ → ℕ → List Move
flights empty i = up_to (flight_of (2 ^ i) empty) 4

-- the moves of all kings
unfoldable pub king_quiets : ℕ → ℕ → List Move
king_quiets kings empty = flat_map (flights empty) (members kings)

-- the moves of all pieces
unfoldable pub all_quiets : ℕ → ℕ → ℕ → Color → List Move
all_quiets men kings empty side = men_quiets men empty side ++ king_quiets kings empty

-- the same as a list, where there are at most 256 (`fill_law` in proofs/Filled.antt: what `put_all` makes of the empty list)
unfoldable pub quiet_moves_of : ℕ → ℕ → ℕ → Color → Option MoveList
quiet_moves_of men kings empty side = whole_list (all_quiets men kings empty side)
