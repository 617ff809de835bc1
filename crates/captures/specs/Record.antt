-- How a finished sequence is recorded: those that take the most are kept, each once (docs/RULES.md, "Captures"). A list
-- has room for N moves, in a list of legal moves 256; where there are more, it has no length.
use Rattle.std.specs.Prelude.{ℕ, ◌+◌, Option, Some, None, unwrap_or, option_map, List, ◌++◌, cond, ◌||◌, eqb, ltb, set, take, replicate}
use Rattle.squares.specs.Sets.{size}
use Rattle.positions.specs.declared.moves.Move.{Move}
use Rattle.positions.specs.Moves.{by_bits}
use Rattle.captures.specs.declared.moves.MoveList.{MoveList}
use Rattle.captures.specs.declared.movegen.Captures.{Captures}
use Rattle.captures.specs.Lists.{blank, listed}

-- where a sequence ends, and what it took
pub record Ending : Type 0 where
  pub to : ℕ
  pub taken : ℕ

abbrev pub ending : ℕ → ℕ → Ending
ending at c = record { to = at; taken = c }

-- the search that has found nothing yet
abbrev pub start_of : (N them empty : ℕ) → Captures N
start_of N them empty = record { moves = replicate N blank; len = Some 0; them = them; empty = empty; from = 0; best = 0 }

-- these entries, and blanks, as a list of n moves
abbrev pub entered : List Move → ℕ → MoveList
entered ms n = record { moves = take 256 (ms ++ replicate 256 blank); len = n }

module _ {N : ℕ} where
  -- the moves that a search holds; none where it had no room for all
  abbrev pub moves_in : Captures N → List Move
  moves_in s = take (unwrap_or s.len 0) s.moves

  -- the list that a search holds: as many moves as there was room for
  unfoldable pub list_in : Captures N → MoveList
  list_in s = entered s.moves (unwrap_or s.len N)

  -- the same, where there was room for all
  unfoldable pub whole_in : Captures N → Option MoveList
  whole_in s = option_map (entered s.moves) s.len

  -- the move of a sequence that ends on `to` and has taken c
  abbrev pub move_of : Captures N → ℕ → ℕ → Move
  move_of s to c = by_bits s.from to c

  -- the search s with other entries, another number of moves, of pieces taken
  abbrev pub holding : Captures N → List Move → Option ℕ → ℕ → Captures N
  holding s moves len best = record { moves = moves; len = len; them = s.them; empty = s.empty; from = s.from; best = best }

  -- no move; the moves to come take `best` pieces
  abbrev pub cleared_by : Captures N → ℕ → Captures N
  cleared_by s best = holding s (replicate N blank) (Some 0) best

  -- one more move at the end, after n of them
  abbrev pub appended : Captures N → ℕ → Move → Captures N
  appended s n m = holding s (set s.moves n m) (Some (n + 1)) s.best

  -- there was no room
  abbrev pub no_room : Captures N → Captures N
  no_room s = holding s s.moves None s.best

  -- one more move after n of them, where there is room; a list that had no room stays so
  abbrev pub more_at : Captures N → Move → Option ℕ → Captures N
  more_at s m None = s
  more_at s m (Some n) = cond (ltb n N) (appended s n m) (no_room s)

  -- one more capture of the largest number
  unfoldable pub more_by : Captures N → Move → Captures N
  more_by s m = more_at s m s.len

  -- a longer capture clears the list, and is its first move
  abbrev pub anew_by : Captures N → Move → Captures N
  anew_by s m = more_by (cleared_by s (size m.captured)) m

  -- the rule: m is left out where it takes nothing, takes fewer than the others, or is in the list already
  abbrev pub added : Captures N → Move → Captures N
  added s m =
      cond (eqb (size m.captured) 0 || ltb (size m.captured) s.best) s
      (cond (ltb s.best (size m.captured)) (anew_by s m)
      (cond (listed (moves_in s) m) s (more_by s m)))

  -- the move of a sequence, recorded by the rule
  unfoldable pub record_of : Captures N → ℕ → ℕ → Captures N
  record_of s to c = added s (move_of s to c)

  -- the same for an ending
  abbrev pub note_of : Captures N → Ending → Captures N
  note_of s e = record_of s e.to e.taken
