-- Lists of at most 256 moves by value: the moves, then blanks (docs/RULES.md, "Limits and lent space").
use Rattle.std.specs.Prelude.{ℕ, ◌+◌, min, Bool, false, cond, ◌||◌, Option, Some, None, Result, Ok, Err, List, [], ◌∷◌, ◌++◌, leb, ltb, length, get_or, set, take, replicate}
use Rattle.positions.specs.declared.moves.Move.{Move}
use Rattle.positions.specs.Moves.{move, same}
use Rattle.captures.specs.declared.moves.MoveList.{MoveList}

-- an unused entry: squares 0 and 0, set empty
abbrev pub blank : Move
blank = move 0 0 0

-- the list without moves
abbrev pub no_moves : MoveList
no_moves = record { moves = replicate 256 blank; len = 0 }

-- the moves of a list
abbrev pub entries : MoveList → List Move
entries l = take l.len l.moves

-- whether m is one of these moves
unfoldable pub listed : List Move → Move → Bool
listed [] m = false
listed (x ∷ l) m = same x m || listed l m

-- one more move at the end, where there is room
unfoldable pub push_of : MoveList → Move → MoveList
push_of l m = cond (ltb l.len 256) (record { moves = set l.moves l.len m; len = l.len + 1 }) l

-- the list, and whether what was put in had room
abbrev pub kept : MoveList → Option Unit → Result MoveList MoveList
kept l None = Err l
kept l (Some u) = Ok l

-- one more move at the end, where there is room; else the list as it is
unfoldable pub put_of : MoveList → Move → Result MoveList MoveList
put_of l m = cond (ltb l.len 256) (Ok (push_of l m)) (Err l)

-- the entry at index i, blank from 256 on
unfoldable pub get_of : MoveList → ℕ → Move
get_of l i = get_or l.moves i blank

-- the list of these moves: as many as there is room for, then blanks
unfoldable pub list_of : List Move → MoveList
list_of xs = record { moves = take 256 (xs ++ replicate 256 blank); len = min 256 (length xs) }

-- the same, where there is room for all
unfoldable pub whole_list : List Move → Option MoveList
whole_list xs = cond (leb (length xs) 256) (Some (list_of xs)) None
