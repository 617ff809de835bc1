-- Which legal move a text means (docs/RULES.md, "Move texts"). It must be of the text's kind, capture or not, and
-- begin on its first square. A text of three or more squares is tried as Hub text first: first square, last square,
-- taken squares. If no move fits so, and for a text of two squares, the first and the last square decide.
use Rattle.std.specs.Prelude.{ℕ, List, [], ◌∷◌, Bool, cond, ◌&&◌, eqb, leb, ltb, length, Err, Ok, Result, None, Some, Option}
use Rattle.std.specs.Bool.{beq}
use Rattle.squares.specs.Refusals.{refusal}
use Rattle.positions.specs.Acceptance.{sound}
use Rattle.positions.specs.Boards.{board_of}
use Rattle.positions.specs.Moves.{is_capture}
use Rattle.positions.specs.declared.moves.Move.{Move}
use Rattle.positions.specs.declared.position.Position.{Position}
use Rattle.rules.specs.Lists.{keep}
use Rattle.rules.specs.Ordered.{legal}
use Rattle.notation.specs.Notation.{read_move_of}
use Rattle.notation.specs.declared.notation.Said.{Said}
use Rattle.squares.specs.declared.refusal.Refusal.{Refusal}

-- the move is of the text's kind and begins on its first square
unfoldable pub begins : Said → Move → Bool
begins h m = eqb m.from h.first && beq (is_capture m) h.capture

-- as Hub text: the second square is the move's last, the later ones are the set taken; a square may be named twice
unfoldable pub as_hub : Said → Move → Bool
as_hub h m = begins h m && (eqb m.to h.second && eqb m.captured h.rest)

-- by first and last square
unfoldable pub by_ends : Said → Move → Bool
by_ends h m = begins h m && eqb m.to h.last

-- the first list, or the second where the first is empty
unfoldable pub or_else : List Move → List Move → List Move
or_else [] l = l
or_else (m ∷ k) l = m ∷ k

-- the moves of the list that fit
unfoldable pub fitting : Said → List Move → List Move
fitting h l = cond (ltb 2 h.count) (or_else (keep (as_hub h) l) (keep (by_ends h) l)) (keep (by_ends h) l)

-- the only move; 15 where there is none, 16 where there are several
unfoldable pub only : List Move → Result Move Refusal
only [] = Err (refusal 15)
only (m ∷ []) = Ok m
only (m ∷ (n ∷ l)) = Err (refusal 16)

-- refusals: 12, 17, 15, 16
unfoldable pub fit_of : Position → Said → Result Move Refusal
fit_of p h =
    cond (sound p)
    (cond (leb (length (legal (board_of p))) 256) (only (fitting h (legal (board_of p)))) (Err (refusal 17)))
    (Err (refusal 12))

-- fits what was read; a refusal is passed on
abbrev pub fit_heard : Position → Result Said Refusal → Result Move Refusal
fit_heard p (Ok h) = fit_of p h
fit_heard p (Err e) = Err e

-- refusals: 12, 1, 9, 17, 15, 16
unfoldable pub parse_move_of : Position → List ℕ → Result Move Refusal
parse_move_of p s = cond (sound p) (fit_heard p (read_move_of s)) (Err (refusal 12))

-- ---- the same as the code computes it

-- nothing where there is no move, else the only one or 16
abbrev pub only_of : List Move → Option (Result Move Refusal)
only_of [] = None
only_of (m ∷ l) = Some (only (m ∷ l))
