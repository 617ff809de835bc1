-- The lines of an input, and what standard output is for it. `step` gives the answer to a line; `most` is the most
-- bytes that a line may have.
use Rattle.std.specs.Prelude.{ℕ, suc, ◌+◌, ◌≡◌, List, [], ◌∷◌, ◌++◌, cond, eqb, ltb, take, drop}
use Rattle.texts.specs.Bytes.{parts_at}

-- ---- lines of some bytes

-- a line feed (10) ends a line; the last line may lack it; after a line feed at the end there is no line
abbrev pub lines_of : List ℕ → List (List ℕ)
lines_of s = parts_at 10 s

-- how many bytes the whole lines of s take: those up to its last line feed
unfoldable pub whole_of : List ℕ → ℕ
whole_of [] = 0
whole_of (b ∷ s) = let n = whole_of s in cond (ltb 0 n) (suc n) (cond (eqb b 10) 1 0)

-- the bytes of its whole lines, and those of the line after them, which has no line feed yet
unfoldable pub whole_lines : List ℕ → List ℕ
whole_lines s = take (whole_of s) s

unfoldable pub open_line : List ℕ → List ℕ
open_line s = drop (whole_of s) s

-- what is carried over to the next turn: the line that is not whole yet, up to one byte more than the longest line has
unfoldable pub carried_of : ℕ → List ℕ → List ℕ
carried_of most s = take (most + 1) (open_line s)

-- the pieces put together
unfoldable pub together : List (List ℕ) → List ℕ
together [] = []
together (piece ∷ pieces) = piece ++ together pieces

-- ---- the output of a program that answers line by line
module _ (step : List ℕ → List ℕ) where
  -- the answer to each line, in order, a line feed after each
  unfoldable pub answers_to : List (List ℕ) → List ℕ
  answers_to [] = []
  answers_to (line ∷ lines) = step line ++ (10 ∷ answers_to lines)

  -- what standard output is for a standard input
  unfoldable pub output_of : List ℕ → List ℕ
  output_of s = answers_to (lines_of s)

  -- at the end of the input: the answer to the line that was carried over, if there is one
  unfoldable pub last_answer : List ℕ → List ℕ
  last_answer [] = []
  last_answer (b ∷ s) = step (b ∷ s) ++ (10 ∷ [])

  module _ (most : ℕ) where
    -- what is written for pieces that are read one after the other: each turn answers the lines that are whole then
    unfoldable pub turns_output : List ℕ → List (List ℕ) → List ℕ
    turns_output carried [] = last_answer carried
    turns_output carried (piece ∷ pieces) = let s = carried ++ piece in output_of (whole_lines s) ++ turns_output (carried_of most s) pieces

    -- the one thing that the laws ask of a program: a line that is too long has the answer of its first most + 1 bytes
    abbrev pub Cut : Type 0
    Cut = (line : List ℕ) → step (take (most + 1) line) ≡ step line
