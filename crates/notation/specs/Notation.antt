-- What a move text says (docs/RULES.md, "Move texts"). Blanks at its ends are dropped, and it is cut into squares at
-- each - and x. With an x it is a capture, and a - in it is malformed; without an x it must have two squares.
use Rattle.std.specs.Prelude.{ℕ, ◌+◌, List, [], ◌∷◌, Bool, cond, ◌&&◌, ◌||◌, not, eqb, leb, Err, Ok, Result}
use Prim.Native.Char.{code}
use Rattle.std.specs.Int.Bits.{bit_or}
use Rattle.squares.specs.Squares.{single}
use Rattle.squares.specs.Refusals.{refusal}
use Rattle.texts.specs.Bytes.{longest_text, readable, blank, is, holds, trim, split_on, read_square}
use Rattle.notation.specs.declared.notation.Said.{Said}
use Rattle.squares.specs.declared.refusal.Refusal.{Refusal}

-- a byte that separates squares
unfoldable pub at_cut : ℕ → Bool
at_cut b = is (code "-") b || is (code "x") b

abbrev pub malformed : Result Said Refusal
malformed = Err (refusal 9)

-- no square read yet
unfoldable pub unsaid : Bool → Said
unsaid capture = record { capture = capture; first = 0; second = 0; last = 0; count = 0; rest = 0 }

abbrev pub as_first : Said → ℕ → Said
as_first h n = record { capture = h.capture; first = n; second = h.second; last = n; count = 1; rest = h.rest }

abbrev pub as_second : Said → ℕ → Said
as_second h n = record { capture = h.capture; first = h.first; second = n; last = n; count = 2; rest = h.rest }

-- the squares from the third on are collected in a set
abbrev pub as_later : Said → ℕ → Said
as_later h n =
    record { capture = h.capture; first = h.first; second = h.second; last = n; count = h.count + 1; rest = bit_or h.rest (single n) }

-- what is said with one more square
unfoldable pub heard_square : Said → ℕ → Said
heard_square h n = cond (eqb h.count 0) (as_first h n) (cond (eqb h.count 1) (as_second h n) (as_later h n))

-- goes on with the square; what is no square is refused 9
abbrev pub on_square : Result ℕ Refusal → (ℕ → Result Said Refusal) → Result Said Refusal
on_square (Ok n) k = k n
on_square (Err e) k = malformed

-- the squares of these texts, one after the other
unfoldable pub heard_squares : Said → List (List ℕ) → Result Said Refusal
heard_squares h [] = Ok h
heard_squares h (f ∷ fs) = on_square (read_square f) (λ n. heard_squares (heard_square h n) fs)

-- a capture has at least two squares and no -; any other text has exactly two squares
unfoldable pub well_formed : Bool → Said → Bool
well_formed dash h = cond h.capture (leb 2 h.count && not dash) (eqb h.count 2)

abbrev pub in_form : Bool → Result Said Refusal → Result Said Refusal
in_form dash (Ok h) = cond (well_formed dash h) (Ok h) malformed
in_form dash (Err e) = Err e

unfoldable pub heard_trimmed : List ℕ → Result Said Refusal
heard_trimmed t = in_form (holds (code "-") t) (heard_squares (unsaid (holds (code "x") t)) (split_on at_cut t))

-- refusals: 1, 9
unfoldable pub read_move_of : List ℕ → Result Said Refusal
read_move_of s = cond (readable longest_text s) (heard_trimmed (trim blank s)) (Err (refusal 1))
