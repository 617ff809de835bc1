-- How a move is written (docs/RULES.md, "Move texts"): as Hub text, 32-28 or 28x8x13x23 with the taken squares in
-- rising order, and as short text, which stops after the first two squares.
use Rattle.std.specs.Prelude.{ℕ, ◌≡◌, ◌≤◌, List, [], ◌∷◌, ◌++◌, length, map, true, cond, Err, Result}
use Prim.Native.Char.{code}
use Rattle.squares.specs.Sets.{members}
use Rattle.squares.specs.Squares.{square_at_bit}
use Rattle.squares.specs.Refusals.{refusal}
use Rattle.positions.specs.Moves.{is_capture, squares_of}
use Rattle.positions.specs.declared.moves.Move.{Move}
use Rattle.texts.specs.Bytes.{joined, digits}
use Rattle.texts.specs.Lent.{over, emit_of, emitted}
use Rattle.texts.specs.declared.space.Space.{Space}
use denote.Ref.{MutBor}
use Rattle.squares.specs.declared.refusal.Refusal.{Refusal}

-- x where the move takes a piece
unfoldable pub separator_of : Move → ℕ
separator_of m = cond (is_capture m) (code "x") (code "-")

-- first square, last square, then the taken squares in rising order
unfoldable pub named : Move → List ℕ
named m = m.from ∷ m.to ∷ map square_at_bit (members m.captured)

unfoldable pub move_text : Move → List ℕ
move_text m = joined (separator_of m) (map digits (named m))

-- first and last square alone
unfoldable pub short_text : Move → List ℕ
short_text m = joined (separator_of m) (map digits (m.from ∷ m.to ∷ []))

-- the answer; refusals: 11, 19
unfoldable pub to_hub_of : Move → List ℕ → Result ℕ Refusal
to_hub_of m out = cond (squares_of m) (emit_of (move_text m) out) (Err (refusal 11))

-- the lent bytes afterwards
unfoldable pub to_hub_lent : Move → List ℕ → List ℕ
to_hub_lent m out = cond (squares_of m) (emitted (move_text m) out) out

unfoldable pub display_of : Move → List ℕ → Result ℕ Refusal
display_of m out = cond (squares_of m) (emit_of (short_text m) out) (Err (refusal 11))

unfoldable pub display_lent : Move → List ℕ → List ℕ
display_lent m out = cond (squares_of m) (emitted (short_text m) out) out

-- what a move is written by: a call with the move, which is on the board, leaves behind the space `old` as `new`. Where
-- this writes the text t, which 200 bytes hold, the answer is r, and the lent bytes `out` are `after`
abbrev pub Writes : {A : Type 0} → Move → (A → Move) → (A → MutBor Space → Unit {0} → MutBor Space → Type 0) → List ℕ → Result ℕ Refusal → List ℕ → Type 0
Writes {A} m of put out r after =
    (t : List ℕ) → ((x : A) (old new : MutBor Space) → of x ≡ m → put x old tt new → new.now ≡ over t old.now) → (squares_of m ≡ true → length t ≤ 200)
    → (r ≡ cond (squares_of m) (emit_of t out) (Err (refusal 11))) × (after ≡ cond (squares_of m) (emitted t out) out)

-- ---- what the code's loop adds: the squares at these bits, an x before each
unfoldable pub taken_text : List ℕ → List ℕ
taken_text [] = []
taken_text (i ∷ l) = code "x" ∷ (digits (square_at_bit i) ++ taken_text l)
