-- The requests about a position or a square. The position comes as what was read of its text: a refusal is the answer.
use Rattle.std.specs.Prelude.{◌≡◌, ℕ, List, [], ◌∷◌, cond, eqb, ℤ, Err, None, Ok, Result, Some}
use denote.Ref.{MutBor}
use Rattle.texts.specs.Lent.{over}
use Rattle.texts.specs.declared.space.Space.{Space}
use Rattle.squares.specs.Pieces.{color_from_char_of}
use Rattle.squares.specs.Refusals.{refusal}
use Rattle.squares.specs.declared.piece.Color.{Color}
use Rattle.positions.specs.Acceptance.{from_parts_of}
use Rattle.positions.specs.Flip.{flipped_of}
use Rattle.positions.specs.declared.position.Position.{Position}
use Rattle.scores.specs.Score.{evaluate_of}
use Rattle.scores.specs.declared.eval.Classical.{Classical}
use Rattle.movegen.specs.Lists.{legal_moves_of, has_captures_of, has_quiet_moves_of, after_of}
use Rattle.movegen.specs.Counts.{perft_of, divide_of}
use Rattle.wording.specs.Output.{bad}
use Rattle.wording.specs.Words.{first_word, after_word, word_at, blanks_in}
use Rattle.wording.specs.Numbers.{unsigned_of, set_of, signed_of}
use Rattle.wording.specs.declared.output.Flaw.{Flaw}
use Rattle.wording.specs.declared.output.Flaw.TheVariants as flaw
use Rattle.requests.specs.Reading.{position_in, move_in}
use Rattle.replies.specs.Answers.{on_ok, square_answer, hub_answer, bits_answer, hash_answer, placed_answer, scored_answer, tested_answer, counted_answer, list_answer, divided_answer, move_answer, after_answer}
use Rattle.std.specs.declared.option.Option.{Option}
use Rattle.squares.specs.declared.refusal.Refusal.{Refusal}

-- ---- what was read, or why it cannot be
abbrev pub on_parsed : Option ℕ → (ℕ → List ℕ) → List ℕ
on_parsed (Some n) k = k n
on_parsed None k = bad flaw.Number

abbrev pub on_sided : Result Color Refusal → (Color → List ℕ) → List ℕ
on_sided (Ok c) k = k c
on_sided (Err e) k = bad flaw.Side

-- the answer of what was read of a line, or what of it cannot be read
abbrev pub on_read : {A : Type 0} → Result A Flaw → (A → List ℕ) → List ℕ
on_read (Ok x) say = say x
on_read (Err f) say = bad f

-- where a call of `put` writes the word of x, the space b is a with the word of what was read, or with what cannot be
abbrev pub SaysRead : {A : Type 0} → (MutBor Space → A → Unit {0} → MutBor Space → Type 0) → Result A Flaw → Space → Space → Type 0
SaysRead {A} put r a b =
    (word : A → List ℕ) → ((m n : MutBor Space) (x : A) → put m x tt n → n.now ≡ over (word x) m.now) → b ≡ over (on_read r word) a

-- ---- of a position alone
abbrev pub fen_request : Result Position Refusal → List ℕ
fen_request p = placed_answer p

abbrev pub hub_request : Result Position Refusal → List ℕ
hub_request p = on_ok p hub_answer

abbrev pub bits_request : Result Position Refusal → List ℕ
bits_request p = on_ok p bits_answer

abbrev pub hash_request : Result Position Refusal → List ℕ
hash_request p = on_ok p hash_answer

abbrev pub flip_request : Result Position Refusal → List ℕ
flip_request p = on_ok p (λ q. placed_answer (flipped_of q))

abbrev pub caps_request : Result Position Refusal → List ℕ
caps_request p = on_ok p (λ q. tested_answer (has_captures_of q))

abbrev pub quiet_request : Result Position Refusal → List ℕ
quiet_request p = on_ok p (λ q. tested_answer (has_quiet_moves_of q))

-- the legal moves, if there are no more than the limit
abbrev pub moves_request : Result Position Refusal → ℕ → List ℕ
moves_request p limit = on_ok p (λ q. list_answer (legal_moves_of q limit))

-- the score with these weights
abbrev pub eval_request : Result Position Refusal → Classical → List ℕ
eval_request p w = on_ok p (λ q. scored_answer (evaluate_of w q))

-- ---- of a position and the rest of the line

-- a move's text
abbrev pub parse_request : Result Position Refusal → List ℕ → List ℕ
parse_request p text = on_ok p (λ q. on_ok (move_in q text) move_answer)

abbrev pub after_request : Result Position Refusal → List ℕ → List ℕ
after_request p text = on_ok p (λ q. on_ok (move_in q text) (λ m. after_answer (after_of q m)))

-- a depth
abbrev pub perft_request : Result Position Refusal → List ℕ → List ℕ
perft_request p depth = on_ok p (λ q. on_parsed (unsigned_of depth) (λ n. counted_answer (perft_of q n)))

abbrev pub divide_request : Result Position Refusal → List ℕ → List ℕ
divide_request p depth = on_ok p (λ q. on_parsed (unsigned_of depth) (λ n. divided_answer (divide_of q n)))

-- atmost: a limit, which is read first, then the position
unfoldable pub atmost_request : List ℕ → List ℕ
atmost_request arg = on_parsed (unsigned_of (first_word arg)) (λ n. moves_request (position_in (after_word arg)) n)

-- evalw: the position and five weights, which are read first
abbrev pub on_signed : Option ℤ → (ℤ → Option Classical) → Option Classical
on_signed (Some z) k = k z
on_signed None k = None

unfoldable pub weights_of : List ℕ → Option Classical
weights_of arg =
    on_signed (signed_of (word_at 1 arg)) (λ m. on_signed (signed_of (word_at 2 arg)) (λ k. on_signed (signed_of (word_at 3 arg)) (λ a.
    on_signed (signed_of (word_at 4 arg)) (λ c. on_signed (signed_of (word_at 5 arg)) (λ g.
    Some (record { man = m; king = k; advance = a; center = c; guard = g }))))))

abbrev pub on_weights : Option Classical → (Classical → List ℕ) → List ℕ
on_weights (Some w) k = k w
on_weights None k = bad flaw.Number

unfoldable pub evalw_request : List ℕ → List ℕ
evalw_request arg =
    cond (eqb (blanks_in arg) 5) (on_weights (weights_of arg) (λ w. eval_request (position_in (first_word arg)) w)) (bad flaw.Words)

-- ---- of a square, and of sets

abbrev pub square_request : Result ℕ Refusal → List ℕ
square_request n = on_ok n square_answer

-- a side is W or B alone
unfoldable pub side_of : List ℕ → Result Color Refusal
side_of [] = Err (refusal 2)
side_of (c ∷ []) = color_from_char_of c
side_of (c ∷ (d ∷ s)) = Err (refusal 2)

unfoldable pub sets_answer : List ℕ → List ℕ
sets_answer arg =
    on_parsed (set_of (word_at 0 arg)) (λ w. on_parsed (set_of (word_at 1 arg)) (λ b. on_parsed (set_of (word_at 2 arg)) (λ k.
    on_sided (side_of (word_at 3 arg)) (λ c. placed_answer (from_parts_of w b k c)))))

-- parts: three sets and a side
unfoldable pub parts_request : List ℕ → List ℕ
parts_request arg = cond (eqb (blanks_in arg) 3) (sets_answer arg) (bad flaw.Words)
