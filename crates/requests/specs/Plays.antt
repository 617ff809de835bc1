-- The requests about games: play and record, which play every word in order on a new game, and outcome.
use Rattle.std.specs.Prelude.{ℕ, List, [], ◌∷◌, ◌++◌, Bool, true, cond, ◌&&◌, Err, None, Ok, Result, Some, is_some}
use Prim.Native.Char.{code}
use Rattle.squares.specs.Refusals.{refusal, answer_number_of}
use Rattle.positions.specs.Moves.{move}
use Rattle.positions.specs.declared.position.Position.{Position}
use Rattle.texts.specs.Bytes.{bytes, parts_at, up_to, after_first}
use Rattle.games.specs.Play.{new_of, play_of, outcome_of}
use Rattle.games.specs.declared.game.Game.{Game}
use Rattle.games.specs.Demand3.{game_of}
use Rattle.gametexts.specs.Texts.{beside, play_str_of, played_on}
use Rattle.gametexts.specs.declared.game.PlayedText.{PlayedText}
use Rattle.wording.specs.Output.{decimal, number_word, bad}
use Rattle.wording.specs.Numbers.{unsigned_of, set_of}
use Rattle.wording.specs.Escapes.{undone}
use Rattle.wording.specs.declared.output.Flaw.TheVariants as flaw
use Rattle.replies.specs.Answers.{ok, on_ok, move_word}
use Rattle.replies.specs.States.{judged_word, state_text, end_text}
use Rattle.positions.specs.declared.moves.Move.{Move}
use Rattle.std.specs.declared.option.Option.{Option}
use Rattle.squares.specs.declared.refusal.Refusal.{Refusal}

-- ---- the words

-- the parts of the line between single spaces; after a space at the end there is no word
abbrev pub words_of : List ℕ → List (List ℕ)
words_of s = parts_at (code " ") s

abbrev pub on_number : Option ℕ → (ℕ → Option Move) → Option Move
on_number (Some n) k = k n
on_number None k = None

-- a record: first square, last square and set, between commas
unfoldable pub record_of : List ℕ → Option Move
record_of s =
    on_number (unsigned_of (up_to (code ",") s)) (λ f.
    on_number (unsigned_of (up_to (code ",") (after_first (code ",") s))) (λ t.
    on_number (set_of (after_first (code ",") (after_first (code ",") s))) (λ c. Some (move f t c))))

unfoldable pub is_record_of : List ℕ → Bool
is_record_of s = is_some (record_of s)

unfoldable pub all_records : List (List ℕ) → Bool
all_records [] = true
all_records (w ∷ ws) = is_record_of w && all_records ws

-- ---- a word played
unfoldable pub play_text_of : Game → List ℕ → Result PlayedText Refusal
play_text_of g w = play_str_of g (undone w)

-- a word that is no record is not played; a line with such a word is a bad request
abbrev pub play_move : Game → Option Move → Result PlayedText Refusal
play_move g (Some m) = beside m (play_of g m)
play_move g None = Err (refusal 9)

unfoldable pub play_record_of : Game → List ℕ → Result PlayedText Refusal
play_record_of g w = play_move g (record_of w)

-- ---- what is written of it

-- of a text: the move and the game after it, or the refusal
abbrev pub text_answer : Result PlayedText Refusal → List ℕ
text_answer (Ok r) = move_word r.mv ++ state_text (code "/") r.game
text_answer (Err e) = number_word e

unfoldable pub text_told : Result PlayedText Refusal → List ℕ
text_told r = code " " ∷ text_answer r

-- of a record: 0, or the refusal's number
unfoldable pub record_told : Result PlayedText Refusal → List ℕ
record_told r = code " " ∷ decimal (answer_number_of r)

-- ---- the words played, by how a word is played and what is written of it

-- each play gets the game that the plays before it led to
unfoldable pub game_text : (Game → List ℕ → Result PlayedText Refusal) → (Result PlayedText Refusal → List ℕ) → Game → List (List ℕ) → List ℕ
game_text play tell g [] = end_text g
game_text play tell g (w ∷ ws) = let r = play g w in tell r ++ game_text play tell (played_on g r) ws

-- the words played on a new game
unfoldable pub game_answer : (Game → List ℕ → Result PlayedText Refusal) → (Result PlayedText Refusal → List ℕ) → Position → List ℕ → List ℕ
game_answer play tell p s = bytes "ok" ++ game_text play tell (game_of (new_of p)) (words_of s)

-- ---- the requests
abbrev pub game_request : (Game → List ℕ → Result PlayedText Refusal) → (Result PlayedText Refusal → List ℕ) → Result Position Refusal → List ℕ → List ℕ
game_request play tell p s = on_ok p (λ q. game_answer play tell q s)

abbrev pub play_request : Result Position Refusal → List ℕ → List ℕ
play_request p texts = game_request play_text_of text_told p texts

-- every record must be readable before one is played
abbrev pub record_request : Result Position Refusal → List ℕ → List ℕ
record_request p records = on_ok p (λ q. cond (all_records (words_of records)) (game_answer play_record_of record_told q records) (bad flaw.Number))

-- the outcome of a new game
abbrev pub outcome_request : Result Position Refusal → List ℕ
outcome_request p = on_ok p (λ q. ok (judged_word (outcome_of (game_of (new_of q)))))
