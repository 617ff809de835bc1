-- The claim about whole games, demand 3 of the requirement (docs/RULES.md, "The book"). A game is begun from any
-- position that is not refused 12. Any list of moves is played on it, refused ones too. Each play gets the game that
-- the plays before it led to; a refused play changes nothing. `Heard` is what the caller is answered. `Demand3` says: every answer, the last
-- position and the outcome are those of the book (Book.antt); the hash is right; the pieces on the board add up; and
-- every accepted move took as many pieces as possible. It is one claim about the whole list, not one for each play.
use Rattle.std.specs.Prelude.{◌≡◌, ℕ, ◌+◌, List, [], ◌∷◌, None, Ok, Result, Some}
use Rattle.std.specs.Result.{result_unwrap_or}
use Rattle.squares.specs.Refusals.{answer_number_of}
use Rattle.squares.specs.Sets.{size}
use Rattle.squares.specs.declared.piece.Color.{Color}
use Rattle.positions.specs.Boards.{Board, board_of, men_of, kings_of}
use Rattle.positions.specs.Hash.{hash_of}
use Rattle.positions.specs.declared.moves.Move.{Move}
use Rattle.positions.specs.declared.position.Position.{Position}
use Rattle.rules.specs.Rules.{AtMost, NoJump}
use Rattle.games.specs.Book.{Book, tally_of, standing, begun_book, Verdict, goes_on, ends, book_answer, book_next, book_outcome, book_answers, book_after}
use Rattle.games.specs.Games.{last_of}
use Rattle.games.specs.Play.{empty_game, new_of, after_play, play_of, outcome_of}
use Rattle.games.specs.declared.game.Game.{Game}
use Rattle.std.specs.declared.option.Option.{Option}
use Rattle.games.specs.declared.game.Outcome.{Outcome}
use Rattle.squares.specs.declared.refusal.Refusal.{Refusal}

-- ---- what the caller is answered

-- the answer to each play: 0 where it was accepted, else the number of the refusal
unfoldable pub answers_to : (Game → Move → Result Game Refusal) → Game → List Move → List ℕ
answers_to play g [] = []
answers_to play g (m ∷ ms) = answer_number_of (play g m) ∷ answers_to play (after_play g (play g m)) ms

-- the game after the list
unfoldable pub game_after : (Game → Move → Result Game Refusal) → Game → List Move → Game
game_after play g [] = g
game_after play g (m ∷ ms) = game_after play (after_play g (play g m)) ms

-- the new game; where it is refused, the empty one
abbrev pub game_of : Result Game Refusal → Game
game_of r = result_unwrap_or r empty_game

-- all that is answered: the new game, the answer to each play, the game after the list, and its outcome
pub record Heard : Type 0 where
  pub begun : Result Game Refusal
  pub answers : List ℕ
  pub game : Game
  pub outcome : Result (Option Outcome) Refusal

-- what three functions for new game, play and outcome answer
unfoldable pub heard_of : (Position → Result Game Refusal) → (Game → Move → Result Game Refusal) → (Game → Result (Option Outcome) Refusal) → Position → List Move → Heard
heard_of new play outcome start moves =
    let after = game_after play (game_of (new start)) moves in
    record { begun = new start; answers = answers_to play (game_of (new start)) moves; game = after; outcome = outcome after }

-- what the program answers, by the definitions in the contracts of new game, play and outcome
abbrev pub heard : Position → List Move → Heard
heard = heard_of new_of play_of outcome_of

-- ---- what the book says

-- the book's verdict as the program answers it: an outcome or none
abbrev pub told_as : Verdict → Option Outcome
told_as goes_on = None
told_as (ends o) = Some o

-- the book after the list
abbrev pub book_of : Position → List Move → Book
book_of start moves = book_after (begun_book (board_of start)) moves

-- the claim holds for every accepted move and the board before it
unfoldable pub AtAccepted : (Board → Move → Type 0) → Book → List Move → Type 0
AtAccepted claim b [] = Unit {0}
AtAccepted claim b (m ∷ ms) = (book_answer b m ≡ 0 → claim (standing b) m) × AtAccepted claim (book_next b m) ms

-- no jump sequence of the side to move takes more pieces than the move took
abbrev pub TakesMost : Board → Move → Type 0
TakesMost b m = AtMost b (size m.captured)

-- if the move took nothing, no jump was open
abbrev pub NoneOpen : Board → Move → Type 0
NoneOpen b m = m.captured ≡ 0 → NoJump b

-- ---- the claim

pub record Demand3 (start : Position) (moves : List Move) (h : Heard) : Type 0 where
  -- the new game is not refused, and its position is the start
  pub begins : answer_number_of h.begun ≡ 0
  pub start_stands : board_of (last_of (game_of h.begun)) ≡ board_of start
  -- every play is answered as the book answers it: 0 where it is accepted, else the refusal's number
  pub answers : h.answers ≡ book_answers (begun_book (board_of start)) moves
  -- after the list the position is that of the book: the same pieces on the same squares, and the same side to move
  pub position : board_of (last_of h.game) ≡ standing (book_of start moves)
  -- the outcome is that of the book, and not a refusal
  pub outcome : h.outcome ≡ Ok (told_as (book_outcome (book_of start moves)))
  -- the hash in the game is the one computed afresh from its position
  pub hash : (last_of h.game).hash ≡ hash_of (board_of (last_of h.game))
  -- for each colour: men now + promotions + men taken = men at the start
  pub men : (c : Color) → let t = tally_of c (book_of start moves) in
      size (men_of c (board_of (last_of h.game))) + t.promotions + t.men_taken ≡ size (men_of c (board_of start))
  -- for each colour: kings now + kings taken = kings at the start + promotions
  pub kings : (c : Color) → let t = tally_of c (book_of start moves) in
      size (kings_of c (board_of (last_of h.game))) + t.kings_taken ≡ size (kings_of c (board_of start)) + t.promotions
  -- at every accepted move, no jump sequence of its side takes more pieces than that move took
  pub most : AtAccepted TakesMost (begun_book (board_of start)) moves
  -- and if that move was quiet, no jump was open
  pub none_open : AtAccepted NoneOpen (begun_book (board_of start)) moves
