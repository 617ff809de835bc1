-- What is written of a game. Every game that a request plays began from an accepted position. So refusal 13, and a game
-- lost to nobody, do not occur; nothing is written for them.
use Rattle.std.specs.Prelude.{ℕ, List, [], ◌∷◌, ◌++◌, Err, None, Ok, Result, Some}
use Prim.Native.Char.{code}
use Rattle.squares.specs.declared.piece.Color.TheVariants.{White, Black}
use Rattle.captures.specs.declared.moves.MoveList.{MoveList}
use Rattle.texts.specs.Bytes.{bytes}
use Rattle.games.specs.Play.{outcome_of, stands_of, repetitions_of, reversible_plies_of, legal_moves_of}
use Rattle.games.specs.declared.game.Game.{Game}
use Rattle.games.specs.declared.game.Outcome.{Outcome}
use Rattle.games.specs.declared.game.Termination.{Termination}
use Rattle.games.specs.declared.game.Termination.TheVariants.{NoMoves, Repetition, TwentyFiveMoves, SixteenMoves, FiveMoves}
use Rattle.wording.specs.Output.{decimal, number_word}
use Rattle.replies.specs.Answers.{fen_word, count_word}
use Rattle.squares.specs.declared.piece.Color.{Color}
use Rattle.std.specs.declared.option.Option.{Option}
use Rattle.positions.specs.declared.position.Position.{Position}
use Rattle.squares.specs.declared.refusal.Refusal.{Refusal}

-- ---- the outcome
abbrev pub winner_word : Option Color → List ℕ
winner_word (Some White) = bytes "white"
winner_word (Some Black) = bytes "black"
winner_word None = []

abbrev pub ending_word : Termination → Option Color → List ℕ
ending_word NoMoves w = winner_word w
ending_word Repetition w = bytes "draw3"
ending_word TwentyFiveMoves w = bytes "draw50"
ending_word SixteenMoves w = bytes "draw32"
ending_word FiveMoves w = bytes "draw10"

abbrev pub outcome_word : Outcome → List ℕ
outcome_word o = ending_word o.termination o.winner

abbrev pub judged_word : Result (Option Outcome) Refusal → List ℕ
judged_word (Ok (Some o)) = outcome_word o
judged_word (Ok None) = bytes "none"
judged_word (Err e) = []

-- ---- counts
-- plies without capture or man move, plies since capture or promotion (up to 32); a mark before each
unfoldable pub plies_text : ℕ → Game → List ℕ
plies_text mark g = mark ∷ (count_word (reversible_plies_of g) ++ (mark ∷ decimal g.material))

-- the outcome, both counts, how often the position has stood; a mark before each
unfoldable pub state_text : ℕ → Game → List ℕ
state_text mark g =
    mark ∷ (judged_word (outcome_of g) ++ (plies_text mark g ++ (mark ∷ count_word (repetitions_of g))))

-- ---- the game after the last play
abbrev pub stand_word : Result Position Refusal → List ℕ
stand_word (Ok p) = fen_word p
stand_word (Err e) = []

-- how many moves there are, 0 once the game is over; more than 256 are refused with 17
abbrev pub moves_word : Result MoveList Refusal → List ℕ
moves_word (Ok l) = decimal l.len
moves_word (Err e) = number_word e

unfoldable pub end_text : Game → List ℕ
end_text g =
    bytes " | " ++ (stand_word (stands_of g) ++ (state_text (code " ") g ++ (code " " ∷ moves_word (legal_moves_of g 256))))
