-- What the entries that take texts answer (docs/RULES.md, "Move texts" and "Refusals"). A new game from a FEN has the
-- refusals of FEN. A move text on a game has 13, 1, 9, 14, 17, 15, 16, in this order.
use Rattle.std.specs.Prelude.{ℕ, cond, List, Err, Ok, Result}
use Rattle.squares.specs.Refusals.{refusal}
use Rattle.squares.specs.declared.refusal.Refusal.{Refusal}
use Rattle.positions.specs.declared.moves.Move.{Move}
use Rattle.texts.specs.Fen.{from_fen_of}
use Rattle.notation.specs.Choice.{fit_of}
use Rattle.notation.specs.Notation.{read_move_of}
use Rattle.notation.specs.declared.notation.Said.{Said}
use Rattle.games.specs.Games.{last_of, valid, judged_of, ended}
use Rattle.games.specs.Play.{new_of, play_of}
use Rattle.games.specs.declared.game.Game.{Game}
use Rattle.gametexts.specs.declared.game.PlayedText.{PlayedText}
use Rattle.positions.specs.declared.position.Position.{Position}

-- a new game from the position that was read
abbrev pub begun_at : Result Position Refusal → Result Game Refusal
begun_at (Ok p) = new_of p
begun_at (Err e) = Err e

unfoldable pub game_from_fen_of : List ℕ → Result Game Refusal
game_from_fen_of text = begun_at (from_fen_of text)

-- the game of a play of m, and m
abbrev pub beside : Move → Result Game Refusal → Result PlayedText Refusal
beside m (Ok g) = Ok (record { game = g; mv = m })
beside m (Err e) = Err e

-- the move that was found is played as its record is; a refusal is passed on
abbrev pub play_found : Game → Result Move Refusal → Result PlayedText Refusal
play_found g (Ok m) = beside m (play_of g m)
play_found g (Err e) = Err e

-- 14, then 17, 15 and 16 of the search for the move
unfoldable pub play_said : Game → Said → Result PlayedText Refusal
play_said g h = cond (ended (judged_of g)) (Err (refusal 14)) (play_found g (fit_of (last_of g) h))

-- what was read is played, a refusal is passed on
abbrev pub play_heard : Game → Result Said Refusal → Result PlayedText Refusal
play_heard g (Ok h) = play_said g h
play_heard g (Err e) = Err e

-- 13, then 1 and 9 of reading
unfoldable pub play_str_of : Game → List ℕ → Result PlayedText Refusal
play_str_of g text = cond (valid g) (play_heard g (read_move_of text)) (Err (refusal 13))

-- the game that a player goes on with after a text: a refused one changes nothing
abbrev pub played_on : Game → Result PlayedText Refusal → Game
played_on g (Ok r) = r.game
played_on g (Err e) = g
