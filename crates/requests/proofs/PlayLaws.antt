-- The words of a line one after another; records and texts; the game after a word.
use Rattle.std.specs.Prelude.{Result, Err}
use Prim.Native.Nat.{ℕ}
use mathlib.Core.Path.{◌≡◌, refl, ap, ◌∙◌}
use mathlib.Core.List.{List, [], ◌∷◌, ◌++◌}
use mathlib.Core.Bool.{Bool, false, cond, ◌&&◌}
use lib.ListN.{take}
use Rattle.std.specs.List.{list_all}
use Rattle.squares.specs.declared.refusal.Refusal.TheVariants.{TextTooLong, BadGame}
use Rattle.texts.specs.Bytes.{readable, longest_text}
use Rattle.notation.specs.Notation.{read_move_of}
use Rattle.games.specs.Games.{valid}
use Rattle.games.specs.declared.game.Game.{Game}
use Rattle.gametexts.specs.Texts.{play_str_of, played_on}
use Rattle.gametexts.specs.declared.game.PlayedText.{PlayedText}
use Rattle.wording.specs.Escapes.{undone}
use Rattle.requests.specs.Plays.{is_record_of, all_records, play_text_of, game_text}
use Rattle.replies.specs.States.{end_text}
use Rattle.requests.proofs.Readings.{cut}
use Rattle.squares.specs.declared.refusal.Refusal.{Refusal}

-- ---- a word and the words after it
module _ (play : Game → List ℕ → Result PlayedText Refusal) (tell : Result PlayedText Refusal → List ℕ) where
  pub game_next : (left rest : List (List ℕ)) (word : List ℕ) → left ≡ word ∷ rest → (g : Game) (a : Result PlayedText Refusal) → a ≡ play g word → tell a ++ game_text play tell (played_on g a) rest ≡ game_text play tell g left
  unfolding game_text
  game_next left rest word w g a e = rw (w, e)

  pub game_end : (left : List (List ℕ)) (g : Game) → left ≡ [] → end_text g ≡ game_text play tell g left
  unfolding game_text
  game_end left g e = rw e

-- ---- records
pub records_all : (ws : List (List ℕ)) → list_all is_record_of ws ≡ all_records ws
unfolding all_records
records_all [] = refl
records_all (w ∷ ws) = ap (λ (b : Bool). is_record_of w && b) (records_all ws)

-- ---- texts
play_refused : (g : Game) (s : List ℕ) → readable longest_text s ≡ false → play_str_of g s ≡ cond (valid g) (Err TextTooLong) (Err BadGame)
unfolding play_str_of read_move_of
play_refused g s e = rw e

pub text_played : (s t : List ℕ) (g : Game) (a : Result PlayedText Refusal) → a ≡ play_str_of g t → t ≡ take 4097 (undone s) → a ≡ play_text_of g s
unfolding play_text_of
text_played s t g a q e = q ∙ ap (play_str_of g) e ∙ cut (play_str_of g) _ (play_refused g) (undone s)
