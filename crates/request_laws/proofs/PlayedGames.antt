-- What `record` answers is a run of new game, plays and outcome as in demand 3: its numbers are the answers, its end is about the game
-- after the list. What `play` answers ends with such a run too: each text plays a move record or leaves the game.
use Rattle.std.specs.Prelude.{Err, Ok, Result, Some}
use Prim.Native.Nat.{ℕ}
use mathlib.Core.Path.{◌≡◌, refl, ap, sym, ◌∙◌}
use mathlib.Core.List.{List, [], ◌∷◌, ◌++◌, append_assoc}
use mathlib.Core.Bool.{Bool, true, false, cond}
use Rattle.squares.specs.Refusals.{answer_number_of}
use Rattle.squares.specs.declared.refusal.Refusal.TheVariants.{BadGame, GameOver}
use Rattle.positions.specs.Acceptance.{sound}
use Rattle.positions.specs.declared.moves.Move.{Move}
use Rattle.positions.specs.declared.position.Position.{Position}
use Rattle.games.specs.Demand3.{answers_to, game_after, game_of, heard_of, heard, Demand3}
use Rattle.games.specs.Games.{last_of, valid, judged_of, ended}
use Rattle.games.specs.Play.{new_of, play_of, after_play}
use Rattle.games.specs.declared.game.Game.{Game}
use Rattle.games.proofs.Laws.{demand3}
use Rattle.notation.specs.Choice.{fit_of}
use Rattle.notation.specs.Notation.{read_move_of}
use Rattle.notation.specs.declared.notation.Said.{Said}
use Rattle.gametexts.specs.Texts.{beside, play_found, play_said, play_heard, play_str_of, played_on}
use Rattle.gametexts.specs.declared.game.PlayedText.{PlayedText}
use Rattle.wording.specs.Escapes.{undone}
use Rattle.wording.specs.Output.{decimal}
use Rattle.requests.specs.Plays.{record_of, play_text_of, play_record_of, text_told, record_told, game_text}
use Rattle.replies.specs.States.{end_text}
use Rattle.squares.specs.declared.refusal.Refusal.{Refusal}

-- the words are the records of these moves
pub data Records : List (List ℕ) → List Move → Type 0 where
  none : Records [] []
  more : {w : List ℕ} {ws : List (List ℕ)} {m : Move} {ms : List Move} → record_of w ≡ Some m → Records ws ms → Records (w ∷ ws) (m ∷ ms)

-- numbers, a space before each
unfoldable pub numbers_text : List ℕ → List ℕ
numbers_text [] = []
numbers_text (n ∷ ns) = (32 ∷ decimal n) ++ numbers_text ns

-- the move beside its play changes neither the answer nor the game after it
beside_same : (g : Game) (m : Move) (x : Result Game Refusal) → (answer_number_of (beside m x) ≡ answer_number_of x) × (played_on g (beside m x) ≡ after_play g x)
beside_same g m (Ok h) = (refl, refl)
beside_same g m (Err e) = (refl, refl)

pub record_run : {ws : List (List ℕ)} {ms : List Move} (g : Game) → Records ws ms → game_text play_record_of record_told g ws ≡ numbers_text (answers_to play_of g ms) ++ end_text (game_after play_of g ms)
unfolding game_text answers_to game_after record_told play_record_of numbers_text
record_run g none = refl
record_run g (more {w} {ws} {m} {ms} e r) =
    let n : List ℕ = 32 ∷ decimal (answer_number_of (play_of g m)) in
    let h = after_play g (play_of g m) in
    let s = beside_same g m (play_of g m) in
    rw (e, s.0, s.1) (ap (λ (x : List ℕ). n ++ x) (record_run h r) ∙ sym (append_assoc n (numbers_text (answers_to play_of h ms)) (end_text (game_after play_of h ms))))

-- demand 3 holds of what a `record` with these words answers
pub record RecordTold (p : Position) (ws : List (List ℕ)) (ms : List Move) : Type 0 where
  pub demand : Demand3 p ms (heard p ms)
  pub told : game_text play_record_of record_told (game_of (new_of p)) ws ≡ numbers_text (heard p ms).answers ++ end_text (heard p ms).game

pub record_demand : {ws : List (List ℕ)} {ms : List Move} (p : Position) → sound p ≡ true → Records ws ms → RecordTold p ws ms
unfolding heard_of
record_demand {ws} {ms} p s r = record { demand = demand3 p s ms; told = record_run (game_of (new_of p)) r }

-- ---- texts: each plays a move record, or leaves the game
pub data Plays (g : Game) (a : Result PlayedText Refusal) : Type 0 where
  moves : (m : Move) → a ≡ beside m (play_of g m) → Plays g a
  leaves : played_on g a ≡ g → Plays g a

found_plays : (g : Game) (f : Result Move Refusal) → Plays g (play_found g f)
found_plays g (Ok m) = moves m refl
found_plays g (Err e) = leaves refl

said_plays : (g : Game) (h : Said) → Plays g (play_said g h)
unfolding play_said
said_plays g h = go (ended (judged_of g))
  where
    go : (b : Bool) → Plays g (cond b (Err GameOver) (play_found g (fit_of (last_of g) h)))
    go true = leaves refl
    go false = found_plays g (fit_of (last_of g) h)

heard_plays : (g : Game) (h : Result Said Refusal) → Plays g (play_heard g h)
heard_plays g (Ok h) = said_plays g h
heard_plays g (Err e) = leaves refl

text_plays : (g : Game) (t : List ℕ) → Plays g (play_str_of g t)
unfolding play_str_of
text_plays g t = go (valid g)
  where
    go : (b : Bool) → Plays g (cond b (play_heard g (read_move_of t)) (Err BadGame))
    go true = heard_plays g (read_move_of t)
    go false = leaves refl

pub word_plays : (g : Game) (w : List ℕ) → Plays g (play_text_of g w)
unfolding play_text_of
word_plays g w = text_plays g (undone w)

-- what is written of some texts: something of each, then the end of a run of move records
pub record TextsTold (g : Game) (ws : List (List ℕ)) : Type 0 where
  pub played : List Move
  pub before : List ℕ
  pub told : game_text play_text_of text_told g ws ≡ before ++ end_text (game_after play_of g played)

told_more : (g : Game) (w : List ℕ) (ws : List (List ℕ)) (a : Result PlayedText Refusal) → Plays g a → (r : TextsTold (played_on g a) ws) → (ms : List Move) × (game_text play_text_of text_told (played_on g a) ws ≡ r.before ++ end_text (game_after play_of g ms))
unfolding game_after
told_more g w ws a (moves m e) r = (m ∷ r.played, r.told ∙ ap (λ (x : Game). r.before ++ end_text (game_after play_of x r.played)) (ap (played_on g) e ∙ (beside_same g m (play_of g m)).1))
told_more g w ws a (leaves e) r = (r.played, r.told ∙ ap (λ (x : Game). r.before ++ end_text (game_after play_of x r.played)) e)

pub texts_told : (g : Game) (ws : List (List ℕ)) → TextsTold g ws
unfolding game_text game_after
texts_told g [] = record { played = []; before = []; told = refl }
texts_told g (w ∷ ws) =
    let a = play_text_of g w in
    let r = texts_told (played_on g a) ws in
    let q = told_more g w ws a (word_plays g w) r in
    record {
      played = q.0;
      before = text_told a ++ r.before;
      told = ap (λ (x : List ℕ). text_told a ++ x) q.1 ∙ sym (append_assoc (text_told a) r.before (end_text (game_after play_of g q.0)));
    }

-- demand 3 holds of the run that ends what a `play` with these words answers
pub record PlayTold (p : Position) (ws : List (List ℕ)) : Type 0 where
  pub played : List Move
  pub before : List ℕ
  pub demand : Demand3 p played (heard p played)
  pub told : game_text play_text_of text_told (game_of (new_of p)) ws ≡ before ++ end_text (heard p played).game

pub play_demand : (p : Position) (ws : List (List ℕ)) → sound p ≡ true → PlayTold p ws
unfolding heard_of
play_demand p ws s =
    let r = texts_told (game_of (new_of p)) ws in
    record { played = r.played; before = r.before; demand = demand3 p s r.played; told = r.told }
