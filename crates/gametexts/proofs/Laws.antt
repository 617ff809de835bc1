-- What playing a text comes to. An accepted text is the play of a listed move, and this move is handed back. Hub's text of a legal
-- move plays that move.
use Rattle.std.specs.Prelude.{Err, Ok, Result}
use mathlib.Core.Path.{◌≡◌, refl, sym, ap, ◌∙◌}
use Prim.Native.Nat.{ℕ, ◌≤◌}
use native.Mathlib.Omega.{arith}
use mathlib.Core.Bool.{Bool, true, false}
use mathlib.Core.List.{List}
use lib.ListN.{length}
use borrow.Author.Tests.{le-ltb}
use Rattle.squares.specs.declared.refusal.Refusal.{Refusal}
use Rattle.squares.specs.declared.refusal.Refusal.TheVariants.{BadGame, GameOver}
use Rattle.squares.proofs.Refusals.{not_ok}
use Rattle.positions.specs.Acceptance.{Sound}
use Rattle.positions.specs.Boards.{board_of}
use Rattle.positions.specs.Hash.{position_of}
use Rattle.positions.specs.Moves.{squares_of}
use Rattle.positions.specs.Successor.{successor}
use Rattle.positions.specs.declared.moves.Move.{Move}
use Rattle.positions.specs.declared.position.Position.{Position}
use Rattle.positions.proofs.Accepts.{says_sound}
use Rattle.rules.specs.Ordered.{legal, listed}
use Rattle.movegen.specs.Lists.{after_of}
use Rattle.movegen.proofs.Answers.{after_one}
use Rattle.notation.specs.Choice.{fit_of, fit_heard, parse_move_of}
use Rattle.notation.specs.MoveText.{move_text}
use Rattle.notation.specs.Notation.{read_move_of}
use Rattle.notation.specs.declared.notation.Said.{Said}
use Rattle.notation.proofs.Fitted.{Fitted, fit_says}
use Rattle.notation.proofs.MoveTrip.{listed_squares, move_back}
use Rattle.games.specs.Games.{last_of, valid, judged_of, ended}
use Rattle.games.specs.Play.{moved_of, reached_of, play_of}
use Rattle.games.specs.declared.game.Game.{Game}
use Rattle.gametexts.specs.Texts.{beside, play_said, play_heard, play_str_of, played_on}
use Rattle.gametexts.specs.declared.game.PlayedText.{PlayedText}

-- a listed move of a sound position with at most 256 moves
pub record Listed (p : Position) (m : Move) : Type 0 where
  pub sound : Sound p
  pub few : length (legal (board_of p)) ≤ 256
  pub in_list : listed (legal (board_of p)) m ≡ true

-- ---- the record of a listed move is accepted on a game that goes on
module _ (g : Game) (v : valid g ≡ true) (o : ended (judged_of g) ≡ false) (m : Move) (l : Listed (last_of g) m) where
  reached : squares_of m ≡ true → play_of g m ≡ reached_of g m (after_of (last_of g) m)
  unfolding play_of
  reached q = rw (v, q, o)

  pub listed_played : play_of g m ≡ Ok (moved_of g m (position_of (successor (board_of (last_of g)) m)))
  listed_played =
      let q = listed_squares (last_of g) m l.sound l.few l.in_list in
      reached q ∙ ap (reached_of g m) (after_one (last_of g) (says_sound (last_of g) l.sound) m q (le-ltb _ _ l.few) l.in_list)

-- ---- an accepted text

-- the text plays m: the record of m is accepted, and the text hands back the game after it, and m
pub record Plays (g : Game) (text : List ℕ) (m : Move) : Type 0 where
  pub game : Game
  pub accepted : play_of g m ≡ Ok game
  pub handed : play_str_of g text ≡ Ok (record { game = game; mv = m })

-- what holds of an accepted text: it was read, it means the listed move m, and it plays m
pub record Accepted (g : Game) (text : List ℕ) (m : Move) : Type 0 where
  pub said : Said
  pub read : read_move_of text ≡ Ok said
  pub fitted : Fitted (last_of g) said m
  pub played : Plays g text m

-- an accepted text means the move that is handed back
pub accepted_says : (g : Game) (text : List ℕ) (r : PlayedText) → play_str_of g text ≡ Ok r → Accepted g text r.mv
unfolding play_str_of play_said
accepted_says g text r e = go (valid g) refl (read_move_of text) refl
  where
    meant : (m : Move) (h : Game) → play_of g m ≡ Ok h → ◌≡◌ {A = Result PlayedText Refusal} (Ok (record { game = h; mv = m })) (Ok r) → play_str_of g text ≡ Ok (record { game = h; mv = m })
        → (s : Said) → read_move_of text ≡ Ok s → Fitted (last_of g) s m → Accepted g text r.mv
    meant m h d q p s t f =
        let x : m ≡ r.mv = cc in
        let a : Accepted g text m = record { said = s; read = t; fitted = f; played = record { game = h; accepted = d; handed = p } } in
        rw x at a

    done : (m : Move) (s : Said) → read_move_of text ≡ Ok s → Fitted (last_of g) s m → play_str_of g text ≡ beside m (play_of g m)
        → (a : Result Game Refusal) → play_of g m ≡ a → Accepted g text r.mv
    done m s t f b (Ok h) d = let q = b ∙ ap (beside m) d in meant m h d (sym q ∙ e) q s t f
    done m s t f b (Err x) d = not_ok x (sym (b ∙ ap (beside m) d) ∙ e)

    at : (h : Said) → read_move_of text ≡ Ok h → valid g ≡ true → (t : Bool) → ended (judged_of g) ≡ t → (f : Result Move Refusal) → fit_of (last_of g) h ≡ f
        → Accepted g text r.mv
    at h s v true o f q = not_ok GameOver (rw (v, s, o) at e)
    at h s v false o (Err x) q = not_ok x (rw (v, s, o, q) at e)
    at h s v false o (Ok m) q = done m h s (fit_says (last_of g) h m q) (rw (v, s, o, q)) (play_of g m) refl

    go : (t : Bool) → valid g ≡ t → (a : Result Said Refusal) → read_move_of text ≡ a → Accepted g text r.mv
    go false v a s = not_ok BadGame (rw v at e)
    go true v (Err x) s = not_ok x (rw (v, s) at e)
    go true v (Ok h) s = at h s v (ended (judged_of g)) refl (fit_of (last_of g) h) refl

-- ---- a refused text: the game goes on as it was handed in
pub refused_says : (g : Game) (text : List ℕ) (e : Refusal) → play_str_of g text ≡ Err e → played_on g (play_str_of g text) ≡ g
refused_says g text e r = ap (played_on g) r

-- ---- Hub's text of a legal move

told : (p : Position) (m : Move) → Listed p m → fit_heard p (read_move_of (move_text m)) ≡ Ok m
unfolding parse_move_of
told p m l = rw (says_sound p l.sound) at (move_back p m l.sound l.few l.in_list)

pub hub_played : (g : Game) (m : Move) → valid g ≡ true → ended (judged_of g) ≡ false → Listed (last_of g) m → Plays g (move_text m) m
unfolding play_str_of play_said
hub_played g m v o l =
    record {
      game = moved_of g m (position_of (successor (board_of (last_of g)) m));
      accepted = d;
      handed = rw v (go (read_move_of (move_text m)) refl) ∙ ap (beside m) d;
    }
  where
    d : play_of g m ≡ Ok (moved_of g m (position_of (successor (board_of (last_of g)) m)))
    d = listed_played g v o m l

    go : (a : Result Said Refusal) → read_move_of (move_text m) ≡ a → play_heard g a ≡ beside m (play_of g m)
    go (Ok h) r = let f = rw r at (told (last_of g) m l) in rw (o, f)
    go (Err e) r = let f = rw r at (told (last_of g) m l) in let z : ◌≡◌ {A = ℕ} 0 1 = cc in absurd (omega arith)
