-- A valid game stays valid: whatever is played on it, accepted or refused, no later call meets 13.
use Rattle.std.specs.Prelude.{Err, Ok, Result}
use mathlib.Core.Path.{◌≡◌, refl}
use native.Mathlib.Omega.{arith}
use mathlib.Core.Bool.{Bool, true, false, cond}
use mathlib.Core.List.{List, [], ◌∷◌}
use lib.ListN.{length}
use Rattle.squares.specs.Refusals.{refusal}
use Rattle.positions.specs.Acceptance.{sound}
use Rattle.positions.specs.Boards.{board_of}
use Rattle.positions.specs.Moves.{squares_of}
use Rattle.positions.specs.declared.moves.Move.{Move}
use Rattle.positions.specs.declared.position.Position.{Position}
use Rattle.positions.proofs.Accepts.{says_sound}
use Rattle.movegen.specs.Lists.{after_of}
use Rattle.movegen.proofs.Listed.{after_sound}
use Rattle.games.specs.Demand3.{game_after, game_of}
use Rattle.games.specs.Games.{last_of, valid, irreversible, material_after, judged_of, ended}
use Rattle.games.specs.Play.{alone_of, fresh_of, appended_of, moved_of, reached_of, new_of, play_of, after_play}
use Rattle.games.specs.declared.game.Game.{Game}
use Rattle.games.proofs.Laws.{new_is}
use Rattle.games.proofs.Stands.{room_left}
use Rattle.games.proofs.Valid.{valid_says, material_fits, alone_long, alone_valid, more_long, more_valid}
use Rattle.squares.specs.declared.refusal.Refusal.{Refusal}

-- a game that passes the test of refusal 13; its array has 51 entries, as every value of the type has
pub record Fit (g : Game) : Type 0 where
  pub valid : valid g ≡ true
  pub long : length g.kept ≡ 51

module _ (g : Game) (f : Fit g) (m : Move) where
  -- a move was made
  moved_fit : (q : Position) → sound q ≡ true → ended (judged_of g) ≡ false → Fit (moved_of g m q)
  unfolding moved_of
  moved_fit q s o = go (irreversible (board_of (last_of g)) m)
    where
      go : (t : Bool) → Fit (cond t (alone_of q (material_after (board_of (last_of g)) m g.material)) (appended_of g q (material_after (board_of (last_of g)) m g.material)))
      go true =
          let k = material_after (board_of (last_of g)) m g.material in
          record { valid = alone_valid q k s (material_fits (board_of (last_of g)) m g.material); long = alone_long q k }
      go false =
          let k = material_after (board_of (last_of g)) m g.material in
          let v = valid_says g f.valid in
          let r = room_left g o in
          record { valid = more_valid g q k v f.long r s (material_fits (board_of (last_of g)) m g.material); long = more_long g q k v f.long r }

  pub play_fit : Fit (after_play g (play_of g m))
  unfolding play_of
  play_fit = go (valid g) (squares_of m) (ended (judged_of g)) refl (after_of (last_of g) m) refl
    where
      go : (v t o : Bool) → ended (judged_of g) ≡ o → (a : Result Position Refusal) → after_of (last_of g) m ≡ a
          → Fit (after_play g (cond v (cond t (cond o (Err (refusal 14)) (reached_of g m a)) (Err (refusal 11))) (Err (refusal 13))))
      go false t o e a h = f
      go true false o e a h = f
      go true true true e a h = f
      go true true false e (Err x) h = f
      go true true false e (Ok q) h = moved_fit q (says_sound q (after_sound (last_of g) q m h)) e

-- the game after any list of plays
pub plays_fit : (g : Game) → Fit g → (moves : List Move) → Fit (game_after play_of g moves)
unfolding game_after
plays_fit g f [] = f
plays_fit g f (m ∷ ms) = plays_fit (after_play g (play_of g m)) (play_fit g f m) ms

-- begun from a sound position
pub plays_valid : (start : Position) → sound start ≡ true → (moves : List Move) → valid (game_after play_of (game_of (new_of start)) moves) ≡ true
unfolding fresh_of
plays_valid start s moves =
    rw (new_is start s) (plays_fit (fresh_of start) (record { valid = alone_valid start 0 s (omega arith); long = alone_long start 0 }) moves).valid
