-- Demand 3 of the list that `replay` is lent: what it writes and hands back is what is heard of the plays.
use mathlib.Core.Path.{◌≡◌, ap, ◌∙◌}
use Prim.Native.Nat.{ℕ}
use mathlib.Core.Bool.{true}
use mathlib.Core.List.{List, ◌++◌}
use lib.ListN.{length, take}
use lib.Seq.{take_at}
use Rattle.positions.specs.Acceptance.{sound}
use Rattle.positions.specs.declared.moves.Move.{Move}
use Rattle.positions.specs.declared.position.Position.{Position}
use Rattle.games.specs.Play.{fresh_of, new_of, play_of, outcome_of}
use Rattle.games.specs.Demand3.{answers_to, game_after, game_of, heard_of, Demand3}
use Rattle.games.specs.Replay.{heard_by}
use Rattle.games.specs.declared.game.Game.{Game}
use Rattle.games.proofs.Laws.{new_is, demand3}
use Rattle.games.proofs.Runs.{answers_length}

module _ (start : Position) (s : sound start ≡ true) (ms : List Move) where
  heard_is : (xs : List ℕ) (g : Game) → xs ≡ answers_to play_of (fresh_of start) ms → g ≡ game_after play_of (fresh_of start) ms
      → Demand3 start ms (record { begun = new_of start; answers = xs; game = g; outcome = outcome_of g })
  unfolding heard_of new_of
  heard_is xs g e f = rw (e, f) (rw (ap game_of (new_is start s)) at (demand3 start s ms))

  -- the answers as written, later bytes behind them
  pub demand_held : (out rest : List ℕ) (g : Game) → out ≡ answers_to play_of (fresh_of start) ms ++ rest → g ≡ game_after play_of (fresh_of start) ms
      → Demand3 start ms (heard_by start ms out g)
  demand_held out rest g e f =
      heard_is (take (length ms) out) g
      (ap (take (length ms)) e ∙ take_at (answers_to play_of (fresh_of start) ms) rest (length ms) (answers_length (fresh_of start) ms)) f
