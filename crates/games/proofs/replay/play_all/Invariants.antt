-- After i plays the first i answers are written, the later ones are as they were, and the game is that of the first i moves.
use mathlib.Core.Path.{◌≡◌}
use mathlib.Core.List.{◌++◌}
use Prim.Native.Nat.{◌≤◌}
use lib.ListN.{length, take, drop}
use Rattle.games.specs.Play.{play_of}
use Rattle.games.specs.Demand3.{answers_to, game_after}
use Rattle.games.specs.Replay.{moves_in}
use Rattle.games.proofs.replay.play_all.Given as goal

abbrev pub invariant-loop-i : goal.invariant-loop-i
invariant-loop-i l = (l.i ≤ l.i-end)
    × (length l.answers ≡ length l.initial.answers)
    × (l.answers ≡ answers_to play_of l.initial.g (take l.i (moves_in l.moves)) ++ drop l.i l.initial.answers)
    × (l.g ≡ game_after play_of l.initial.g (take l.i (moves_in l.moves)))
