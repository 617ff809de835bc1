-- Refusals in order; otherwise the plays from the fresh game, of which demand 3 holds.
use mathlib.Core.Path.{◌≡◌, sym, ◌∙◌}
use Prim.Native.Nat.{◌/◌, ◌%◌}
use lib.Dec.{eqb, leb}
use lib.ListN.{length}
use Rattle.squares.proofs.Refusals.{holds}
use Rattle.games.specs.Play.{fresh_of, play_of}
use Rattle.games.specs.Demand3.{game_after}
use Rattle.games.specs.Replay.{moves_in, replay_of, written_of}
use Rattle.games.proofs.Replays.{demand_held}
use Rattle.games.proofs.replay.replay.Goals as goal

pub returns : goal.returns
unfolding replay_of written_of fresh_of
returns c =
    let s = sym c.sound.ensures ∙ holds _ _ c.in_ok-unless.ensures in
    let start = c.args.start in
    let ns = c.args.moves.now in
    let d = holds _ (eqb (length c.args.moves.now % 3) 0) c.in_ok-unless-2.ensures in
    let h = holds _ (leb (length c.args.moves.now / 3) (length c.args.answers.now)) c.in_ok-unless-3.ensures in
    let a : c.alone.result ≡ fresh_of start = c.alone.ensures in
    let g : c.play_all.result ≡ game_after play_of (fresh_of start) (moves_in ns) = rw a at c.play_all.ensures.result in
    let w = rw a at c.play_all.ensures.written in
    record {
      result = rw (s, d, h, g);
      written = rw (s, d, h) w;
      demand = λ k e. let r : c.play_all.result ≡ k = cc in demand_held start s (moves_in ns) _ _ _ w (sym r ∙ g);
    }
