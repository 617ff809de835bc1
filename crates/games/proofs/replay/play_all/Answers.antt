-- After i plays the first i answers are written, the later ones are as they were, and the game is that of the first i moves.
use mathlib.Core.Path.{◌≡◌, sym, ap, ap₂, ◌∙◌}
use mathlib.Core.List.{[]}
use Prim.Native.Nat.{◌<◌, ◌/◌}
use lib.ListN.{length, take, get_or, length-set}
use lib.Seq.{take_all, length-take-le}
use Rattle.positions.specs.Moves.{move}
use Rattle.positions.specs.declared.moves.Move.{Move}
use Rattle.games.specs.Play.{play_of}
use Rattle.games.specs.Demand3.{answers_to, game_after}
use Rattle.games.specs.Replay.{moves_in}
use Rattle.games.proofs.Runs.{answers_length, answers_more, after_more, write_more, moves_length, moves_at, played_in}
use native.Mathlib.Omega.{arith}
use Rattle.games.proofs.replay.play_all.Goals as goal

abbrev blank : Move
blank = move 0 0 0

pub loop-i-preserved : goal.loop-i-preserved
loop-i-preserved c =
    let ns = c.args.moves.now in
    let ms = moves_in ns in
    let out = c.args.answers.now in
    let start = c.args.start in
    let i = c.loop-i.i in
    let now = game_after play_of start (take i ms) in
    let h : i < length ns / 3 = omega (arith, c.loop-i.invariant, c.loop-i-test) in
    let e : length ms ≡ length ns / 3 = moves_length ns in
    let k : i < length ms = omega arith in
    let q : i < length out = omega (arith, c.requires) in
    let r = get_or c.as_chunks.result.0.now i [] in
    let m : get_or ms i blank ≡ move (get_or r 0 0) (get_or r 1 0) (get_or r 2 0) =
    rw c.as_chunks.ensures.front (moves_at blank ns (length ns / 3) i h (omega arith)) in
    let p : c.play-played.result ≡ play_of now (get_or ms i blank) =
    c.play-played.ensures
    ∙ ap₂ play_of c.loop-i.invariant.3 c.move_in.ensures
    ∙ played_in now (get_or r 0 0) (get_or r 1 0) (get_or r 2 0)
    ∙ ap (play_of now) (sym m) in
    let n : length (answers_to play_of start (take i ms)) ≡ i = answers_length start (take i ms) ∙ length-take-le i ms (omega arith) in (
      omega arith,
      simp length-set c.loop-i.invariant.1,
      rw (
        c.loop-i.invariant.2,
        write_more (answers_to play_of start (take i ms)) out i c.code.result n q,
        answers_more blank start ms i k,
        c.code.ensures,
        p,
      ),
      rw (after_more blank start ms i k, c.unwrap_or-g.ensures, p, c.loop-i.invariant.3),
    )

pub returns : goal.returns
returns c =
    let ns = c.args.moves.now in
    let e : length (moves_in ns) ≡ length ns / 3 = moves_length ns in
    let i : c.loop-i.i ≡ length ns / 3 = omega (arith, c.loop-i.invariant, c.loop-i-test) in
    let a : take c.loop-i.i (moves_in ns) ≡ moves_in ns = take_all c.loop-i.i (moves_in ns) (omega arith) in
    record { result = c.loop-i.invariant.3 ∙ rw a; written = c.loop-i.invariant.2 ∙ rw (a, i) }
