-- `king` ends, since each jump takes one more piece, and records what `king_endings` lists.
use mathlib.Core.Path.{sym, ap, ◌∙◌}
use Rattle.std.proofs.Common.{rules, ℕ, bit_and, ◌<◌}
use Rattle.squares.specs.Directions.{direction_at}
use Rattle.captures.specs.Kings.{skip_of}
use Rattle.captures.specs.Rays.{far, landings, ray_left}
use Rattle.captures.specs.Record.{note_of}
use Rattle.captures.proofs.Recorded.{kept_trans}
use Rattle.captures.proofs.Boards.{king_kept, king_on, ray_kept}
use Rattle.captures.proofs.Fewer.{jump_fewer, jump_more}
use Rattle.captures.proofs.Kings.{jumped, ray_start, ray_first, ray_step, walked_none, walked_skip, walked_ray, walked_out, walked_end}
use Rattle.captures.proofs.movegen.Captures.+king.Goals as goal
use Rattle.captures.proofs.movegen.Captures.+king.Goals.{then-not-skips+in-None, else-not-skips}

pub loop-d-init : goal.loop-d-init
loop-d-init g t c = walked_none _ _ _ _ _ _ _ (search rules)

pub loop-land-init : goal.loop-land-init
loop-land-init g t c =
    let d = direction_at c.loop-d.d in
    ray_start _ _ _ _ _ _ _ _ _ _ (
    ap ray_left c.into_iter-land-iterator.ensures.into_iter_gives ∙ c.new-land-items.ensures
    ∙ sym (ap (λ (y : ℕ). landings far d c.args.self.now.empty (bit_and y c.args.self.now.empty)) c.shift.ensures)
    )

pub with_one-taken-requires : goal.with_one-taken-requires
with_one-taken-requires g t c =
    let b = c.args.self.now in
    jump_more b.them b.empty c.args.captured _ c.difference-untaken.result c.slide.result c.shift.result c.difference-untaken.ensures c.shift.ensures c.loop-d.invariant.fits c.ranges.captured.fits (ray_first note_of _ _ _ _ _ _ _ _ _ _ _ c.loop-land.invariant _ _ c.in-Some.ensures.steps)

pub loop-land-preserved : goal.loop-land-preserved
loop-land-preserved g t c =
    let a = c.args in
    let b = a.self.now in
    let next = c.in-Some.ensures.steps in
    let kept = king_kept _ _ _ _ _ _ _ _ _ c.loop-d.invariant in
    let on = ray_kept _ _ _ _ _ _ _ _ _ _ _ c.loop-land.invariant in
    let less = jump_fewer b.them b.empty a.captured _ c.difference-untaken.result c.slide.result c.shift.result c.difference-untaken.ensures c.shift.ensures c.loop-d.invariant.fits c.ranges.captured.fits (ray_first note_of _ _ _ _ _ _ _ _ _ _ _ c.loop-land.invariant _ _ next) in
    ray_step note_of _ _ _ _ _ _ _ _ _ _ _ c.loop-land.invariant _ _ next c.king.new.self less (king_on b _ _ _ _ _ (kept_trans kept on) (rw (c.with_one-taken.ensures.both, c.landed.ensures) at c.king.ensures))

pub loop-d-preserved : goal.loop-d-preserved
loop-d-preserved g t c =
    let a = c.args in
    let b = a.self.now in
    let d = c.loop-d.d in
    let lt : d < 4 = c.loop-d-test.true in
    elim c.if-not-skips.branch [
      | then-not-skips+in-None w ↦
          rw (w.self-is, w.extended-is) (walked_ray note_of b.them b.empty b a.at a.captured (skip_of a.came) d c.loop-d.self c.loop-d.extended c.loop-d.invariant lt _ _ w.loop-land.self w.loop-land.extended _ (sym c.skips.ensures ∙ w.if-not-skips.true) (jumped b.them b.empty a.at a.captured d _ _ _ c.difference-untaken.ensures w.slide.ensures w.shift.ensures) w.loop-land.invariant w.in-None.ensures.steps.0)
      | else-not-skips w ↦
          rw (w.self-is, w.extended-is) (walked_skip note_of b.them b.empty b a.at a.captured (skip_of a.came) d c.loop-d.self c.loop-d.extended c.loop-d.invariant lt (sym c.skips.ensures ∙ w.if-not-skips.false))
    ]

pub returns-then-not-extended : goal.returns-then-not-extended
returns-then-not-extended g t c =
    walked_end note_of _ _ _ _ _ _ c.loop-d.d c.loop-d.self c.record.new.self (rw c.if-not-extended.true at c.loop-d.invariant) c.loop-d-test.false c.record.ensures

pub returns-else-not-extended : goal.returns-else-not-extended
returns-else-not-extended g t c =
    walked_out note_of _ _ _ _ _ _ c.loop-d.d c.loop-d.self (rw c.if-not-extended.false at c.loop-d.invariant) c.loop-d-test.false
