-- `man` ends, since each jump takes one more piece, and records what `man_endings` lists.
use Rattle.std.proofs.Common.{rules, ◌<◌, ◌^◌}
use Rattle.captures.specs.Record.{note_of}
use Rattle.captures.proofs.Boards.{man_kept, man_on}
use Rattle.captures.proofs.Fewer.{jump_fewer, jump_more}
use Rattle.captures.proofs.Men.{walked_none, walked_past, walked_jump, walked_out, walked_end, jumped}
use Rattle.captures.proofs.movegen.Captures.+man.Goals as goal
use Rattle.captures.proofs.movegen.Captures.+man.Goals.{then-land-ne0, else-land-ne0}

pub loop-d-init : goal.loop-d-init
loop-d-init g t c = walked_none _ _ _ _ _ _

pub with_one-taken-requires : goal.with_one-taken-requires
with_one-taken-requires g t c =
    let b = c.args.self.now in
    let ht : b.them < 2 ^ 64 = search rules in
    jump_more b.them b.empty c.args.captured _ c.difference-untaken.result c.shift.result c.shift-in-loop-d.result c.difference-untaken.ensures c.shift-in-loop-d.ensures ht c.ranges.captured.fits c.if-land-ne0.true

pub loop-d-preserved : goal.loop-d-preserved
loop-d-preserved g t c =
    let a = c.args in
    let b = a.self.now in
    let d = c.loop-d.d in
    let s = c.loop-d.self in
    let kept = man_kept _ _ _ _ _ _ _ _ c.loop-d.invariant in
    let ht : b.them < 2 ^ 64 = search rules in
    let lt : d < 4 = c.loop-d-test.true in
    let j = jumped b.them b.empty a.at a.captured d _ _ _ c.difference-untaken.ensures c.shift.ensures c.shift-in-loop-d.ensures in
    let less = jump_fewer b.them b.empty a.captured _ c.difference-untaken.result c.shift.result c.shift-in-loop-d.result c.difference-untaken.ensures c.shift-in-loop-d.ensures ht c.ranges.captured.fits in
    elim c.if-land-ne0.branch [
      | then-land-ne0 w ↦
          rw (w.self-is, w.extended-is) (walked_jump note_of b.them b.empty b a.at a.captured d s c.loop-d.extended c.loop-d.invariant lt _ _ j w.man.new.self (less w.if-land-ne0.true) w.if-land-ne0.true (man_on b s _ _ _ kept (rw w.with_one-taken.ensures.both at w.man.ensures)))
      | else-land-ne0 w ↦
          rw (w.self-is, w.extended-is) (walked_past note_of b.them b.empty b a.at a.captured d s c.loop-d.extended c.loop-d.invariant lt _ _ j w.if-land-ne0.false)
    ]

pub returns-then-not-extended : goal.returns-then-not-extended
returns-then-not-extended g t c =
    walked_end note_of _ _ _ _ _ c.loop-d.d c.loop-d.self c.record.new.self (rw c.if-not-extended.true at c.loop-d.invariant) c.loop-d-test.false c.record.ensures

pub returns-else-not-extended : goal.returns-else-not-extended
returns-else-not-extended g t c =
    walked_out note_of _ _ _ _ _ c.loop-d.d c.loop-d.self (rw c.if-not-extended.false at c.loop-d.invariant) c.loop-d-test.false
