-- `king` ends, since each jump takes one more piece, and records what `king_endings` lists.
use Prim.Native.Nat.{◌-◌}
use Rattle.squares.specs.Sets.{size}
use Rattle.captures.specs.Kings.{skip_of}
use Rattle.captures.specs.Rays.{ray_left}
use Rattle.captures.specs.Record.{note_of}
use Rattle.captures.proofs.Kings.{Rayed, Walked}
use Rattle.captures.proofs.movegen.Captures.+king.Given as goal

-- each jump takes one more
abbrev pub decreases-king : goal.decreases-king
decreases-king g l = 64 - size l.captured

abbrev pub invariant-loop-land : goal.invariant-loop-land
invariant-loop-land g l = Rayed note_of l.them l.empty l.captured l.d l.over l.near l.initial.self l.self l.initial.extended l.extended (ray_left l.land-iterator)

abbrev pub invariant-loop-d : goal.invariant-loop-d
invariant-loop-d g l = Walked note_of l.fn.self.them l.fn.self.empty l.fn.self l.at l.captured (skip_of l.came) l.d l.self l.extended
