-- `man` ends, since each jump takes one more piece, and records what `man_endings` lists.
use Prim.Native.Nat.{◌-◌}
use Rattle.squares.specs.Sets.{size}
use Rattle.captures.specs.Record.{note_of}
use Rattle.captures.proofs.Men.{Walked}
use Rattle.captures.proofs.movegen.Captures.+man.Given as goal

-- each jump takes one more
abbrev pub decreases-man : goal.decreases-man
decreases-man g l = 64 - size l.captured

abbrev pub invariant-loop-d : goal.invariant-loop-d
invariant-loop-d g l = Walked note_of l.fn.self.them l.fn.self.empty l.fn.self l.at l.captured l.d l.self l.extended
