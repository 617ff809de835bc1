use Prim.Native.Nat.{◌-◌}
use Rattle.movegen.specs.Generate.{seen}
use Rattle.movegen.proofs.Counted.{Counting}
use Rattle.movegen.proofs.perft.+count.Given as goal

abbrev pub decreases-count : goal.decreases-count
decreases-count l = l.depth

abbrev pub invariant-loop-mv : goal.invariant-loop-mv
invariant-loop-mv l = Counting (l.depth - 1) (seen l.v) l.sum l.mv-index
