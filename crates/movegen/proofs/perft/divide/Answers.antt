-- Refusals in the order of docs/REFUSALS.md; what is divided is seen from the position's board.
use lib.Dec.{leb}
use borrow.Author.Tests.{leb-true}
use native.Mathlib.Omega.{arith}
use Rattle.squares.proofs.Refusals.{holds}
use Rattle.movegen.proofs.Generated.{viewed, seen_accepted}
use Rattle.movegen.proofs.perft.divide.Goals as goal

pub split-requires : goal.split-requires
split-requires c =
    let w = viewed c.args.p _ c.in_ok-v.ensures in (
      seen_accepted c.args.p w.0 _ w.1,
      omega (arith, c.saturating_sub.ensures, leb-true _ _ (holds _ (leb c.args.depth 7) c.in_ok-unless.ensures)),
    )
