-- The flights before direction d had room.
use mathlib.Core.Path.{◌≡◌}
use Prim.Native.Nat.{◌≤◌}
use Rattle.std.specs.Prelude.{Ok}
use Rattle.captures.specs.Walks.{up_to}
use Rattle.quiets.specs.Quiets.{put_all, flight_of}
use Rattle.quiets.proofs.quiets.Flyer.put_moves.Given as goal

abbrev pub invariant-loop-d : goal.invariant-loop-d
invariant-loop-d l = (l.d ≤ 4) × (Ok l.list ≡ put_all l.fn.list (up_to (flight_of l.fn.self.at l.fn.self.empty) l.d))
