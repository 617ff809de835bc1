-- What is still to be put in for the squares left comes to the whole.
use mathlib.Core.Path.{◌≡◌}
use mathlib.Core.List.{map}
use Rattle.captures.specs.Rays.{ray_left}
use Rattle.quiets.specs.Quiets.{put_all, quiet_move, flight_of}
use Rattle.quiets.proofs.quiets.Flyer.put_flight.Given as goal

abbrev pub invariant-loop-to : goal.invariant-loop-to
invariant-loop-to l =
    put_all l.list (map (quiet_move l.fn.self.at) (ray_left l.to-iterator)) ≡ put_all l.fn.list (flight_of l.fn.self.at l.fn.self.empty l.fn.d)
