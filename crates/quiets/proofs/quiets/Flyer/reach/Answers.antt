-- The squares of one ray are counted; they are at most 64.
use Rattle.std.proofs.Common.{◌∙◌, arith, inr}
use Rattle.std.proofs.lemmas.Iterator.Consumers.{count_from_yields_List, YieldsList-from_first}
use Rattle.squares.specs.Directions.{direction_at}
use Rattle.captures.specs.Rays.{ray_of, ray_left}
use Rattle.captures.proofs.Rays.{ray_most}
use Rattle.quiets.proofs.Counts.{flight_length}
use Rattle.quiets.proofs.Flights.{count_fits}
use Rattle.quiets.proofs.quiets.Flyer.reach.Goals as goal

pub count-requires-clause-fits : goal.count-requires-clause-fits
count-requires-clause-fits c =
    let k = c.args.self in
    let all = ray_of (direction_at c.args.d) k.empty k.at in
    inr (count_fits (YieldsList-from_first (λ x. x) ray_left all c.flight.ensures) (omega (arith, ray_most (direction_at c.args.d) k.empty k.at)))

pub overflow_cast-result : goal.overflow_cast-result
overflow_cast-result c =
    let k = c.args.self in
    let all = ray_of (direction_at c.args.d) k.empty k.at in
    omega (
      arith,
      count_from_yields_List c.flight.result c.count.result c.count.ensures.ran (YieldsList-from_first (λ x. x) ray_left all c.flight.ensures),
      ray_most (direction_at c.args.d) k.empty k.at,
    )

pub returns : goal.returns
returns c =
    let k = c.args.self in
    let all = ray_of (direction_at c.args.d) k.empty k.at in
    count_from_yields_List c.flight.result c.count.result c.count.ensures.ran (YieldsList-from_first (λ x. x) ray_left all c.flight.ensures)
    ∙ flight_length k.at k.empty c.args.d
