-- Each turn puts in the moves of one flight; where they have no room, neither have all.
use Rattle.std.proofs.Common.{rules, ◌≡◌, refl, ap, ◌∙◌, arith, ℕ}
use Rattle.std.specs.Prelude.{None}
use Rattle.captures.specs.Lists.{kept}
use Rattle.captures.specs.Walks.{up_to}
use Rattle.quiets.specs.Quiets.{put_all, flight_of}
use Rattle.quiets.proofs.Added.{some_in, some_out}
use Rattle.quiets.proofs.quiets.Flyer.put_moves.Goals as goal

pub loop-d-init : goal.loop-d-init
unfolding up_to put_all
loop-d-init c = (omega arith, refl)

pub loop-d-preserved : goal.loop-d-preserved
loop-d-preserved c =
    let k = c.args.self in
    let l = c.loop-d in
    (omega (arith, c.loop-d-test.true), some_in (flight_of k.at k.empty) c.args.list.now l.d l.list l.invariant.1 c.put_flight.new.list c.in_ok-put_flight.ensures)

pub returns-in_err-put_flight : goal.returns-in_err-put_flight
returns-in_err-put_flight c =
    let q : c.from_residual.result ≡ None = search rules in
    let k = c.args.self in
    let l = c.loop-d in
    ap (kept c.put_flight.new.list) q
    ∙ some_out (flight_of k.at k.empty) c.args.list.now l.d l.list l.invariant.1 c.put_flight.new.list 4 (omega (arith, c.loop-d-test.true)) c.in_err-put_flight.ensures

pub returns : goal.returns
returns c =
    let k = c.args.self in
    let e : c.loop-d.d ≡ 4 = omega (arith, c.loop-d.invariant.0, c.loop-d-test.false) in
    c.loop-d.invariant.1 ∙ ap (λ (n : ℕ). put_all c.args.list.now (up_to (flight_of k.at k.empty) n)) e
