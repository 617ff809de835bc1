-- Each turn puts in the move to the next square; where it has no room, neither have all.
use Rattle.std.proofs.Common.{rules, ◌≡◌, ap, sym, ◌∙◌, ℕ}
use Rattle.std.specs.Prelude.{None}
use mathlib.Core.List.{List, map}
use Rattle.captures.specs.Lists.{kept, put_of}
use Rattle.captures.specs.Rays.{ray_left}
use Rattle.quiets.specs.Quiets.{put_all, quiet_move, flight_of}
use Rattle.quiets.proofs.Added.{next_in, next_out, all_in}
use Rattle.quiets.proofs.quiets.Flyer.put_flight.Goals as goal

pub loop-to-init : goal.loop-to-init
unfolding flight_of
loop-to-init c =
    ap (λ (xs : List ℕ). put_all c.args.list.now (map (quiet_move c.args.self.at) xs)) (ap ray_left c.into_iter-to-iterator.ensures.into_iter_gives ∙ c.flight-to-items.ensures)

pub loop-to-preserved : goal.loop-to-preserved
loop-to-preserved c =
    let l = c.loop-to in
    let w = ap (λ (xs : List ℕ). put_all l.list (map (quiet_move c.args.self.at) xs)) (sym c.in-Some.ensures.steps) ∙ l.invariant in
    next_in l.list _ _ _ w c.put.new.self (c.in_ok-put.ensures ∙ ap (put_of l.list) c.by_bits.ensures)

pub returns-in_err-put : goal.returns-in_err-put
returns-in_err-put c =
    let q : c.from_residual.result ≡ None = search rules in
    let l = c.loop-to in
    let w = ap (λ (xs : List ℕ). put_all l.list (map (quiet_move c.args.self.at) xs)) (sym c.in-Some.ensures.steps) ∙ l.invariant in
    ap (kept c.put.new.self) q ∙ next_out l.list _ _ _ w c.put.new.self (c.in_err-put.ensures ∙ ap (put_of l.list) c.by_bits.ensures)

pub returns : goal.returns
returns c =
    let l = c.loop-to in
    all_in l.list _ (ap (λ (xs : List ℕ). put_all l.list (map (quiet_move c.args.self.at) xs)) (sym c.in-None.ensures.steps.0) ∙ l.invariant)
