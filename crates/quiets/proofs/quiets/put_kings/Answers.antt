-- Each turn puts in the moves of the lowest king left; where they have no room, neither have all.
use Rattle.std.proofs.Common.{rules, ◌≡◌, ap, ◌∙◌, ℕ}
use Rattle.std.specs.Prelude.{None}
use Rattle.squares.specs.declared.bitboard.Singles.{Singles}
use Rattle.captures.specs.Walks.{up_to}
use Rattle.captures.specs.Lists.{kept}
use Rattle.quiets.specs.Quiets.{put_all, flight_of, flights, king_quiets}
use Rattle.quiets.proofs.Added.{adding_start, adding_turn, adding_stop, adding_done}
use Rattle.quiets.proofs.quiets.put_kings.Goals as goal

pub loop-at-init : goal.loop-at-init
unfolding king_quiets
loop-at-init c = adding_start _ c.args.list.now _ c.args.s.kings (ap (λ (i : Singles). i.0) c.into_iter-at-iterator.ensures.into_iter_gives) (search rules)

pub loop-at-preserved : goal.loop-at-preserved
unfolding flights
loop-at-preserved c =
    let s = c.in-Some.ensures.steps in
    let l = c.loop-at in
    rw s.2
    (adding_turn _ _ l.list l.at-iterator.0 l.invariant c.put_moves.new.list s.0 (c.in_ok-put_moves.ensures ∙ ap (λ (at : ℕ). put_all l.list (up_to (flight_of at c.args.s.empty) 4)) s.1))

pub returns-in_err-put_moves : goal.returns-in_err-put_moves
unfolding flights
returns-in_err-put_moves c =
    let q : c.from_residual.result ≡ None = search rules in
    let s = c.in-Some.ensures.steps in
    let l = c.loop-at in
    ap (kept c.put_moves.new.list) q
    ∙ adding_stop _ _ l.list l.at-iterator.0 l.invariant _ s.0 (c.in_err-put_moves.ensures ∙ ap (λ (at : ℕ). put_all l.list (up_to (flight_of at c.args.s.empty) 4)) s.1)

pub returns : goal.returns
returns c = adding_done _ _ c.loop-at.list c.loop-at.at-iterator.0 c.loop-at.invariant c.in-None.ensures.steps.0
