-- Each turn sets the search onto the lowest man left and records its captures, if it has a jump: one step of the fold.
use mathlib.Core.Path.{sym, ◌∙◌}
use Rattle.squares.proofs.Loops.{turn, done}
use Rattle.captures.specs.Men.{men_captures_of}
use Rattle.captures.proofs.Shut.{man_shut}
use Rattle.captures.proofs.Loops.{man_turn}
use Rattle.captures.proofs.pieces.men_captures.Goals as goal

pub loop-at-preserved-then-man_open : goal.loop-at-preserved-then-man_open
loop-at-preserved-then-man_open g c =
    let s = c.in-Some.ensures.steps in
    rw s.2 (turn _ c.loop-at.invariant s.0 (man_turn c.args.empty c.loop-at.s c.man.new.self _ _ s.1 (rw c.set_onto.ensures at c.man.ensures)))

pub loop-at-preserved : goal.loop-at-preserved
loop-at-preserved g c =
    let s = c.in-Some.ensures.steps in
    rw s.2 (turn _ c.loop-at.invariant s.0 (c.set_onto.ensures ∙ man_shut c.args.empty c.loop-at.s _ _ s.1 (sym (rw c.set_onto.ensures at c.man_open.ensures) ∙ c.if-man_open.false)))

pub returns : goal.returns
unfolding men_captures_of
returns g c = done _ c.loop-at.invariant c.in-None.ensures.steps.0
