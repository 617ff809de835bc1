-- No move, one, or two and more.
use mathlib.Core.Path.{ap, ◌∙◌}
use denote.Ref.{Bor}
use Rattle.std.specs.Prelude.{Some}
use Rattle.positions.specs.declared.moves.Move.{Move}
use Rattle.notation.proofs.Search.{one_came, more_came}
use Rattle.notation.proofs.notation.only.Goals as goal
use Rattle.notation.proofs.notation.only.Goals.{in-None, in-Some}

pub returns : goal.returns
returns g c l y =
    let steps = g.I.Iterator.next_gives in
    let move = λ (m : Bor Move). m.now in
    let first = c.in_ok-first.ensures.steps in
    elim c.match-next.branch [
      | in-None w ↦ ap Some w.result-is ∙ one_came steps move l c.args.moves c.next.new.self c.next-2.new.self c.in_ok-first.first y first w.in-None.ensures.steps
      | in-Some w ↦
          ap Some w.result-is
          ∙ more_came steps move l c.args.moves c.next.new.self c.next-2.new.self c.in_ok-first.first w.in-Some.field-0 y first w.in-Some.ensures.steps
    ]
