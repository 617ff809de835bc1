-- What was written is put.
use mathlib.Core.Path.{refl, sym, ap, ◌∙◌}
use mathlib.Core.List.{List}
use Prim.Native.Nat.{ℕ}
use Rattle.texts.specs.Lent.{over}
use Rattle.texts.proofs.Overs.{over_none}
use Rattle.replies.proofs.Told.{written_put, written_left}
use Rattle.replies.proofs.answers.put_written.Goals as goal

pub returns-in-Ok : goal.returns-in-Ok
returns-in-Ok g c may t f fits w =
    let e = w _ _ _ refl (record { shown = _; shows = refl; left = _; met = c.write.ensures; leaves = refl }) in
    c.put.ensures ∙ ap (λ (x : List ℕ). over x c.args.out.now) (written_put t _ _ _ may f _ _ fits refl e c.in-Ok.is c.min.ensures)

pub returns-in_default : goal.returns-in_default
returns-in_default g c may t f fits w =
    let e = w _ _ _ refl (record { shown = _; shows = refl; left = _; met = c.write.ensures; leaves = refl }) in
    sym (ap (λ (x : List ℕ). over x c.args.out.now) (written_left t _ _ _ may f _ fits refl e c.in_default.is) ∙ over_none c.args.out.now)
