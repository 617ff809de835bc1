-- The sign, where there is one, then the number without it.
use mathlib.Core.Path.{◌∙◌}
use Rattle.texts.proofs.Overs as laws
use Rattle.wording.proofs.Signs as signs
use Rattle.wording.proofs.output.put_signed.Goals as goal
use Rattle.wording.proofs.output.put_signed.Goals.{then-z-lt0, else-z-lt0}

pub returns : goal.returns
returns c =
    let z = c.args.z in
    let k = c.unsigned_abs.ensures.value in
    elim c.if-z-lt0.branch [
      | then-z-lt0 w ↦
          laws.over_as _ _ _ _ (signs.negative_text z _ c.ranges.z k w.if-z-lt0.true) (laws.over_then _ _ _ _ _ (w.out-is ∙ w.put_byte.ensures) c.put_decimal.ensures)
      | else-z-lt0 w ↦ rw (← w.out-is) (laws.over_as _ _ _ _ (signs.other_text z _ c.ranges.z k w.if-z-lt0.false) c.put_decimal.ensures)
    ]
