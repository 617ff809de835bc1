-- The weight, as it reads back, is in the range.
use mathlib.Core.Path.{◌∙◌}
use Rattle.scores.proofs.Integers.{back, within_test}
use Rattle.scores.proofs.eval.weight_fits.Goals as goal

pub returns : goal.returns
returns c =
    c.contains.ensures.value
    ∙ rw (c.new.ensures.start, c.new.ensures.end, c.new.ensures.exhausted, back c.ranges.weight)
    (within_test 9999 c.args.weight)
