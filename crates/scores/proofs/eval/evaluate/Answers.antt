-- The same with the default weights, whose scores are limited.
use mathlib.Core.Path.{◌≡◌, ap, ◌∙◌}
use Rattle.scores.specs.Score.{default, evaluate_of, limited}
use Rattle.scores.specs.declared.eval.Classical.{Classical}
use Rattle.scores.proofs.ScoreBounds.{evaluate_limited}
use Rattle.scores.proofs.eval.evaluate.Goals as goal

pub returns : goal.returns
returns c =
    let p = c.args.p in
    let is : c.evaluate.result ≡ evaluate_of default p = c.evaluate.ensures ∙ ap (λ (w : Classical). evaluate_of w p) c.default.ensures in
    record { value = is; result_value = ap limited is ∙ evaluate_limited p }
