-- The refusals of the list.
use Rattle.std.proofs.Common.{rules}
use Rattle.std.specs.Prelude.{Err}
use mathlib.Core.Path.{◌≡◌, ◌∙◌}
use Rattle.notation.proofs.Search.{fit_refused}
use Rattle.notation.proofs.notation.fit.Goals as goal

pub returns-in_err-list : goal.returns-in_err-list
returns-in_err-list c =
    let q : c.from_residual.result ≡ Err c.in_err-list.field-0.0 = search rules in
    q ∙ fit_refused c.args.p c.args.said _ c.in_err-list.ensures
