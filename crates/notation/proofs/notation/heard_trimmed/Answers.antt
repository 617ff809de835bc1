-- Text with both separators is malformed however it is split, and other text has but one of them.
use Rattle.std.proofs.Common.{rules}
use Rattle.std.specs.Prelude.{Err}
use mathlib.Core.Path.{◌≡◌, refl, ◌∙◌}
use Rattle.notation.proofs.Reading.{holds_any, separated}
use Rattle.notation.proofs.notation.heard_trimmed.Goals as goal

pub returns-in_err-heard_squares : goal.returns-in_err-heard_squares
returns-in_err-heard_squares c =
    let q : c.from_residual.result ≡ Err c.in_err-heard_squares.field-0.0 = search rules in
    q ∙ separated c.args.s.now _ _ _ refl (c.contains.ensures.value ∙ holds_any 120 c.args.s.now) c.in_err-heard_squares.ensures

pub returns : goal.returns
returns c =
    c.in_form.ensures
    ∙ separated c.args.s.now _ _ _ (c.contains-2.ensures.value ∙ holds_any 45 c.args.s.now)
    (c.contains.ensures.value ∙ holds_any 120 c.args.s.now) c.in_ok-heard_squares.ensures
