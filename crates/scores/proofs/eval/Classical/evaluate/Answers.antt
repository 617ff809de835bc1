-- The tests of refusals 12 and 10 in this order, then the score.
use Rattle.std.proofs.Common.{rules}
use Rattle.std.specs.Prelude.{Err}
use mathlib.Core.Path.{◌≡◌, ◌∙◌}
use lib.Dec.{lit<}
use Rattle.squares.specs.declared.refusal.Refusal.TheVariants.{BadPosition, BeyondLimit}
use Rattle.squares.proofs.Refusals.{holds, fails}
use Rattle.scores.proofs.Integers.{read}
use Rattle.scores.proofs.ScoreSums.{refused_12, refused_10, scored_of}
use Rattle.scores.proofs.eval.Classical.evaluate.Goals as goal

pub returns-in_err-unless : goal.returns-in_err-unless
returns-in_err-unless c =
    let q : c.from_residual.result ≡ Err BadPosition = search rules in
    q ∙ refused_12 c.args.self c.args.p c.sound.result c.sound.ensures (fails _ _ c.in_err-unless.ensures)

pub returns-in_err-unless-2 : goal.returns-in_err-unless-2
returns-in_err-unless-2 c =
    let q : c.from_residual-in_err-unless-2.result ≡ Err BeyondLimit = search rules in
    q
    ∙ refused_10 c.args.self c.args.p c.sound.result c.sound.ensures c.fits.result c.fits.ensures (holds _ _ c.in_ok-unless.ensures) (fails _ _ c.in_err-unless-2.ensures)

pub returns : goal.returns
returns c =
    scored_of c.args.self c.args.p c.sound.result c.sound.ensures
    c.fits.result c.fits.ensures (holds _ _ c.in_ok-unless.ensures) _ (holds _ _ c.in_ok-unless-2.ensures) (read c.side_score.ensures (lit< tt)).is
