-- Each weight by itself; a struct tells that its fields fit, so that they read back.
use Rattle.std.proofs.Common.{rules}
use Rattle.scores.proofs.Integers.{within_read}
use Rattle.scores.proofs.Scores.{weights_test}
use Rattle.scores.proofs.eval.Classical.fits.Goals as goal

pub returns : goal.returns
returns c =
    let w = c.args.self in
    weights_test w _ _ _ _ _
    (within_read 10000 w.man _ (search rules) c.weight_fits.ensures)
    (within_read 10000 w.king _ (search rules) c.weight_fits-2.ensures)
    (within_read 10000 w.advance _ (search rules) c.weight_fits-3.ensures)
    (within_read 10000 w.center _ (search rules) c.weight_fits-4.ensures)
    (within_read 10000 w.guard _ (search rules) c.weight_fits-5.ensures)
