-- The digits that were written are those of the definition.
use mathlib.Core.Path.{refl}
use Rattle.texts.proofs.Overs.{over_as}
use Rattle.wording.proofs.Numerals.{hash_is}
use Rattle.wording.proofs.output.put_hash.Goals as goal

pub returns : goal.returns
returns c =
    let w = c.put_wide.ensures in
    over_as _ _ _ _ (hash_is c.args.n w.k _ c.ranges.n.fits w.count refl) w.written
