-- The escapes undone; at most 4,097 bytes are read.
use mathlib.Core.Path.{refl, sym}
use lib.Seq.{length-take-le}
use Rattle.requests.proofs.Readings as readings
use Rattle.requests.proofs.reading.unescaped.Goals as goal

pub slice_bounds-read-end : goal.slice_bounds-read-end
slice_bounds-read-end g c = sym (length-take-le _ _ (readings.fits _ _ _ _ refl c.unescape-n.ensures))

pub returns : goal.returns
returns g c = (_, c.read.ensures, readings.cut_part _ _ _ _ refl c.unescape-n.ensures)
