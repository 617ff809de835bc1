-- The men of each colour on its row; the constants are the rows.
use mathlib.Core.Path.{sym, ap₂}
use lib.Bits.{bit_and, bit_or}
use Rattle.squares.proofs.Numbers.{promotion_white, promotion_black}
use Rattle.positions.specs.Acceptance.{misplaced}
use Rattle.positions.proofs.position.Position.misplaced_men.Goals as goal

pub returns : goal.returns
unfolding misplaced
returns c =
    ap₂ bit_or (ap₂ bit_and c.men-high.ensures (sym promotion_white)) (ap₂ bit_and c.men-low.ensures (sym promotion_black))
