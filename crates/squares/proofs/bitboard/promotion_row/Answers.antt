-- Each constant is the row, computed.
use Rattle.std.proofs.Common.{sym}
use Rattle.squares.proofs.Numbers.{promotion_white, promotion_black}
use Rattle.squares.proofs.bitboard.promotion_row.Goals as goal

pub returns-in-White : goal.returns-in-White
returns-in-White c = rw c.in-White.is (sym promotion_white)

pub returns-in-Black : goal.returns-in-Black
returns-in-Black c = rw c.in-Black.is (sym promotion_black)
