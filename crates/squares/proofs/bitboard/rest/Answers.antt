-- `squares & (squares - 1)` loses the lowest bit; the empty set has none to lose, and 0 stays 0.
use Rattle.std.proofs.Common.{◌≡◌, ℕ, zero, suc, ◌<◌, ◌^◌, ◌-◌, sym, ap, ◌∙◌, arith}
use lib.Bits.{bit_and}
use Rattle.squares.specs.Sets.{without, lowest}
use Rattle.squares.specs.Squares.{rest_of}
use Rattle.squares.proofs.Pointwise.{and_lt}
use Rattle.squares.proofs.Members.{clear_lowest, none_without}
use Rattle.squares.proofs.Numbers.{all_is}
use Rattle.squares.proofs.bitboard.rest.Goals as goal

lowest_cleared : (s : ℕ) → s < 2 ^ 64 → bit_and s (s - 1) ≡ without s (2 ^ lowest s)
lowest_cleared zero h = sym (none_without (2 ^ lowest 0))
lowest_cleared (suc n) h = clear_lowest (suc n) (omega arith) h

pub returns : goal.returns
unfolding rest_of
returns c =
    let squares : ℕ = bit_and c.args.set 0x003F_F7FE_FFDF_FBFF in
    rw all_is
    (ap (bit_and squares) c.saturating_sub.ensures ∙ lowest_cleared squares (and_lt c.args.set 0x003F_F7FE_FFDF_FBFF c.ranges.set.fits))
