-- A set without its lowest bit has one bit fewer.
use Rattle.std.proofs.Common.{ℕ, ◌-◌, ◌^◌, ◌<◌, arith}
use lib.Bits.{bit_and}
use Rattle.squares.specs.Sets.{size, lowest}
use Rattle.squares.proofs.Folds.{parts_lowest}
use Rattle.squares.proofs.Members.{lowest_lt}
use Rattle.squares.proofs.Sizes.{size_parts, size_bit, size_zero}
use Rattle.squares.proofs.bitboard.MembersIterator.next.Goals as goal

one_fewer : (s : ℕ) → 0 < s → s < 2 ^ 64 → size (bit_and s (s - 1)) < size s
one_fewer s p h = omega (arith, size_parts (parts_lowest s p h), size_bit (lowest s) (lowest_lt 64 s p h))

pub returns-clause-goes : goal.returns-clause-goes
returns-clause-goes c =
    record {
      on = λ _. (tt, tt, omega (arith, one_fewer c.args.self.now.0 (omega (arith, c.if-set-eq0.false)) (omega arith), size_zero));
      keeps = tt;
      rests = λ _. tt;
    }
