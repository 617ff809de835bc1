-- Sets of squares (docs/RULES.md, "The board"). A set is a number below 2 ^ 64. Bit i belongs to it where its binary
-- digit i is 1. Which bits are squares is in Squares.antt.
use Rattle.std.specs.Prelude.{ℕ, zero, suc, ◌-◌, ◌/◌, ◌%◌, ◌^◌, Bool, cond, List, [], ◌∷◌, ◌==◌, bit_and}
use Rattle.std.specs.Int.Count.{ones_in, count_trailing_zeros}

-- whether bit i belongs to s
unfoldable pub has : ℕ → ℕ → Bool
has s i = s / 2 ^ i % 2 == 1

-- how many bits belong to s
unfoldable pub size : ℕ → ℕ
size s = ones_in 64 s

-- the members of a that are not in b
unfoldable pub without : ℕ → ℕ → ℕ
without a b = a - bit_and a b

-- the lowest bit of s, 64 where s is empty
abbrev pub lowest : ℕ → ℕ
lowest s = count_trailing_zeros 64 s

-- the bits of s below n, rising, with i added to each
unfoldable pub members_from : ℕ → ℕ → ℕ → List ℕ
members_from zero i s = []
members_from (suc n) i s = let rest = members_from n (suc i) (s / 2) in cond (s % 2 == 1) (i ∷ rest) rest

-- the bits that belong to s, rising
unfoldable pub members : ℕ → List ℕ
members s = members_from 64 0 s
