-- The values of a function at the members of a set, joined to one number: by exclusive or for hashes, by sum for
-- scores, by union for the turned board (docs/RULES.md, "Keys and hash", "Score", "Turning the board").
use Rattle.std.specs.Prelude.{ℕ, zero, suc, ◌+◌, cond, bit_or, bit_xor}
use Rattle.squares.specs.Sets.{has}

-- f 0, .., f (n - 1) joined by op, beginning with z
unfoldable pub fold_to : (ℕ → ℕ → ℕ) → ℕ → (ℕ → ℕ) → ℕ → ℕ
fold_to op z f zero = z
fold_to op z f (suc n) = op (fold_to op z f n) (f n)

-- f at the members of s, joined by op
unfoldable pub over : (ℕ → ℕ → ℕ) → ℕ → (ℕ → ℕ) → ℕ → ℕ
over op z f s = fold_to op z (λ i. cond (has s i) (f i) z) 64

-- the exclusive or of f at the members of s
abbrev pub xor_over : (ℕ → ℕ) → ℕ → ℕ
xor_over = over bit_xor 0

-- the sum of f at the members of s
abbrev pub sum_over : (ℕ → ℕ) → ℕ → ℕ
sum_over = over ◌+◌ 0

-- the union of the sets f at the members of s
abbrev pub union_over : (ℕ → ℕ) → ℕ → ℕ
union_over = over bit_or 0
