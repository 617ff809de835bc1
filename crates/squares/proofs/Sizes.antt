-- Counts of members: the count of ones is the sum of ones, so each law of a count is a disjoint union.
use Rattle.std.proofs.Common.{◌≡◌, ℕ, zero, suc, ◌+◌, ◌/◌, ◌%◌, ◌^◌, ◌<◌, ◌≤◌, Bool, true, false, cond, not, ◌&&◌, eqb, sym, refl, ap, ◌∙◌, ap₂, add_assoc, mod-lt, add_comm, zero-add, arith}
use lib.Arith.{lt-one}
use lib.Bits.{bit_and, bit_or}
use lib.Count.{ones, ones_in, ones_step}
use Rattle.squares.specs.Sets.{has, size, without, lowest}
use Rattle.squares.specs.Folds.{fold_to, over, sum_over}
use Rattle.squares.specs.Squares.{all, on_board}
use Rattle.squares.specs.Computed.{computed}
use Rattle.squares.proofs.Pointwise.{half_lt, has_low, has_half, has_without, without_lt, none_zero, member_lt}
use Rattle.squares.proofs.Members.{lowest_in, lowest_lt}
use Rattle.squares.proofs.Numbers.{all_lt64, has_all}
use Rattle.squares.proofs.Folds.{Parts, fold_first, parts_split, parts_within, parts_add, parts_remove, bit_if, sum_parts, sum_none, sum_bit_if}

-- the language's count of ones, on a word of k bits
pub ones_in_lem : (k n : ℕ) → n < 2 ^ k → ones n ≡ ones_in k n
unfolding ones_in ones
ones_in_lem zero n h = ap ones (lt-one h)
ones_in_lem (suc k) n h = ones_step n ∙ ap (λ (x : ℕ). n % 2 + x) (ones_in_lem k (n / 2) (half_lt k h))

pub ones_size : (s : ℕ) → s < 2 ^ 64 → ones s ≡ size s
unfolding size
ones_size s h = ones_in_lem 64 s h

-- ---- a count is a sum of ones
-- 1 where c holds, else 0
abbrev pub one : Bool → ℕ
one c = cond c 1 0

digit_one : (s d : ℕ) → s % 2 ≡ d → s % 2 ≡ one (has s 0)
digit_one s zero e = e ∙ sym (ap one (has_low s ∙ ap (λ (x : ℕ). eqb x 1) e))
digit_one s (suc zero) e = e ∙ sym (ap one (has_low s ∙ ap (λ (x : ℕ). eqb x 1) e))
digit_one s (suc (suc d)) e = absurd (omega arith)

ones_sum : (n s : ℕ) → ones_in n s ≡ fold_to ◌+◌ 0 (λ i. one (has s i)) n
unfolding ones_in fold_to
ones_sum zero s = refl
ones_sum (suc n) s =
    ap₂ ◌+◌ (digit_one s (s % 2) refl) (ones_sum n (s / 2) ∙ simp has_half)
    ∙ sym (fold_first ◌+◌ 0 add_assoc add_comm zero-add n (λ i. one (has s i)))

pub size_sum : (s : ℕ) → size s ≡ sum_over (λ i. 1) s
unfolding size over
size_sum s = ones_sum 64 s

-- ---- the laws
pub size_parts : {a b c : ℕ} → Parts a b c → size a ≡ size b + size c
size_parts {a} {b} {c} p = size_sum a ∙ sum_parts (λ i. 1) p ∙ sym (ap₂ ◌+◌ (size_sum b) (size_sum c))

pub size_bit_if : (c : Bool) (j : ℕ) → j < 64 → size (bit_if c j) ≡ one c
size_bit_if c j l = size_sum (bit_if c j) ∙ sum_bit_if (λ i. 1) c j l

pub size_zero : size 0 ≡ 0
size_zero = size_sum 0 ∙ sum_none (λ i. 1)

pub size_bit : (j : ℕ) → j < 64 → size (2 ^ j) ≡ 1
size_bit j l = size_bit_if true j l

-- a difference
pub size_without : (a b : ℕ) → a < 2 ^ 64 → b < 2 ^ 64 → size (without a b) + size (bit_and a b) ≡ size a
size_without a b ha hb = sym (size_parts (parts_split a b ha hb))

-- a part and the rest
pub size_within : (a b : ℕ) → a < 2 ^ 64 → b < 2 ^ 64 → ((i : ℕ) → i < 64 → has b i ≡ true → has a i ≡ true) → size (without a b) + size b ≡ size a
size_within a b ha hb f = sym (size_parts (parts_within a b ha hb f))

-- a member added, a member removed
pub size_add : (a j : ℕ) → j < 64 → has a j ≡ false → size (bit_or a (2 ^ j)) ≡ size a + 1
size_add a j l e = size_parts (parts_add a j e) ∙ ap (λ (x : ℕ). size a + x) (size_bit j l)

pub size_remove : (a j : ℕ) → a < 2 ^ 64 → j < 64 → has a j ≡ true → size (without a (2 ^ j)) + 1 ≡ size a
size_remove a j ha l e = omega (arith, size_parts (parts_remove a j ha l e), size_bit j l)

-- a part is no larger, and smaller where a member is missing
pub size_le : (a b : ℕ) → a < 2 ^ 64 → b < 2 ^ 64 → ((i : ℕ) → i < 64 → has b i ≡ true → has a i ≡ true) → size b ≤ size a
size_le a b ha hb f = omega (arith, size_within a b ha hb f)

pub size_lt : (a b j : ℕ) → a < 2 ^ 64 → b < 2 ^ 64 → ((i : ℕ) → i < 64 → has b i ≡ true → has a i ≡ true)
    → has a j ≡ true → has b j ≡ false → size b < size a
size_lt a b j ha hb f p q =
    let l = member_lt 64 a j ha p in
    let rest : has (without a b) j ≡ true = has_without a b ha hb j l ∙ ap₂ (λ (x y : Bool). x && not y) p q in
    omega (arith, size_within a b ha hb f, size_remove (without a b) j (without_lt a b ha) l rest)

-- only the empty set has no members
pub size_none : (s : ℕ) → s < 2 ^ 64 → size s ≡ 0 → s ≡ 0
size_none s h e = none_zero s h (λ i l. go i l (has s i) refl)
  where
    go : (i : ℕ) → i < 64 → (t : Bool) → has s i ≡ t → t ≡ false
    go i l true p = absurd (omega (arith, size_remove s i h l p))
    go i l false p = refl

pub size_some : (s : ℕ) → s < 2 ^ 64 → 0 < s → 0 < size s
size_some s h p = omega (arith, size_remove s (lowest s) h (lowest_lt 64 s p h) (lowest_in 64 s p h))

in_le : (k s : ℕ) → ones_in k s ≤ k
unfolding ones_in
in_le zero s = omega arith
in_le (suc k) s = omega (arith, in_le k (s / 2), mod-lt s Rattle.squares.proofs.Pointwise.two_pos)

pub size_most : (s : ℕ) → size s ≤ 64
unfolding size
size_most s = in_le 64 s

-- ---- the board has 50 squares, and a set of squares no more
size_all : size all ≡ 50
unfolding computed
size_all = refl

pub size_squares : (s : ℕ) → s < 2 ^ 64 → ((i : ℕ) → has s i ≡ true → on_board i ≡ true) → size s ≤ 50
size_squares s h f = omega (arith, size_le all s all_lt64 h (λ i l e. has_all i ∙ f i e), size_all)
