-- Keys: an entry of the table is the key at its bit; the key of a set is that of its squares, and adds up over disjoint unions.
use Rattle.std.proofs.Common.{◌≡◌, ℕ, ◌+◌, ◌*◌, ◌<◌, Bool, true, false, cond, get_or, sym, ap, ap₂, ◌∙◌}
use lib.Bits.{bit_and, bit_xor}
use Rattle.squares.specs.Sets.{has}
use Rattle.squares.specs.Squares.{all, on_board}
use Rattle.squares.specs.Folds.{xor_over}
use Rattle.squares.specs.Keys.{keys, block, key_at, set_key_of}
use Rattle.squares.specs.declared.piece.Color.{Color}
use Rattle.squares.specs.declared.piece.PieceKind.{PieceKind}
use Rattle.squares.proofs.Folds.{Parts, bit_if, xor_parts, xor_bit_if, xor_same, xor_mask}
use Rattle.squares.proofs.Pointwise.{has_and}
use Rattle.squares.proofs.Bools.{and_right}
use Rattle.squares.proofs.Numbers.{all_is, has_all}

-- ---- an entry of the table is the key at its bit
pub key_entry : (c : Color) (k : PieceKind) (i : ℕ) → on_board i ≡ true → get_or keys (64 * block c k + i) 0 ≡ key_at c k i
unfolding key_at
key_entry c k i e = sym (ap (λ (t : Bool). cond t (get_or keys (64 * block c k + i) 0) 0) e)

off_key : (c : Color) (k : PieceKind) (i : ℕ) → on_board i ≡ false → key_at c k i ≡ 0
unfolding key_at
off_key c k i e = ap (λ (t : Bool). cond t (get_or keys (64 * block c k + i) 0) 0) e

-- what the loop over the table comes to
pub table_key : (c : Color) (k : PieceKind) (s : ℕ) → xor_over (λ i. get_or keys (64 * block c k + i) 0) (bit_and s all) ≡ set_key_of c k s
unfolding set_key_of
table_key c k s =
    xor_same (λ i. get_or keys (64 * block c k + i) 0) (key_at c k) (bit_and s all)
    (λ i l e. key_entry c k i (sym (has_all i) ∙ and_right (has s i) (has all i) (sym (has_and s all i) ∙ e)))
    ∙ xor_mask (key_at c k) s all (λ i l e. off_key c k i (sym (has_all i) ∙ e))

-- the same, where n is the number of the block of these keys
pub keyed : (c : Color) (k : PieceKind) (s : ℕ) {n : ℕ} → n ≡ block c k → xor_over (λ i. get_or keys (64 * n + i) 0) (bit_and s 0x003F_F7FE_FFDF_FBFF) ≡ set_key_of c k s
keyed c k s e = ap₂ (λ (n m : ℕ). xor_over (λ i. get_or keys (64 * n + i) 0) (bit_and s m)) e (sym all_is) ∙ table_key c k s

-- ---- the key of a set
pub set_key_parts : (c : Color) (k : PieceKind) {a b d : ℕ} → Parts a b d → set_key_of c k a ≡ bit_xor (set_key_of c k b) (set_key_of c k d)
unfolding set_key_of
set_key_parts c k p = xor_parts (key_at c k) p

pub set_key_bit_if : (c : Color) (k : PieceKind) (t : Bool) (j : ℕ) → j < 64 → set_key_of c k (bit_if t j) ≡ cond t (key_at c k j) 0
unfolding set_key_of
set_key_bit_if c k t j l = xor_bit_if (key_at c k) t j l
