-- Sums over the members of a set, added, masked and scaled.
use Rattle.std.proofs.Common.{◌≡◌, ℕ, zero, suc, ◌+◌, ◌*◌, ◌^◌, ◌<◌, ◌≤◌, Bool, true, false, cond, ◌&&◌, sym, refl, ap, ◌∙◌, ap₂, add_assoc, add_comm, mul-zero, zero-add, zero-mul, mul-one, mul-add, arith}
use lib.Bits.{bit_and}
use Rattle.squares.specs.Sets.{has, size}
use Rattle.squares.specs.Folds.{fold_to, over, sum_over}
use Rattle.squares.proofs.Bools.{and_left}
use Rattle.squares.proofs.Pointwise.{has_and, and_lt}
use Rattle.squares.proofs.Folds.{over_mask}
use Rattle.squares.proofs.Sizes.{size_sum, size_le}

fold_add : (n : ℕ) (f g h : ℕ → ℕ) → ((i : ℕ) → h i ≡ f i + g i) → fold_to ◌+◌ 0 h n ≡ fold_to ◌+◌ 0 f n + fold_to ◌+◌ 0 g n
unfolding fold_to
fold_add zero f g h e = refl
fold_add (suc n) f g h e = omega (arith, fold_add n f g h e, e n)

fold_scale : (c n : ℕ) (f g : ℕ → ℕ) → ((i : ℕ) → c * f i ≡ g i) → c * fold_to ◌+◌ 0 f n ≡ fold_to ◌+◌ 0 g n
unfolding fold_to
fold_scale c zero f g e = mul-zero c
fold_scale c (suc n) f g e = mul-add c (fold_to ◌+◌ 0 f n) (f n) ∙ ap₂ ◌+◌ (fold_scale c n f g e) (e n)

-- the sum of sums
pub sum_add : (f g : ℕ → ℕ) (s : ℕ) → sum_over (λ i. f i + g i) s ≡ sum_over f s + sum_over g s
unfolding over
sum_add f g s =
    fold_add 64 (λ i. cond (has s i) (f i) 0) (λ i. cond (has s i) (g i) 0) (λ i. cond (has s i) (f i + g i) 0) (λ i. go (has s i) (f i) (g i))
  where
    go : (t : Bool) (x y : ℕ) → cond t (x + y) 0 ≡ cond t x 0 + cond t y 0
    go true x y = refl
    go false x y = refl

-- the sum of nothing
pub sum_zero : (s : ℕ) → sum_over (λ i. 0) s ≡ 0
unfolding over
sum_zero s = sym (fold_scale 0 64 (λ i. 0) (λ i. cond (has s i) 0 0) (λ i. go (has s i))) ∙ zero-mul _
  where
    go : (t : Bool) → 0 * 0 ≡ cond t 0 0
    go true = refl
    go false = refl

-- c for each member within m
pub sum_masked : (c s m : ℕ) → c * size (bit_and s m) ≡ sum_over (λ i. cond (has m i) c 0) s
unfolding over
sum_masked c s m =
    ap (λ (x : ℕ). c * x) (size_sum (bit_and s m))
    ∙ fold_scale c 64 (λ i. cond (has (bit_and s m) i) 1 0) (λ i. cond (has s i) (cond (has m i) c 0) 0)
    (λ i. ap (λ (b : Bool). c * cond b 1 0) (has_and s m i) ∙ go (has s i) (has m i))
  where
    go : (x y : Bool) → c * cond (x && y) 1 0 ≡ cond x (cond y c 0) 0
    go true true = mul-one c
    go true false = mul-zero c
    go false y = mul-zero c

-- a function that gives nothing outside m need look at m only
pub sum_mask : (f : ℕ → ℕ) (s m : ℕ) → ((i : ℕ) → i < 64 → has m i ≡ false → f i ≡ 0) → sum_over f (bit_and s m) ≡ sum_over f s
sum_mask = over_mask ◌+◌ 0 add_assoc add_comm zero-add

pub size_and_le : (s m : ℕ) → s < 2 ^ 64 → size (bit_and s m) ≤ size s
size_and_le s m h = size_le s (bit_and s m) h (and_lt s m h) (λ i l e. and_left (has s i) (has m i) (sym (has_and s m i) ∙ e))
