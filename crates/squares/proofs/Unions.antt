-- Unions over the members of a set: a bit belongs to the union exactly where it belongs to the set of some member.
use Rattle.std.proofs.Common.{◌≡◌, ℕ, zero, suc, ◌^◌, ◌<◌, Bool, true, false, cond, ◌||◌, eqb, sym, refl, ap, ◌∙◌, arith, pow_pos, eqb-true}
use mathlib.Core.Bool.{or-true, false≢true}
use lib.Bits.{bit_or, or_lt}
use borrow.Author.Tests.{eqb-false}
use Rattle.squares.specs.Sets.{has}
use Rattle.squares.specs.Folds.{fold_to, over, union_over}
use Rattle.squares.proofs.Pointwise.{has_or, has_zero}

-- ---- members of a union
-- bit j belongs to the set of the member i of s
pub record Came (f : ℕ → ℕ) (s j : ℕ) : Type 0 where
  pub i : ℕ
  pub below : i < 64
  pub member : has s i ≡ true
  pub there : has (f i) j ≡ true

record Some (f : ℕ → ℕ) (n j : ℕ) : Type 0 where
  i : ℕ
  below : i < n
  there : has (f i) j ≡ true

fold_some : (n : ℕ) (f : ℕ → ℕ) (j : ℕ) → has (fold_to bit_or 0 f n) j ≡ true → Some f n j
unfolding fold_to
fold_some zero f j e = absurd (false≢true (sym (has_zero j) ∙ e))
fold_some (suc n) f j e = go (fold_some n f j) (has (fold_to bit_or 0 f n) j) refl (sym (has_or (fold_to bit_or 0 f n) (f n) j) ∙ e)
  where
    up : Some f n j → Some f (suc n) j
    up r = record { i = r.i; below = omega (arith, r.below); there = r.there }

    go : (has (fold_to bit_or 0 f n) j ≡ true → Some f n j) → (t : Bool) → has (fold_to bit_or 0 f n) j ≡ t → (t || has (f n) j) ≡ true → Some f (suc n) j
    go ih true q h = up (ih q)
    go ih false q h = record { i = n; below = omega arith; there = h }

some_fold : (n : ℕ) (f : ℕ → ℕ) (i j : ℕ) → i < n → has (f i) j ≡ true → has (fold_to bit_or 0 f n) j ≡ true
unfolding fold_to
some_fold zero f i j l e = absurd (omega arith)
some_fold (suc n) f i j l e = has_or (fold_to bit_or 0 f n) (f n) j ∙ go (λ k. some_fold n f i j k e) (eqb i n) refl
  where
    go : (i < n → has (fold_to bit_or 0 f n) j ≡ true) → (t : Bool) → eqb i n ≡ t → (has (fold_to bit_or 0 f n) j || has (f n) j) ≡ true
    go ih true q = ap (λ (x : Bool). has (fold_to bit_or 0 f n) j || x) (ap (λ (k : ℕ). has (f k) j) (sym (eqb-true i n q)) ∙ e) ∙ or-true (has (fold_to bit_or 0 f n) j)
    go ih false q = ap (λ (x : Bool). x || has (f n) j) (ih (omega (arith, eqb-false i n q)))

pub of_union : (f : ℕ → ℕ) (s j : ℕ) → has (union_over f s) j ≡ true → Came f s j
unfolding over
of_union f s j e = go (fold_some 64 (λ i. cond (has s i) (f i) 0) j e)
  where
    at : (r : Some (λ i. cond (has s i) (f i) 0) 64 j) (t : Bool) → has s r.i ≡ t → has (cond t (f r.i) 0) j ≡ true → Came f s j
    at r true q h = record { i = r.i; below = r.below; member = q; there = h }
    at r false q h = absurd (false≢true (sym (has_zero j) ∙ h))

    go : Some (λ i. cond (has s i) (f i) 0) 64 j → Came f s j
    go r = at r (has s r.i) refl r.there

pub in_union : (f : ℕ → ℕ) (s i j : ℕ) → i < 64 → has s i ≡ true → has (f i) j ≡ true → has (union_over f s) j ≡ true
unfolding over
in_union f s i j l p e = some_fold 64 (λ i. cond (has s i) (f i) 0) i j l (ap (λ (t : Bool). has (cond t (f i) 0) j) p ∙ e)

fold_lt : (k n : ℕ) (f : ℕ → ℕ) → ((i : ℕ) → i < n → f i < 2 ^ k) → fold_to bit_or 0 f n < 2 ^ k
unfolding fold_to
fold_lt k zero f h = pow_pos k
fold_lt k (suc n) f h = or_lt k _ _ (fold_lt k n f (λ i l. h i (omega arith))) (h n (omega arith))

pub union_lt : (k : ℕ) (f : ℕ → ℕ) (s : ℕ) → ((i : ℕ) → i < 64 → f i < 2 ^ k) → union_over f s < 2 ^ k
unfolding over
union_lt k f s h = fold_lt k 64 (λ i. cond (has s i) (f i) 0) (λ i l. go (has s i) (f i) (h i l))
  where
    go : (t : Bool) (x : ℕ) → x < 2 ^ k → cond t x 0 < 2 ^ k
    go true x l = l
    go false x l = pow_pos k
