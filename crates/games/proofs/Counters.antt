-- The second counter and the book's second count: a capture or a promotion sets both back, any other move adds one; the counter
-- stops at 32.
use mathlib.Core.Path.{◌≡◌, refl, sym, ap, ap₂, ◌∙◌}
use Prim.Native.Nat.{ℕ, ◌+◌, ◌≤◌, min}
use native.Mathlib.Nat.{min-eq_left, min-eq_right}
use native.Mathlib.Omega.{arith}
use mathlib.Core.Bool.{Bool, true, false, cond, ◌||◌}
use lib.Dec.{leb}
use borrow.Author.Tests.{leb-true, leb-false}
use Rattle.positions.specs.Boards.{Board}
use Rattle.positions.specs.Moves.{is_capture}
use Rattle.positions.specs.Successor.{promotes}
use Rattle.positions.specs.declared.moves.Move.{Move}
use Rattle.games.specs.Book.{takes, is_promotion}
use Rattle.games.specs.Games.{material_after}

-- a count that stops at 32 is one more
one_more : (n : ℕ) → min 32 (min 32 n + 1) ≡ min 32 (n + 1)
one_more n = go (leb 32 n) refl
  where
    go : (t : Bool) → leb 32 n ≡ t → min 32 (min 32 n + 1) ≡ min 32 (n + 1)
    go true e =
        let l = leb-true 32 n e in
        let k : 32 ≤ n + 1 = omega arith in
        ap (λ (k : ℕ). min 32 (k + 1)) (min-eq_left l) ∙ sym (min-eq_left k)
    go false e = let l = leb-false 32 n e in let k : n ≤ 32 = omega arith in ap (λ (k : ℕ). min 32 (k + 1)) (min-eq_right k)

-- the code stops the count at 31 and adds one
pub one_below : (n : ℕ) → min n 31 + 1 ≡ min 32 (n + 1)
one_below n = go (leb 31 n) refl
  where
    go : (t : Bool) → leb 31 n ≡ t → min n 31 + 1 ≡ min 32 (n + 1)
    go true e =
        let l = leb-true 31 n e in
        let k : 32 ≤ n + 1 = omega arith in
        ap (λ (k : ℕ). k + 1) (min-eq_right l) ∙ sym (min-eq_left k)
    go false e =
        let l = leb-false 31 n e in
        let m : n ≤ 31 = omega arith in
        let k : n + 1 ≤ 32 = omega arith in
        ap (λ (k : ℕ). k + 1) (min-eq_left m) ∙ sym (min-eq_right k)

pub second_agrees : (p : Board) (m : Move) (n k : ℕ) → n ≡ min 32 k → is_capture m ≡ takes m → promotes p m ≡ is_promotion p m
    → material_after p m n ≡ min 32 (cond (takes m || is_promotion p m) 0 (k + 1))
unfolding material_after
second_agrees p m n k e t u = ap₂ (λ (x z : Bool). cond (x || z) 0 (min 32 (n + 1))) t u ∙ go (takes m || is_promotion p m)
  where
    go : (t : Bool) → cond t 0 (min 32 (n + 1)) ≡ min 32 (cond t 0 (k + 1))
    go true = refl
    go false = ap (λ (k : ℕ). min 32 (k + 1)) e ∙ one_more k
