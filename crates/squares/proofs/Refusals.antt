-- Laws on the refusals' numbers and squares. Only `split` looks at them one by one; no other crate does.
use Rattle.std.specs.Prelude.{Err, Ok, Result}
use Rattle.std.proofs.Common.{◌≡◌, ℕ, zero, suc, ◌<◌, ◌≤◌, Bool, true, false, cond, eqb, ltb, refl, arith, ltb-true, eqb-true}
use Rattle.squares.specs.Refusals.{number_of, square_of, unless_of, answer_number_of, refusal_at, refusal}
use Rattle.squares.specs.declared.refusal.Refusal.{Refusal}
use Rattle.squares.specs.declared.refusal.Refusal.TheVariants.{TextTooLong, NoSide, NoColor, BadSquare, BadHubByte, NotFifty, Overlap, ManOnPromotionRow, BadMoveText, BeyondLimit, NoSuchSquare, BadPosition, BadGame, GameOver, NoMoveFits, SeveralFit, TooManyMoves, FenTooLong, SpaceTooShort}
use Rattle.squares.proofs.Below.{below, below_at}

-- a refusal is the one with its number and square, and its number is below 20
split : (e : Refusal) → (refusal_at (number_of e) (square_of e) ≡ e) × (ltb (number_of e) 20 ≡ true)
split TextTooLong = (refl, refl)
split NoSide = (refl, refl)
split NoColor = (refl, refl)
split BadSquare = (refl, refl)
split BadHubByte = (refl, refl)
split NotFifty = (refl, refl)
split (Overlap n) = (refl, refl)
split (ManOnPromotionRow n) = (refl, refl)
split BadMoveText = (refl, refl)
split BeyondLimit = (refl, refl)
split NoSuchSquare = (refl, refl)
split BadPosition = (refl, refl)
split BadGame = (refl, refl)
split GameOver = (refl, refl)
split NoMoveFits = (refl, refl)
split SeveralFit = (refl, refl)
split TooManyMoves = (refl, refl)
split FenTooLong = (refl, refl)
split SpaceTooShort = (refl, refl)

pub refusal_of : (e : Refusal) → refusal_at (number_of e) (square_of e) ≡ e
refusal_of e = (split e).0

-- a number fits a byte
pub number_fits : (e : Refusal) → number_of e < 256
number_fits e = omega (arith, ltb-true (number_of e) 20 (split e).1)

pub answer_fits : {A : Type 0} (a : Result A Refusal) → answer_number_of a < 256
answer_fits (Ok x) = omega arith
answer_fits (Err e) = number_fits e

-- a refusal is no result
pub not_ok : {A B : Type 0} (e : Refusal) {x : A} → ◌≡◌ {A = Result A Refusal} (Err e) (Ok x) → B
not_ok e h = let z : ◌≡◌ {A = ℕ} 0 1 = cc in absurd (omega arith)

-- ---- guards: `e.unless(test)?`

module _ {E : Type 0} (e : E) (test : Bool) where
  -- where the guard lets pass, the test holds
  pub holds : {u : Unit {0}} → ◌≡◌ {A = Result Unit E} (Ok u) (unless_of e test) → test ≡ true
  holds q = go test q
    where
      go : (t : Bool) {u : Unit {0}} → ◌≡◌ {A = Result Unit E} (Ok u) (unless_of e t) → t ≡ true
      go true q = refl
      go false q = cc

  -- where it stops, the test does not hold
  pub fails : {f : E} → ◌≡◌ {A = Result Unit E} (Err f) (unless_of e test) → test ≡ false
  fails q = go test q
    where
      go : (t : Bool) {f : E} → ◌≡◌ {A = Result Unit E} (Err f) (unless_of e t) → t ≡ false
      go true q = cc
      go false q = refl

module _ {A E : Type 0} (e : E) (test : Bool) where
  -- what a function answers where the guard stops it
  pub stopped : (x : Result A E) {f : E} → ◌≡◌ {A = Result Unit E} (Err f) (unless_of e test) → Err f ≡ cond test x (Err e)
  stopped x q = go test q
    where
      go : (t : Bool) {f : E} → ◌≡◌ {A = Result Unit E} (Err f) (unless_of e t) → Err f ≡ cond t x (Err e)
      go true q = cc
      go false q = cc

  -- what it answers where the guard lets pass
  pub passed : (x : Result A E) {u : Unit {0}} → ◌≡◌ {A = Result Unit E} (Ok u) (unless_of e test) → x ≡ cond test x (Err e)
  passed x q = go test q
    where
      go : (t : Bool) {u : Unit {0}} → ◌≡◌ {A = Result Unit E} (Ok u) (unless_of e t) → x ≡ cond t x (Err e)
      go true q = refl
      go false q = cc

-- the refusal with a number from 1 to 19 has that number
pub refusal_number : (n square : ℕ) → 1 ≤ n → n ≤ 19 → number_of (refusal_at n square) ≡ n
unfolding below
refusal_number zero square h k = absurd (omega arith)
refusal_number (suc n) square h k =
    eqb-true (number_of (refusal_at (suc n) square)) (suc n)
    (below_at 19 (λ (i : ℕ). eqb (number_of (refusal_at (suc i) square)) (suc i)) refl n (omega arith))

-- 7 and 8 come with their square
pub overlap_square : (square : ℕ) → square_of (refusal_at 7 square) ≡ square
overlap_square square = refl

pub row_square : (square : ℕ) → square_of (refusal_at 8 square) ≡ square
row_square square = refl

-- every other with 0
pub refusal_square : (n : ℕ) → n ≤ 19 → square_of (refusal n) ≡ 0
unfolding below
refusal_square n h = eqb-true (square_of (refusal n)) 0 (below_at 20 (λ (i : ℕ). eqb (square_of (refusal i)) 0) refl n (omega arith))
