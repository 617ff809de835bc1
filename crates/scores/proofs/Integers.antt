-- The signed operations of the code: how large an integer is, and that one below 2 ^ 31 in size fits an i32 and reads back.
use mathlib.Core.Path.{◌≡◌, refl, sym, ap, ap₂, ◌∙◌}
use Prim.Native.Nat.{ℕ, zero, suc, ◌+◌, ◌-◌, ◌*◌, ◌/◌, ◌≤◌, ◌<◌, ◌^◌}
use native.Mathlib.Nat.{add-le-add, mul-le-mul, le_trans}
use native.Mathlib.Omega.{arith}
use mathlib.Core.Bool.{Bool, true, false, ◌&&◌, cond, and-true}
use lib.Dec.{leb, ltb, leb-suc-suc}
use lib.IntN.{ℤ, pos, negsuc, ◌+ℤ◌, ◌-ℤ◌, ◌*ℤ◌, neg_ℤ, sub_ℕ, nat_abs, +ℤ_idl}
use lib.Signed.{mag, lt_z, quot_z}
use borrow.Author.Tests.{ltb-true, ltb-false, lt-ltb, leb-true, le-leb, lt-leb}
use borrow.Author.Rules.{sfits_of}
use mir.Syntax.{w32}
use mir.Val.{SFits, to_z, of_z, sel}
use mir.Facts.{to_z-of_z}
use Rattle.std.proofs.Common.{Less, Equal, Greater}
use Rattle.std.specs.Ordering.{is_le}
use Rattle.scores.specs.Score.{within, Bounded}

-- ---- size
pub abs_neg : (z : ℤ) → nat_abs (neg_ℤ z) ≡ nat_abs z
abs_neg (pos zero) = refl
abs_neg (pos (suc n)) = refl
abs_neg (negsuc n) = refl

abs_sub : (a b : ℕ) → nat_abs (sub_ℕ a b) ≤ a + b
abs_sub a b = go (ltb a b) refl
  where
    go : (t : Bool) → ltb a b ≡ t → nat_abs (cond t (negsuc (b - suc a)) (pos (a - b))) ≤ a + b
    go true e = omega (arith, ltb-true a b e)
    go false e = omega arith

pub abs_add : (x y : ℤ) → nat_abs (x +ℤ y) ≤ nat_abs x + nat_abs y
abs_add (pos a) (pos b) = omega arith
abs_add (pos a) (negsuc b) = abs_sub a (suc b)
abs_add (negsuc a) (pos b) = omega (arith, abs_sub b (suc a))
abs_add (negsuc a) (negsuc b) = omega arith

abs_less : (x y : ℤ) → nat_abs (x -ℤ y) ≤ nat_abs x + nat_abs y
abs_less x y = omega (arith, abs_add x (neg_ℤ y), abs_neg y)

abs_mul : (x y : ℤ) → nat_abs (x *ℤ y) ≡ nat_abs x * nat_abs y
abs_mul (pos a) (pos b) = refl
abs_mul (pos a) (negsuc b) = abs_neg (pos (a * suc b))
abs_mul (negsuc a) (pos b) = abs_neg (pos (suc a * b))
abs_mul (negsuc a) (negsuc b) = refl

pub abs_eighth : (z : ℤ) → nat_abs (quot_z z (pos 8)) ≤ nat_abs z
abs_eighth (pos n) = omega arith
abs_eighth (negsuc n) = omega (arith, abs_neg (pos (suc n / 8)))

-- ---- from -n to n
pub within_le : (n : ℕ) (z : ℤ) → within n z ≡ true → nat_abs z ≤ n
unfolding within
within_le n z e = leb-true (nat_abs z) n e

pub le_within : (n : ℕ) (z : ℤ) → nat_abs z ≤ n → within n z ≡ true
unfolding within
le_within n z h = le-leb (nat_abs z) n h

-- as the code tests it
-- the library's test whether a number is at most another
at_most : (a n : ℕ) (t u : Bool) → ltb a n ≡ t → ltb n a ≡ u → is_le (cond t Less (cond u Greater Equal)) ≡ leb a n
at_most a n true u e f = sym (le-leb a n (omega (arith, ltb-true a n e)))
at_most a n false true e f = sym (lt-leb a n (ltb-true n a f))
at_most a n false false e f = sym (le-leb a n (ltb-false n a f))

pub within_test : (n : ℕ) (z : ℤ)
    → (is_le (cond (lt_z (negsuc n) z) Less (cond (lt_z z (negsuc n)) Greater Equal))
    && is_le (cond (lt_z z (pos (suc n))) Less (cond (lt_z (pos (suc n)) z) Greater Equal))) ≡ within (suc n) z
unfolding within
within_test n (pos a) = at_most a (suc n) (ltb a (suc n)) (ltb (suc n) a) refl refl
within_test n (negsuc a) = and-true _ ∙ at_most a n (ltb a n) (ltb n a) refl refl ∙ sym (leb-suc-suc a n)

-- ---- an i32
mag_le : (z : ℤ) → mag z ≤ nat_abs z
mag_le (pos n) = omega arith
mag_le (negsuc n) = omega arith

pub fits32 : (z : ℤ) → nat_abs z < 2 ^ 31 → SFits w32 z
fits32 z h = sfits_of (omega (arith, mag_le z))

-- a signed local is its bits, read back
abbrev pub held : ℤ → ℤ
held z = to_z w32 (of_z w32 z)

pub back : {z : ℤ} → SFits w32 z → held z ≡ z
back f = to_z-of_z f

pub held_is : (z : ℤ) → nat_abs z < 2 ^ 31 → held z ≡ z
held_is z h = back (fits32 z h)

pub small32 : (n : ℕ) → n < 2 ^ 31 → to_z w32 n ≡ pos n
small32 n h = ap (λ (t : Bool). sel t (pos n) (negsuc (2 ^ 32 - suc n))) (lt-ltb n (2 ^ 31) h)

-- a signed field's test, where the field fits
pub within_read : (n : ℕ) (z : ℤ) (r : Bool) → mag z < 2 ^ 31 → r ≡ within n (held z) → r ≡ within n z
within_read n z r h e = e ∙ ap (within n) (back (sfits_of h))

pub held_within : (n : ℕ) (z : ℤ) → n < 2 ^ 31 → within n z ≡ true → within n (held z) ≡ true
held_within n z l e = ap (within n) (held_is z (omega (arith, within_le n z e))) ∙ e

-- the division of the code, rounded towards zero
pub eighth_fits : (z : ℤ) → nat_abs z < 2 ^ 31 → SFits w32 (quot_z (held z) (pos 8))
eighth_fits z h = rw (held_is z h) (fits32 (quot_z z (pos 8)) (omega (arith, abs_eighth z)))

pub eighth_read : (z : ℤ) → nat_abs z < 2 ^ 31 → held (quot_z (held z) (pos 8)) ≡ quot_z z (pos 8)
eighth_read z h = back (eighth_fits z h) ∙ ap (λ (x : ℤ). quot_z x (pos 8)) (held_is z h)

-- ---- a value with its bound, through each operation
pub itself : (n : ℕ) (z : ℤ) → nat_abs z ≤ n → Bounded n z z
itself n z h = record { is = refl; small = h }

pub fits : {n : ℕ} {z r : ℤ} → Bounded n z r → n < 2 ^ 31 → SFits w32 r
fits {n} {z} {r} b l = fits32 r (omega (arith, b.small))

pub read : {n : ℕ} {z r : ℤ} → Bounded n z r → n < 2 ^ 31 → Bounded n z (held r)
read {n} {z} {r} b l = rw (held_is r (omega (arith, b.small))) b

pub add_of_lem : {n m : ℕ} {x y a b : ℤ} → Bounded n x a → Bounded m y b → n < 2 ^ 31 → m < 2 ^ 31 → Bounded (n + m) (x +ℤ y) (held a +ℤ held b)
add_of_lem {n} {m} {x} {y} {a} {b} p q k l =
    let p' = read p k in let q' = read q l in
    record { is = ap₂ ◌+ℤ◌ p'.is q'.is; small = le_trans (abs_add (held a) (held b)) (add-le-add p'.small q'.small) }

pub less_of : {n m : ℕ} {x y a b : ℤ} → Bounded n x a → Bounded m y b → n < 2 ^ 31 → m < 2 ^ 31 → Bounded (n + m) (x -ℤ y) (held a -ℤ held b)
less_of {n} {m} {x} {y} {a} {b} p q k l =
    let p' = read p k in let q' = read q l in
    record { is = ap₂ ◌-ℤ◌ p'.is q'.is; small = le_trans (abs_less (held a) (held b)) (add-le-add p'.small q'.small) }

-- a weight times a number
pub times_of : (n m : ℕ) (w : ℤ) (a : ℕ) → nat_abs w ≤ n → a ≤ m → n < 2 ^ 31 → m < 2 ^ 31 → Bounded (n * m) (w *ℤ pos a) (held w *ℤ to_z w32 a)
times_of n m w a h k l l' =
    rw (held_is w (omega arith), small32 a (omega arith)) (itself (n * m) (w *ℤ pos a) (rw abs_mul (mul-le-mul h k)))

pub neg_of : {n : ℕ} {z a : ℤ} → Bounded n z a → n < 2 ^ 31 → Bounded n (neg_ℤ z) (pos 0 -ℤ held a)
neg_of {n} {z} {a} p l =
    let p' = read p l in
    record { is = +ℤ_idl (neg_ℤ (held a)) ∙ ap neg_ℤ p'.is; small = rw (+ℤ_idl (neg_ℤ (held a)), abs_neg (held a)) p'.small }

-- the same value by another name
pub renamed : {n : ℕ} {x y r : ℤ} → Bounded n x r → x ≡ y → Bounded n y r
renamed b e = record { is = b.is ∙ e; small = b.small }
