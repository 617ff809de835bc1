-- The texts of a square are its number in decimal and, for 1 to 9, the number with a 0 before it (docs/RULES.md,
-- "Square texts"). Each is read as that square, and every other text is refused with 4.
use Rattle.std.specs.Prelude.{Err, Ok, Result}
use Prim.Native.Nat.{ℕ, ◌+◌, ◌-◌, ◌*◌, ◌/◌, ◌%◌, ◌≤◌, ◌<◌}
use Prim.Native.Char.{code}
use mathlib.Core.Path.{◌≡◌, refl, ap, ap₂, sym, ◌∙◌}
use mathlib.Core.List.{List, [], ◌∷◌}
use mathlib.Core.Bool.{Bool, true, false, cond, ◌&&◌}
use mathlib.Core.Logic.{◌⊎◌, inl, inr}
use native.Mathlib.Omega.{arith}
use lib.Dec.{leb, ltb}
use borrow.Author.Tests.{leb-true, ltb-true, ltb-false, lt-ltb, le-ltb}
use Rattle.squares.specs.Squares.{is_square}
use Rattle.squares.specs.Refusals.{refusal}
use Rattle.squares.proofs.Bools.{and_left, and_right}
use Rattle.squares.proofs.Numbers.{square_range}
use Rattle.texts.specs.Bytes.{is_digit, in_range, number, read_square, digits}
use Rattle.texts.specs.Parts.{OnSquare}
use Rattle.texts.proofs.Clean.{digits_law}
use Rattle.squares.specs.declared.refusal.Refusal.{Refusal}

-- s is n in decimal or, for n below 10, a 0 and its digit
abbrev pub Printed : ℕ → List ℕ → Type 0
Printed n s = (s ≡ digits n) ⊎ ((n < 10) × (s ≡ code "0" ∷ digits n))

digits_small : (n : ℕ) → n < 10 → digits n ≡ (48 + n) ∷ []
unfolding digits
digits_small n l = rw (lt-ltb n 10 l)

digits_large : (n : ℕ) → 10 ≤ n → digits n ≡ (48 + n / 10) ∷ (48 + n % 10) ∷ []
unfolding digits
digits_large n l = rw (le-ltb n 10 l)

-- ---- each of these texts is read
-- a 0 before one digit changes nothing
zero_before : (n : ℕ) → n < 10 → read_square (code "0" ∷ digits n) ≡ read_square (digits n)
unfolding read_square
zero_before n l = rw (digits_small n l)

pub printed_square : (s : List ℕ) (n : ℕ) → is_square n ≡ true → Printed n s → read_square s ≡ Ok n
printed_square s n q (inl e) = ap read_square e ∙ (digits_law n q).read
printed_square s n q (inr p) = ap read_square p.1 ∙ zero_before n p.0 ∙ (digits_law n q).read

-- ---- no other text is
-- a text is read as a square whose text it is, or it is refused with 4
data Answer (s : List ℕ) : Result ℕ Refusal → Type 0 where
  square : {n : ℕ} → is_square n ≡ true → Printed n s → Answer s (Ok n)
  none : Answer s (Err (refusal 4))

-- the number with these two digits
abbrev value : ℕ → ℕ → ℕ
value a b = (a - 48) * 10 + (b - 48)

abbrev IsDigit : ℕ → Type 0
IsDigit b = (48 ≤ b) × (b ≤ 57)

digit_range : (b : ℕ) → is_digit b ≡ true → IsDigit b
unfolding is_digit
digit_range b e = (leb-true 48 b (and_left _ _ e), leb-true b 57 (and_right (leb 48 b) _ e))

one_printed : (b : ℕ) → IsDigit b → Printed (value 48 b) (b ∷ [])
one_printed b d =
    let e : b ≡ 48 + value 48 b = omega (arith, d) in
    inl (ap (λ (x : ℕ). x ∷ []) e ∙ sym (digits_small (value 48 b) (omega (arith, d))))

two_printed : (a b : ℕ) → IsDigit a → IsDigit b → Printed (value a b) (a ∷ (b ∷ []))
two_printed a b d f = go (ltb (value a b) 10) refl
  where
    two : {x y : ℕ} → a ≡ x → b ≡ y → ◌≡◌ {A = List ℕ} (a ∷ (b ∷ [])) (x ∷ (y ∷ []))
    two p q = ap₂ (λ (x y : ℕ). x ∷ (y ∷ [])) p q

    go : (t : Bool) → ltb (value a b) 10 ≡ t → Printed (value a b) (a ∷ (b ∷ []))
    go true e =
        let l = ltb-true (value a b) 10 e in
        inr (l, two (omega (arith, d, f, l)) (omega (arith, d, f, l)) ∙ ap (λ (x : List ℕ). 48 ∷ x) (sym (digits_small (value a b) l)))
    go false e =
        let l = ltb-false (value a b) 10 e in
        inl (two (omega (arith, d, f, l)) (omega (arith, d, f, l)) ∙ sym (digits_large (value a b) l))

number_answer : (s : List ℕ) (a b : ℕ) → (IsDigit a → IsDigit b → Printed (value a b) s) → Answer s (number a b)
unfolding number in_range
number_answer s a b k = go (is_digit a && is_digit b) (is_square (value a b)) refl refl
  where
    go : (t u : Bool) → (is_digit a && is_digit b) ≡ t → is_square (value a b) ≡ u
        → Answer s (cond t (cond u (Ok (value a b)) (Err (refusal 4))) (Err (refusal 4)))
    go true true p q = square q (k (digit_range a (and_left _ _ p)) (digit_range b (and_right (is_digit a) _ p)))
    go true false p q = none
    go false u p q = none

read_answer : (s : List ℕ) → Answer s (read_square s)
unfolding read_square
read_answer [] = none
read_answer (b ∷ []) = number_answer (b ∷ []) 48 b (λ z d. one_printed b d)
read_answer (a ∷ (b ∷ [])) = number_answer (a ∷ (b ∷ [])) a b (two_printed a b)
read_answer (a ∷ (b ∷ (c ∷ s))) = none

pub square_printed : (s : List ℕ) (n : ℕ) → read_square s ≡ Ok n → (is_square n ≡ true) × Printed n s
square_printed s n e = go (read_square s) (read_answer s) e
  where
    go : (r : Result ℕ Refusal) → Answer s r → r ≡ Ok n → (is_square n ≡ true) × Printed n s
    go (Ok m) (square q p) e = let v : m ≡ n = cc in rw (sym v) (q, p)
    go (Err r) none e = absurd (cc)

pub unprinted_refused : (s : List ℕ) → ((n : ℕ) → is_square n ≡ true → Printed n s → ⊥) → read_square s ≡ Err (refusal 4)
unprinted_refused s h = go (read_square s) (read_answer s)
  where
    go : (r : Result ℕ Refusal) → Answer s r → r ≡ Err (refusal 4)
    go (Ok n) (square q p) = absurd (h n q p)
    go (Err r) none = refl

-- what is read is a square
pub read_on_square : (s : List ℕ) → OnSquare (read_square s)
read_on_square s = go (read_square s) (read_answer s)
  where
    go : (r : Result ℕ Refusal) → Answer s r → OnSquare r
    go (Ok n) (square q p) = square_range n q
    go (Err r) none = tt
