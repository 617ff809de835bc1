-- What a digit is to the library and to the definitions, and numbers digit by digit.
use Rattle.std.specs.Prelude.{None, Some}
use Prim.Native.Nat.{ℕ, ◌+◌, ◌-◌, ◌*◌, ◌≤◌, ◌<◌}
use mathlib.Core.Path.{◌≡◌, refl, ap, sym, ◌∙◌}
use mathlib.Core.List.{List, [], ◌∷◌}
use mathlib.Core.Bool.{Bool, true, false, cond, ◌&&◌, true≢false, false≢true}
use native.Mathlib.Omega.{arith}
use native.Mathlib.Numerals.{add-one}
use lib.ListN.{length, take, drop, get_or, drop_of_length-le}
use lib.Dec.{eqb, leb, ltb}
use borrow.Author.Tests.{le-leb, lt-leb, lt-ltb, le-ltb, leb-true, leb-false, ltb-true, ltb-false}
use Rattle.std.specs.Char.{digit_value}
use Rattle.std.specs.Prelude.{SomeIff}
use Rattle.std.proofs.Math.Seq.{drop-cons}
use Rattle.wording.specs.Numbers.{AtMost, IsDigit, digit_of, value_from, number_in, unsigned_of, without_prefix, positive_of, negative_of, signed_of}
use Rattle.texts.specs.Bytes.{strip}
use lib.Pointwise.{pointwise}
use Rattle.std.specs.declared.option.Option.{Option}

-- ---- digits
module _ (b : ℕ) where
  pub below_digits : b < 48 → digit_of b ≡ 16
  unfolding digit_of
  below_digits h = rw (lt-leb 48 b h, lt-leb 65 b (omega arith), lt-leb 97 b (omega arith))

  pub decimal_digit : 48 ≤ b → b ≤ 57 → digit_of b ≡ b - 48
  unfolding digit_of
  decimal_digit h k = rw (le-leb 48 b h, le-leb b 57 k)

  pub below_capitals : 57 < b → b < 65 → digit_of b ≡ 16
  unfolding digit_of
  below_capitals h k = rw (le-leb 48 b (omega arith), lt-leb b 57 h, lt-leb 65 b k, lt-leb 97 b (omega arith))

  pub capital_digit : 65 ≤ b → b ≤ 70 → digit_of b ≡ b - 65 + 10
  unfolding digit_of
  capital_digit h k = rw (le-leb 48 b (omega arith), lt-leb b 57 (omega arith), le-leb 65 b h, le-leb b 70 k)

  pub below_letters : 70 < b → b < 97 → digit_of b ≡ 16
  unfolding digit_of
  below_letters h k = rw (le-leb 48 b (omega arith), lt-leb b 57 (omega arith), le-leb 65 b (omega arith), lt-leb b 70 h, lt-leb 97 b k)

  pub letter_digit : 97 ≤ b → b ≤ 102 → digit_of b ≡ b - 97 + 10
  unfolding digit_of
  letter_digit h k = rw (le-leb 48 b (omega arith), lt-leb b 57 (omega arith), le-leb 65 b (omega arith), lt-leb b 70 (omega arith), le-leb 97 b h, le-leb b 102 k)

  pub above_letters : 102 < b → digit_of b ≡ 16
  unfolding digit_of
  above_letters h = rw (le-leb 48 b (omega arith), lt-leb b 57 (omega arith), le-leb 65 b (omega arith), lt-leb b 70 (omega arith), le-leb 97 b (omega arith), lt-leb b 102 h)

-- what the standard library finds of such a digit; it reads letters up to Z
past_capitals : (b : ℕ) (t : Bool) → ltb b 91 ≡ t → 70 < b → b < 97 → 16 ≤ digit_value b
past_capitals b true e h k =
    let q : digit_value b ≡ b - 55 = rw (le-ltb b 48 (omega (arith, h)), le-ltb b 58 (omega (arith, h)), le-ltb b 65 (omega (arith, h)), lt-ltb b 91 (ltb-true b 91 e)) in
    omega (arith, q, h)
past_capitals b false e h k =
    let q : digit_value b ≡ 36 = rw (le-ltb b 48 (omega (arith, h)), le-ltb b 58 (omega (arith, h)), le-ltb b 65 (omega (arith, h)), le-ltb b 91 (ltb-false b 91 e), lt-ltb b 97 k) in
    omega (arith, q)

past_letters : (b : ℕ) (t : Bool) → ltb b 123 ≡ t → 102 < b → 16 ≤ digit_value b
past_letters b true e h =
    let q : digit_value b ≡ b - 87 = rw (le-ltb b 48 (omega (arith, h)), le-ltb b 58 (omega (arith, h)), le-ltb b 65 (omega (arith, h)), le-ltb b 91 (omega (arith, h)), le-ltb b 97 (omega (arith, h)), lt-ltb b 123 (ltb-true b 123 e)) in
    omega (arith, q, h)
past_letters b false e h =
    let q : digit_value b ≡ 36 = rw (le-ltb b 48 (omega (arith, h)), le-ltb b 58 (omega (arith, h)), le-ltb b 65 (omega (arith, h)), le-ltb b 91 (omega (arith, h)), le-ltb b 97 (omega (arith, h)), le-ltb b 123 (ltb-false b 123 e)) in
    omega (arith, q)

digit_cases : (b : ℕ) (t : Bool) → ltb b 48 ≡ t → (u : Bool) → leb b 57 ≡ u → (v : Bool) → ltb b 65 ≡ v → (w : Bool) → leb b 70 ≡ w
    → (x : Bool) → ltb b 97 ≡ x → (y : Bool) → leb b 102 ≡ y
    → (digit_value b < 16 → digit_value b ≡ digit_of b) × ((digit_value b < 16 → ⊥) → 15 < digit_of b)
digit_cases b true e u f v g w i x j y k =
    let q : digit_value b ≡ 36 = rw (lt-ltb b 48 (ltb-true b 48 e)) in
    (λ h. absurd (omega (arith, h, q)), λ h. omega (arith, below_digits b (ltb-true b 48 e)))
digit_cases b false e true f v g w i x j y k =
    let l = ltb-false b 48 e in
    let m = leb-true b 57 f in
    let q : digit_value b ≡ b - 48 = rw (le-ltb b 48 l, lt-ltb b 58 (omega (arith, m))) in
    (λ h. q ∙ sym (decimal_digit b l m), λ h. absurd (h (omega (arith, q, m))))
digit_cases b false e false f true g w i x j y k =
    let l = leb-false b 57 f in
    let m = ltb-true b 65 g in
    let q : digit_value b ≡ 36 = rw (le-ltb b 48 (omega (arith, l)), le-ltb b 58 (omega (arith, l)), lt-ltb b 65 m) in
    (λ h. absurd (omega (arith, h, q)), λ h. omega (arith, below_capitals b l m))
digit_cases b false e false f false g true i x j y k =
    let l = ltb-false b 65 g in
    let m = leb-true b 70 i in
    let q : digit_value b ≡ b - 55 = rw (le-ltb b 48 (omega (arith, l)), le-ltb b 58 (omega (arith, l)), le-ltb b 65 l, lt-ltb b 91 (omega (arith, m))) in
    (λ h. omega (arith, q, capital_digit b l m, l), λ h. absurd (h (omega (arith, q, l, m))))
digit_cases b false e false f false g false i true j y k =
    let l = leb-false b 70 i in
    let m = ltb-true b 97 j in
    let q = past_capitals b (ltb b 91) refl l m in
    (λ h. absurd (omega (arith, h, q)), λ h. omega (arith, below_letters b l m))
digit_cases b false e false f false g false i false j true k =
    let l = ltb-false b 97 j in
    let m = leb-true b 102 k in
    let q : digit_value b ≡ b - 87 = rw (le-ltb b 48 (omega (arith, l)), le-ltb b 58 (omega (arith, l)), le-ltb b 65 (omega (arith, l)), le-ltb b 91 (omega (arith, l)), le-ltb b 97 l, lt-ltb b 123 (omega (arith, m))) in
    (λ h. omega (arith, q, letter_digit b l m, l), λ h. absurd (h (omega (arith, q, l, m))))
digit_cases b false e false f false g false i false j false k =
    let l = leb-false b 102 k in
    let q = past_letters b (ltb b 123) refl l in
    (λ h. absurd (omega (arith, h, q)), λ h. omega (arith, above_letters b l))

digit_none : (base b : ℕ) → base ≤ 16 → (t : Bool) → ltb (digit_value b) 16 ≡ t → (digit_value b < base → ⊥)
    → (digit_value b < 16 → digit_value b ≡ digit_of b) × ((digit_value b < 16 → ⊥) → 15 < digit_of b) → base ≤ digit_of b
digit_none base b k true e h w = omega (arith, h, w.0 (ltb-true (digit_value b) 16 e))
digit_none base b k false e h w = omega (arith, k, w.1 (λ l. omega (arith, l, ltb-false (digit_value b) 16 e)))

pub digit_found : (base b : ℕ) (r : Option ℕ) → base ≤ 16 → SomeIff r (digit_value b < base) (digit_value b) → IsDigit base (digit_of b) r
digit_found base b (Some d) k h =
    let w = digit_cases b (ltb b 48) refl (leb b 57) refl (ltb b 65) refl (leb b 70) refl (ltb b 97) refl (leb b 102) refl in
    (h.1 ∙ w.0 (omega (arith, h.0, k)), omega (arith, h.0, h.1))
digit_found base b None k h =
    let w = digit_cases b (ltb b 48) refl (leb b 57) refl (ltb b 65) refl (leb b 70) refl (ltb b 97) refl (leb b 102) refl in
    digit_none base b k (ltb (digit_value b) 16) refl h w

-- ---- numbers
pub number_none : (base limit : ℕ) (s : List ℕ) → length s ≡ 0 → number_in base limit s ≡ None
unfolding number_in
number_none base limit [] e = refl
number_none base limit (b ∷ s) e = absurd (omega arith)

pub number_some : (base limit : ℕ) (s : List ℕ) → (length s ≡ 0 → ⊥) → number_in base limit s ≡ value_from base limit 0 s
unfolding number_in
number_some base limit [] e = absurd (e refl)
number_some base limit (b ∷ s) e = refl

both : (t : Bool) (p : Option ℕ) → cond (t && false) p None ≡ None
both true p = refl
both false p = refl

module _ (base limit v : ℕ) (s : List ℕ) (i : ℕ) (h : i < length s) where
  pub no_digit : base ≤ digit_of (get_or s i 0) → value_from base limit v (drop i s) ≡ None
  unfolding value_from
  no_digit k = rw (drop-cons s i 0 h, le-ltb (digit_of (get_or s i 0)) base k)

  pub past_limit : limit < v * base + digit_of (get_or s i 0) → value_from base limit v (drop i s) ≡ None
  unfolding value_from
  past_limit k = rw (drop-cons s i 0 h, lt-leb (v * base + digit_of (get_or s i 0)) limit k) (both (ltb (digit_of (get_or s i 0)) base) _)

  pub next_digit : (w : ℕ) → w ≡ v * base + digit_of (get_or s i 0) → digit_of (get_or s i 0) < base → w ≤ limit → value_from base limit v (drop i s) ≡ value_from base limit w (drop (i + 1) s)
  unfolding value_from
  next_digit w e k l = rw (drop-cons s i 0 h, e, lt-ltb (digit_of (get_or s i 0)) base k, le-leb (v * base + digit_of (get_or s i 0)) limit (omega (arith, e)), add-one i)

pub value_end : (base limit v : ℕ) (s : List ℕ) (i : ℕ) → length s ≤ i → value_from base limit v (drop i s) ≡ Some v
unfolding value_from
value_end base limit v s i h = rw (drop_of_length-le s h)

-- both clauses of the contract of `number` where there is no number
pub no_number : (base limit : ℕ) (s : List ℕ) (r : Option ℕ) → number_in base limit s ≡ None → r ≡ None → (r ≡ number_in base limit s) × AtMost limit r
no_number base limit s (Some n) h e = absurd (let z : ◌≡◌ {A = ℕ} 0 1 = cc in omega arith)
no_number base limit s None h e = (sym h, tt)

-- ---- without every 0x at the start
prefixed : (q : Bool) (a b : ℕ) (t : List ℕ) → List ℕ
prefixed q a b t = elim q [ true ↦ without_prefix t | false ↦ a ∷ (b ∷ t) ]

pair : (a b : ℕ) (t : List ℕ) → without_prefix (a ∷ (b ∷ t)) ≡ prefixed (eqb a 48 && eqb b 120) a b t
unfolding without_prefix prefixed
pair a b t = refl

pub prefix_next : (s t : List ℕ) → pointwise eqb (take 2 s) (48 ∷ (120 ∷ [])) ≡ true → t ≡ drop 2 s → without_prefix s ≡ without_prefix t
unfolding prefixed
prefix_next [] t h e = absurd (false≢true h)
prefix_next (a ∷ []) t h e = go (eqb a 48) h
  where
    go : (p : Bool) → (p && false) ≡ true → without_prefix (a ∷ []) ≡ without_prefix t
    go true k = absurd (false≢true k)
    go false k = absurd (false≢true k)
prefix_next (a ∷ (b ∷ s)) t h e = pair a b s ∙ go (eqb a 48) (eqb b 120) h ∙ ap without_prefix (sym e)
  where
    go : (p q : Bool) → (p && (q && true)) ≡ true → prefixed (p && q) a b s ≡ without_prefix s
    go true true k = refl
    go true false k = absurd (false≢true k)
    go false q k = absurd (false≢true k)

pub prefix_end : (s : List ℕ) → pointwise eqb (take 2 s) (48 ∷ (120 ∷ [])) ≡ false → without_prefix s ≡ s
unfolding without_prefix prefixed
prefix_end [] h = refl
prefix_end (a ∷ []) h = refl
prefix_end (a ∷ (b ∷ s)) h = pair a b s ∙ go (eqb a 48) (eqb b 120) h
  where
    go : (p q : Bool) → (p && (q && true)) ≡ false → prefixed (p && q) a b s ≡ a ∷ (b ∷ s)
    go true true k = absurd (true≢false k)
    go true false k = refl
    go false q k = refl

-- ---- signs
pub signed_minus : (s t : List ℕ) → pointwise eqb (take 1 s) (45 ∷ []) ≡ true → t ≡ drop 1 s → signed_of s ≡ negative_of (number_in 10 4294967295 t)
unfolding signed_of
signed_minus [] t h e = absurd (false≢true h)
signed_minus (b ∷ s) t h e = go (eqb b 45) h
  where
    go : (p : Bool) → (p && true) ≡ true → cond p (negative_of (number_in 10 4294967295 s)) (positive_of (number_in 10 4294967295 (strip 43 (b ∷ s)))) ≡ negative_of (number_in 10 4294967295 t)
    go true k = ap (λ (x : List ℕ). negative_of (number_in 10 4294967295 x)) (sym e)
    go false k = absurd (false≢true k)

pub signed_plus : (s : List ℕ) → pointwise eqb (take 1 s) (45 ∷ []) ≡ false → signed_of s ≡ positive_of (unsigned_of s)
unfolding signed_of unsigned_of number_in strip
signed_plus [] h = refl
signed_plus (b ∷ s) h = go (eqb b 45) h
  where
    go : (p : Bool) → (p && true) ≡ false → cond p (negative_of (number_in 10 4294967295 s)) (positive_of (number_in 10 4294967295 (strip 43 (b ∷ s)))) ≡ positive_of (number_in 10 4294967295 (strip 43 (b ∷ s)))
    go true k = absurd (true≢false k)
    go false k = refl
