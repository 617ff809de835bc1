-- The members of a set, put one by one, give the set back.
use Prim.Native.Nat.{ℕ, zero, suc, ◌+◌, ◌/◌, ◌%◌, ◌^◌, ◌<◌}
use mathlib.Core.Path.{◌≡◌, refl, sym, ap, ap₂, ◌∙◌}
use mathlib.Core.List.{List, [], ◌∷◌}
use mathlib.Core.Bool.{Bool, true, false, cond, ◌&&◌, ◌||◌}
use native.Mathlib.Omega.{arith}
use native.Mathlib.Nat.{add-zero, add-suc, suc-add, zero-add, not-suc-le-zero, le_of_suc-le-suc}
use lib.Dec.{eqb, ltb}
use lib.Bits.{bit_or, or_lt}
use lib.Pow.{pow-lt}
use borrow.Author.Tests.{eqb-true, eq-eqb, ne_eqb, ltb-true, lt-ltb}
use Rattle.squares.specs.Sets.{has, members, members_from}
use Rattle.squares.proofs.Bools.{and_left, and_right, and_both}
use Rattle.squares.proofs.Pointwise.{has_or, has_bit, has_half, has_low, has_zero, ext}
use Rattle.texts.proofs.ListLaws.{each}

unfoldable pub elem : ℕ → List ℕ → Bool
elem j [] = false
elem j (i ∷ l) = eqb j i || elem j l

-- a with those of l that p takes
unfoldable pub marks : (ℕ → Bool) → ℕ → List ℕ → ℕ
marks p a [] = a
marks p a (i ∷ l) = marks p (cond (p i) (bit_or a (2 ^ i)) a) l

has_put_if : (a i j : ℕ) (t : Bool) → has (cond t (bit_or a (2 ^ i)) a) j ≡ (has a j || (eqb j i && t))
has_put_if a i j true = has_or a (2 ^ i) j ∙ ap (λ (x : Bool). has a j || x) (has_bit i j ∙ and_t (eqb j i))
  where
    and_t : (x : Bool) → x ≡ (x && true)
    and_t true = refl
    and_t false = refl
has_put_if a i j false = or_f (has a j) (eqb j i)
  where
    or_f : (x y : Bool) → x ≡ (x || (y && false))
    or_f true y = refl
    or_f false true = refl
    or_f false false = refl

pub has_marks : (p : ℕ → Bool) (a : ℕ) (l : List ℕ) (j : ℕ) → has (marks p a l) j ≡ (has a j || (elem j l && p j))
unfolding marks elem
has_marks p a [] j = or_f (has a j)
  where
    or_f : (x : Bool) → x ≡ (x || false)
    or_f true = refl
    or_f false = refl
has_marks p a (i ∷ l) j =
    has_marks p (cond (p i) (bit_or a (2 ^ i)) a) l j ∙ ap (λ (x : Bool). x || (elem j l && p j)) (has_put_if a i j (p i))
    ∙ go (has a j) (eqb j i) (elem j l) refl
  where
    four : (x y z t : Bool) → ((x || (y && t)) || (z && t)) ≡ (x || ((y || z) && t))
    four true y z t = refl
    four false true true true = refl
    four false true true false = refl
    four false true false true = refl
    four false true false false = refl
    four false false z t = refl

    three : (x z u t : Bool) → ((x || (false && u)) || (z && t)) ≡ (x || ((false || z) && t))
    three true z u t = refl
    three false z u t = refl

    go : (x y z : Bool) → eqb j i ≡ y → ((x || (y && p i)) || (z && p j)) ≡ (x || ((y || z) && p j))
    go x true z e = ap (λ (t : Bool). (x || (true && t)) || (z && p j)) (ap p (sym (eqb-true j i e))) ∙ four x true z (p j)
    go x false z e = three x z (p i) (p j)

pub marks_lt : (p : ℕ → Bool) (a : ℕ) (l : List ℕ) → a < 2 ^ 64 → each (λ (i : ℕ). ltb i 64) l ≡ true → marks p a l < 2 ^ 64
unfolding marks each
marks_lt p a [] h e = h
marks_lt p a (i ∷ l) h e = marks_lt p (cond (p i) (bit_or a (2 ^ i)) a) l (go (p i)) (and_right (ltb i 64) _ e)
  where
    go : (t : Bool) → cond t (bit_or a (2 ^ i)) a < 2 ^ 64
    go true = or_lt 64 a (2 ^ i) h (pow-lt {i = i} {j = 64} (ltb-true i 64 (and_left (ltb i 64) _ e)))
    go false = h

-- ---- the members of a set
below_from : (n i s j : ℕ) → j < i → elem j (members_from n i s) ≡ false
unfolding members_from elem
below_from zero i s j h = refl
below_from (suc n) i s j h = go (eqb (s % 2) 1) (below_from n (suc i) (s / 2) j (omega arith))
  where
    go : (t : Bool) → elem j (members_from n (suc i) (s / 2)) ≡ false → elem j (cond t (i ∷ members_from n (suc i) (s / 2)) (members_from n (suc i) (s / 2))) ≡ false
    go true e = rw (ne_eqb j i (λ q. omega arith)) e
    go false e = e

elem_from : (n i s k : ℕ) → k < n → elem (i + k) (members_from n i s) ≡ has s k
unfolding members_from elem
elem_from zero i s k h = absurd (not-suc-le-zero h)
elem_from (suc n) i s zero h = ap (λ (j : ℕ). elem j (members_from (suc n) i s)) (add-zero i) ∙ go (eqb (s % 2) 1) refl ∙ sym (has_low s)
  where
    go : (t : Bool) → eqb (s % 2) 1 ≡ t → elem i (cond t (i ∷ members_from n (suc i) (s / 2)) (members_from n (suc i) (s / 2))) ≡ t
    go true e = rw (eq-eqb i i refl)
    go false e = below_from n (suc i) (s / 2) i (omega arith)
elem_from (suc n) i s (suc k) h =
    go (eqb (s % 2) 1) (ap (λ (j : ℕ). elem j (members_from n (suc i) (s / 2))) (add-suc i k ∙ sym (suc-add i k)) ∙ elem_from n (suc i) (s / 2) k (le_of_suc-le-suc h) ∙ has_half s k)
  where
    go : (t : Bool) → elem (i + suc k) (members_from n (suc i) (s / 2)) ≡ has s (suc k)
        → elem (i + suc k) (cond t (i ∷ members_from n (suc i) (s / 2)) (members_from n (suc i) (s / 2))) ≡ has s (suc k)
    go true e = rw (ne_eqb (i + suc k) i (λ q. omega arith)) e
    go false e = e

pub elem_members : (s j : ℕ) → j < 64 → elem j (members s) ≡ has s j
unfolding members
elem_members s j h = ap (λ (x : ℕ). elem x (members_from 64 0 s)) (sym (zero-add j)) ∙ elem_from 64 0 s j h

each_from : (p : ℕ → Bool) (n i s : ℕ) → ((k : ℕ) → k < n → has s k ≡ true → p (i + k) ≡ true) → each p (members_from n i s) ≡ true
unfolding members_from each
each_from p zero i s h = refl
each_from p (suc n) i s h =
    go (eqb (s % 2) 1) refl (each_from p n (suc i) (s / 2) (λ k l e. ap p (suc-add i k ∙ sym (add-suc i k)) ∙ h (suc k) (omega arith) (sym (has_half s k) ∙ e)))
  where
    go : (t : Bool) → eqb (s % 2) 1 ≡ t → each p (members_from n (suc i) (s / 2)) ≡ true → each p (cond t (i ∷ members_from n (suc i) (s / 2)) (members_from n (suc i) (s / 2))) ≡ true
    go true e r = and_both (p i) _ (ap p (sym (add-zero i)) ∙ h 0 (omega arith) (has_low s ∙ e)) r
    go false e r = r

pub each_members : (p : ℕ → Bool) (s : ℕ) → ((i : ℕ) → i < 64 → has s i ≡ true → p i ≡ true) → each p (members s) ≡ true
unfolding members
each_members p s h = each_from p 64 0 s (λ k l e. ap p (zero-add k) ∙ h k l e)

pub members_lt : (s : ℕ) → each (λ (i : ℕ). ltb i 64) (members s) ≡ true
members_lt s = each_members (λ (i : ℕ). ltb i 64) s (λ i l e. lt-ltb i 64 l)

unfoldable pub always : ℕ → Bool
always i = true

-- the members of s are s
pub put_members : (s : ℕ) → s < 2 ^ 64 → marks always 0 (members s) ≡ s
unfolding always
put_members s h =
    ext 64 _ s (marks_lt always 0 (members s) (omega arith) (members_lt s)) h
    (λ i l. has_marks always 0 (members s) i ∙ ap₂ (λ (x y : Bool). x || (y && true)) (has_zero i) (elem_members s i l) ∙ and_t (has s i))
  where
    and_t : (x : Bool) → (x && true) ≡ x
    and_t true = refl
    and_t false = refl

-- the kings among the members of w, and then of b
pub mark_kings : (k w b : ℕ) → k < 2 ^ 64 → ((i : ℕ) → has k i ≡ true → (has w i || has b i) ≡ true)
    → marks (has k) (marks (has k) 0 (members w)) (members b) ≡ k
mark_kings k w b h on =
    ext 64 _ k (marks_lt (has k) _ (members b) (marks_lt (has k) 0 (members w) (omega arith) (members_lt w)) (members_lt b)) h
    (λ i l. has_marks (has k) _ (members b) i
    ∙ ap (λ (x : Bool). x || (elem i (members b) && has k i)) (has_marks (has k) 0 (members w) i)
    ∙ ap₂ (λ (x y : Bool). (has 0 i || (x && has k i)) || (y && has k i)) (elem_members w i l) (elem_members b i l)
    ∙ ap (λ (z : Bool). (z || (has w i && has k i)) || (has b i && has k i)) (has_zero i)
    ∙ go (has w i) (has b i) (has k i) (on i))
  where
    go : (x y z : Bool) → (z ≡ true → (x || y) ≡ true) → ((false || (x && z)) || (y && z)) ≡ z
    go true true true f = refl
    go true true false f = refl
    go true false true f = refl
    go true false false f = refl
    go false true true f = refl
    go false true false f = refl
    go false false true f = f refl
    go false false false f = refl
