-- The lowest member of a set by trailing zeros, the rest by `s & (s - 1)`, and the members as a rising list.
use Rattle.std.proofs.Common.{◌≡◌, ℕ, zero, suc, ◌+◌, ◌-◌, ◌/◌, ◌%◌, ◌^◌, ◌<◌, ◌≤◌, Bool, true, false, cond, not, ◌&&◌, eqb, leb, ◌⊎◌, List, [], ◌∷◌, sym, refl, ap, ◌∙◌, ap₂, inl, inr, suc-le-suc, le_of_suc-le-suc, not-suc-le-zero, add-zero, add-suc, mod-lt, zero-lt-suc, suc-add, zero-add, arith, le-leb, leb-true}
use native.Mathlib.Nat.{sub-zero}
use mathlib.Core.Bool.{and-true, and-false}
use mathlib.Core.List.Memᴰ.{cases_cons}
use mathlib.Core.List.Memᴰ.{head}
use mathlib.Core.List.Memᴰ.{not-nil}
use mathlib.Core.List.Memᴰ.{tail}
use mathlib.Core.List.{Memᴰ as Member}
use lib.Dec.{eqb-suc-suc, eqb-suc-zero}
use lib.Bits.{bit_and, and_shr, and_mod, and_self, and_zero_r}
use lib.Count.{count_trailing_zeros, under}
use lib.Pow.{pow-lt}
use Rattle.squares.specs.Sets.{has, without, lowest, members_from, members}
use Rattle.squares.proofs.Bools.{and_left, and_right, and_both}
use Rattle.squares.proofs.Pointwise.{two_pos, half_lt, has_half, has_low, has_bit, has_without, ext, and_lt, without_lt}

-- ---- the lowest member
under_has : (n k d : ℕ) → n % 2 ≡ d → (n % 2 ≡ 0 → has (n / 2) (count_trailing_zeros k (n / 2)) ≡ true) → has n (under d (count_trailing_zeros k (n / 2))) ≡ true
under_has n k zero e ih = sym (has_half n (count_trailing_zeros k (n / 2))) ∙ ih e
under_has n k (suc d) e ih = let one : n % 2 ≡ 1 = omega (arith, mod-lt n two_pos) in has_low n ∙ ap (λ (x : ℕ). eqb x 1) one

-- it is a member
pub lowest_in : (k n : ℕ) → 0 < n → n < 2 ^ k → has n (count_trailing_zeros k n) ≡ true
unfolding count_trailing_zeros
lowest_in zero n p h = absurd (omega arith)
lowest_in (suc k) n p h = under_has n k (n % 2) refl (λ e. lowest_in k (n / 2) (omega arith) (half_lt k h))

under_below : (n k d j : ℕ) → n % 2 ≡ d → j < under d (count_trailing_zeros k (n / 2)) → ((i : ℕ) → i < count_trailing_zeros k (n / 2) → has (n / 2) i ≡ false) → has n j ≡ false
under_below n k zero zero e l ih = has_low n ∙ ap (λ (x : ℕ). eqb x 1) e
under_below n k zero (suc j) e l ih = sym (has_half n j) ∙ ih j (le_of_suc-le-suc l)
under_below n k (suc d) j e l ih = absurd (not-suc-le-zero l)

-- none lies below it
pub none_below : (k n j : ℕ) → j < count_trailing_zeros k n → has n j ≡ false
unfolding count_trailing_zeros
none_below zero n j l = absurd (not-suc-le-zero l)
none_below (suc k) n j l = under_below n k (n % 2) j refl l (λ i. none_below k (n / 2) i)

under_lt : (n k d : ℕ) → n % 2 ≡ d → (n % 2 ≡ 0 → count_trailing_zeros k (n / 2) < k) → under d (count_trailing_zeros k (n / 2)) < suc k
under_lt n k zero e ih = suc-le-suc (ih e)
under_lt n k (suc d) e ih = zero-lt-suc k

pub lowest_lt : (k n : ℕ) → 0 < n → n < 2 ^ k → count_trailing_zeros k n < k
unfolding count_trailing_zeros
lowest_lt zero n p h = absurd (omega arith)
lowest_lt (suc k) n p h = under_lt n k (n % 2) refl (λ e. lowest_lt k (n / 2) (omega arith) (half_lt k h))

-- ---- `s & (s - 1)`
odd_clear : (s : ℕ) → s % 2 ≡ 1 → (bit_and s (s - 1) / 2 ≡ s / 2) × (bit_and s (s - 1) % 2 ≡ 0)
odd_clear s e =
    let h : (s - 1) / 2 ≡ s / 2 = omega arith in
    let l : (s - 1) % 2 ≡ 0 = omega arith in
    (and_shr s (s - 1) 1 ∙ ap (bit_and (s / 2)) h ∙ and_self (s / 2), and_mod s (s - 1) 1 ∙ ap₂ bit_and e l)

even_clear : (s : ℕ) → 0 < s → s % 2 ≡ 0 → (bit_and s (s - 1) / 2 ≡ bit_and (s / 2) (s / 2 - 1)) × (bit_and s (s - 1) % 2 ≡ 0)
even_clear s p e =
    let h : (s - 1) / 2 ≡ s / 2 - 1 = omega arith in
    (and_shr s (s - 1) 1 ∙ ap (bit_and (s / 2)) h, and_mod s (s - 1) 1 ∙ ap (λ (x : ℕ). bit_and x ((s - 1) % 2)) e)

cleared : (n s d i : ℕ) → 0 < s → s % 2 ≡ d → d < 2
    → (s % 2 ≡ 0 → (j : ℕ) → has (bit_and (s / 2) (s / 2 - 1)) j ≡ (has (s / 2) j && not (eqb j (count_trailing_zeros n (s / 2)))))
    → has (bit_and s (s - 1)) i ≡ (has s i && not (eqb i (under d (count_trailing_zeros n (s / 2)))))
cleared n s zero zero p e l ih =
    has_low (bit_and s (s - 1)) ∙ ap (λ (x : ℕ). eqb x 1) (even_clear s p e).1
    ∙ sym (ap (λ (x : Bool). x && not (eqb 0 (under zero (count_trailing_zeros n (s / 2))))) (has_low s ∙ ap (λ (x : ℕ). eqb x 1) e))
cleared n s zero (suc i) p e l ih =
    sym (has_half (bit_and s (s - 1)) i) ∙ ap (λ (x : ℕ). has x i) (even_clear s p e).0 ∙ ih e i
    ∙ ap₂ (λ (x y : Bool). x && not y) (has_half s i) (sym (eqb-suc-suc i (count_trailing_zeros n (s / 2))))
cleared n s (suc zero) zero p e l ih =
    has_low (bit_and s (s - 1)) ∙ ap (λ (x : ℕ). eqb x 1) (odd_clear s e).1 ∙ sym (and-false (has s 0))
cleared n s (suc zero) (suc i) p e l ih =
    sym (has_half (bit_and s (s - 1)) i) ∙ ap (λ (x : ℕ). has x i) (odd_clear s e).0 ∙ has_half s i
    ∙ sym (ap (λ (x : Bool). has s (suc i) && not x) (eqb-suc-zero i) ∙ and-true (has s (suc i)))
cleared n s (suc (suc d)) i p e l ih = absurd (omega arith)

-- s without its lowest member
pub has_clear : (k s i : ℕ) → 0 < s → s < 2 ^ k → has (bit_and s (s - 1)) i ≡ (has s i && not (eqb i (count_trailing_zeros k s)))
unfolding count_trailing_zeros
has_clear zero s i p h = absurd (omega arith)
has_clear (suc k) s i p h =
    cleared k s (s % 2) i p refl (mod-lt s two_pos) (λ e j. has_clear k (s / 2) j (omega arith) (half_lt k h))

pub clear_lowest : (s : ℕ) → 0 < s → s < 2 ^ 64 → bit_and s (s - 1) ≡ without s (2 ^ lowest s)
clear_lowest s p h =
    let one : 2 ^ lowest s < 2 ^ 64 = pow-lt (lowest_lt 64 s p h) in
    ext 64 _ _ (and_lt s (s - 1) h) (without_lt s (2 ^ lowest s) h) (λ i l.
    has_clear 64 s i p h ∙ sym (has_without s (2 ^ lowest s) h one i l ∙ ap (λ (x : Bool). has s i && not x) (has_bit (lowest s) i)))

pub none_without : (b : ℕ) → without 0 b ≡ 0
unfolding without
none_without b = omega arith

pub without_none : (a : ℕ) → without a 0 ≡ a
unfolding without
without_none a = ap (λ (x : ℕ). a - x) (and_zero_r a) ∙ sub-zero a

-- ---- the list: the first member, and then those of `s & (s - 1)`
first_then : (n i s d : ℕ) → 0 < s → s % 2 ≡ d → d < 2
    → (s % 2 ≡ 0 → members_from n (suc i) (s / 2) ≡ (suc i + count_trailing_zeros n (s / 2)) ∷ members_from n (suc i) (bit_and (s / 2) (s / 2 - 1)))
    → members_from (suc n) i s ≡ (i + under d (count_trailing_zeros n (s / 2))) ∷ members_from (suc n) i (bit_and s (s - 1))
unfolding members_from
first_then n i s zero p e l ih =
    let c = even_clear s p e in
    rw (e, c.0, c.1) (ih e ∙ ap (λ (x : ℕ). x ∷ members_from n (suc i) (bit_and (s / 2) (s / 2 - 1))) (suc-add i (count_trailing_zeros n (s / 2)) ∙ sym (add-suc i (count_trailing_zeros n (s / 2)))))
first_then n i s (suc zero) p e l ih =
    let c = odd_clear s e in
    rw (e, c.0, c.1) (ap (λ (x : ℕ). x ∷ members_from n (suc i) (s / 2)) (sym (add-zero i)))
first_then n i s (suc (suc d)) p e l ih = absurd (omega arith)

members_from_lem : (n i s : ℕ) → 0 < s → s < 2 ^ n → members_from n i s ≡ (i + count_trailing_zeros n s) ∷ members_from n i (bit_and s (s - 1))
unfolding count_trailing_zeros
members_from_lem zero i s p h = absurd (omega arith)
members_from_lem (suc n) i s p h =
    first_then n i s (s % 2) p refl (mod-lt s two_pos) (λ e. members_from_lem n (suc i) (s / 2) (omega arith) (half_lt n h))

pub members_cons : (s : ℕ) → 0 < s → s < 2 ^ 64 → members s ≡ lowest s ∷ members (bit_and s (s - 1))
unfolding members
members_cons s p h = members_from_lem 64 0 s p h ∙ ap (λ (x : ℕ). x ∷ members (bit_and s (s - 1))) (zero-add (lowest s))

pub members_none : members 0 ≡ []
unfolding members members_from
members_none = refl

-- ---- what stands in the list belongs to the set, and what belongs to the set stands in the list
-- bit j stands k places from the start i
record At (s i j : ℕ) : Type 0 where
  k : ℕ
  is : j ≡ i + k
  in_set : has s k ≡ true

of_from : (n i s j : ℕ) → Member j (members_from n i s) → At s i j
unfolding members_from
of_from zero i s j m = absurd (not-nil m)
of_from (suc n) i s j m = go (λ h. of_from n (suc i) (s / 2) j h) (eqb (s % 2) 1) refl m
  where
    up : At (s / 2) (suc i) j → At s i j
    up r = record { k = suc r.k; is = omega (arith, r.is); in_set = sym (has_half s r.k) ∙ r.in_set }

    first : eqb (s % 2) 1 ≡ true → (Member j (members_from n (suc i) (s / 2)) → At (s / 2) (suc i) j) → (j ≡ i) ⊎ Member j (members_from n (suc i) (s / 2)) → At s i j
    first e ih (inl p) = record { k = 0; is = omega arith; in_set = has_low s ∙ e }
    first e ih (inr h) = up (ih h)

    go : (Member j (members_from n (suc i) (s / 2)) → At (s / 2) (suc i) j) → (b : Bool) → eqb (s % 2) 1 ≡ b
        → Member j (cond b (i ∷ members_from n (suc i) (s / 2)) (members_from n (suc i) (s / 2))) → At s i j
    go ih true e h = first e ih (cases_cons h)
    go ih false e h = up (ih h)

in_from : (n i s k j : ℕ) → j ≡ i + k → k < n → has s k ≡ true → Member j (members_from n i s)
unfolding members_from
in_from zero i s k j p l q = absurd (omega arith)
in_from (suc n) i s zero j p l q = let e : j ≡ i = omega arith in rw (sym (has_low s) ∙ q) (head e)
in_from (suc n) i s (suc k) j p l q = go (in_from n (suc i) (s / 2) k j (omega arith) (omega arith) (has_half s k ∙ q)) (eqb (s % 2) 1)
  where
    go : Member j (members_from n (suc i) (s / 2)) → (b : Bool) → Member j (cond b (i ∷ members_from n (suc i) (s / 2)) (members_from n (suc i) (s / 2)))
    go m true = tail m
    go m false = m

pub of_members : (s j : ℕ) → Member j (members s) → has s j ≡ true
unfolding members
of_members s j m = let r = of_from 64 0 s j m in let e : j ≡ r.k = omega (arith, r.is) in ap (has s) e ∙ r.in_set

pub in_members : (s j : ℕ) → j < 64 → has s j ≡ true → Member j (members s)
unfolding members
in_members s j l q = in_from 64 0 s j j (omega arith) l q

-- ---- rising: each member is at least n, and every later one is larger
unfoldable pub rising : ℕ → List ℕ → Bool
rising n [] = true
rising n (x ∷ xs) = leb n x && rising (suc x) xs

rising_from : (n m : ℕ) → n ≤ m → (l : List ℕ) → rising m l ≡ true → rising n l ≡ true
unfolding rising
rising_from n m h [] e = refl
rising_from n m h (x ∷ xs) e =
    and_both _ _ (le-leb n x (omega (arith, leb-true m x (and_left _ _ e)))) (and_right (leb m x) (rising (suc x) xs) e)

from_rising : (n i s : ℕ) → rising i (members_from n i s) ≡ true
unfolding rising members_from
from_rising zero i s = refl
from_rising (suc n) i s = go (from_rising n (suc i) (s / 2)) (eqb (s % 2) 1)
  where
    go : rising (suc i) (members_from n (suc i) (s / 2)) ≡ true → (b : Bool)
        → rising i (cond b (i ∷ members_from n (suc i) (s / 2)) (members_from n (suc i) (s / 2))) ≡ true
    go ih true = and_both _ _ (le-leb i i (omega arith)) ih
    go ih false = rising_from i (suc i) (omega arith) (members_from n (suc i) (s / 2)) ih

pub members_rising : (s : ℕ) → rising 0 (members s) ≡ true
unfolding members
members_rising s = from_rising 64 0 s
