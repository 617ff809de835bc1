-- Rising lists: their least member, their maps, and that equal members make equal lists.
use Rattle.std.proofs.Common.{◌≡◌, ℕ, suc, ◌<◌, ◌≤◌, true, leb, ◌⊎◌, List, [], ◌∷◌, map, sym, refl, subst, ap₂, inl, inr, arith, le-leb, leb-true}
use mathlib.Core.List.Memᴰ.{cases_cons}
use mathlib.Core.List.Memᴰ.{head}
use mathlib.Core.List.Memᴰ.{not-nil}
use mathlib.Core.List.Memᴰ.{tail}
use mathlib.Core.List.{Memᴰ as Member}
use Rattle.squares.proofs.Bools.{and_left, and_right, and_both}
use Rattle.squares.proofs.Members.{rising}
use Rattle.squares.proofs.Shifts.{up}

-- no member lies below the bound
pub rising_least : (n : ℕ) (l : List ℕ) (z : ℕ) → rising n l ≡ true → Member z l → n ≤ z
unfolding rising
rising_least n [] z e m = absurd (not-nil m)
rising_least n (x ∷ xs) z e m = go (λ k. rising_least (suc x) xs z (and_right (leb n x) (rising (suc x) xs) e) k) (cases_cons m)
  where
    low : n ≤ x
    low = leb-true n x (and_left _ _ e)

    go : (Member z xs → suc x ≤ z) → (z ≡ x) ⊎ Member z xs → n ≤ z
    go ih (inl q) = omega (arith, low)
    go ih (inr k) = omega (arith, low, ih k)

pub rising_head : (n x : ℕ) (xs : List ℕ) → rising n (x ∷ xs) ≡ true → n ≤ x
unfolding rising
rising_head n x xs e = leb-true n x (and_left _ _ e)

pub rising_tail : (n x : ℕ) (xs : List ℕ) → rising n (x ∷ xs) ≡ true → rising (suc x) xs ≡ true
unfolding rising
rising_tail n x xs e = and_right (leb n x) (rising (suc x) xs) e

pub rising_cons : (n x : ℕ) (xs : List ℕ) → n ≤ x → rising (suc x) xs ≡ true → rising n (x ∷ xs) ≡ true
unfolding rising
rising_cons n x xs h e = and_both _ _ (le-leb n x h) e

pub rising_lower : (n m : ℕ) (l : List ℕ) → n ≤ m → rising m l ≡ true → rising n l ≡ true
unfolding rising
rising_lower n m [] h e = refl
rising_lower n m (x ∷ xs) h e = rising_cons n x xs (omega (arith, rising_head m x xs e)) (rising_tail m x xs e)

pub rising_map : (f : ℕ → ℕ) (n : ℕ) (l : List ℕ) → rising n l ≡ true → (lo : ℕ) → ((x : ℕ) → Member x l → lo ≤ f x)
    → ((x y : ℕ) → Member x l → Member y l → x < y → f x < f y) → rising lo (map f l) ≡ true
unfolding rising
rising_map f n [] e lo h up = refl
rising_map f n (x ∷ xs) e lo h up =
    rising_cons lo (f x) (map f xs) (h x (head refl))
    (rising_map f (suc x) xs (rising_tail n x xs e) (suc (f x))
    (λ (y : ℕ) (m : Member y xs). up x y (head refl) (tail m) (rising_least (suc x) xs y (rising_tail n x xs e) m))
    (λ y z m k. up y z (tail m) (tail k)))

-- rising lists with the same members are equal
pub rising_ext : (n : ℕ) (xs ys : List ℕ) → rising n xs ≡ true → rising n ys ≡ true
    → ((z : ℕ) → Member z xs → Member z ys) → ((z : ℕ) → Member z ys → Member z xs) → xs ≡ ys
rising_ext n [] [] p q f g = refl
rising_ext n [] (y ∷ ys) p q f g = absurd (not-nil (g y (head refl)))
rising_ext n (x ∷ xs) [] p q f g = absurd (not-nil (f x (head refl)))
rising_ext n (x ∷ xs) (y ∷ ys) p q f g =
    ap₂ (λ (a : ℕ) (b : List ℕ). a ∷ b) equal
    (rising_ext (suc x) xs ys xs_up (subst (λ u. rising (suc u) ys ≡ true) (sym equal) ys_up)
    (λ z m. past z (rising_least (suc x) xs z xs_up m) (cases_cons (f z (tail m))))
    (λ z m. past' z (rising_least (suc y) ys z ys_up m) (cases_cons (g z (tail m)))))
  where
    xs_up : rising (suc x) xs ≡ true
    xs_up = rising_tail n x xs p

    ys_up : rising (suc y) ys ≡ true
    ys_up = rising_tail n y ys q

    either : (x ≡ y) ⊎ Member x ys → (y ≡ x) ⊎ Member y xs → x ≡ y
    either (inl e) b = e
    either (inr m) (inl e) = sym e
    either (inr m) (inr k) = absurd (omega (arith, rising_least (suc y) ys x ys_up m, rising_least (suc x) xs y xs_up k))

    equal : x ≡ y
    equal = either (cases_cons (f x (head refl))) (cases_cons (g y (head refl)))

    past : (z : ℕ) → suc x ≤ z → (z ≡ y) ⊎ Member z ys → Member z ys
    past z l (inl e) = absurd (omega (arith, equal))
    past z l (inr m) = m

    past' : (z : ℕ) → suc y ≤ z → (z ≡ x) ⊎ Member z xs → Member z xs
    past' z l (inl e) = absurd (omega (arith, equal))
    past' z l (inr m) = m
