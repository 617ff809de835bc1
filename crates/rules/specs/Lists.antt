-- Functions on lists with which Ordered.antt says the rules.
use Rattle.std.specs.Prelude.{ℕ, zero, suc, ◌+◌, max, Bool, true, false, cond, ◌||◌, eqb}
use mathlib.Core.List.{List, [], ◌∷◌, ◌++◌, foldl}

-- the lists that f gives for the entries, one after the other
unfoldable pub concat_map : {A B : Type 0} → (A → List B) → List A → List B
concat_map f [] = []
concat_map f (x ∷ xs) = f x ++ concat_map f xs

-- the entries that pass
unfoldable pub keep : {A : Type 0} → (A → Bool) → List A → List A
keep p [] = []
keep p (x ∷ xs) = elim (p x) [ true ↦ x ∷ keep p xs | false ↦ keep p xs ]

-- whether x is in the list
unfoldable pub contains : {A : Type 0} → (A → A → Bool) → List A → A → Bool
contains same [] x = false
contains same (y ∷ ys) x = same y x || contains same ys x

-- whether a list has an entry
unfoldable pub some : {A : Type 0} → List A → Bool
some [] = false
some (x ∷ xs) = true

-- how often x is in the list
unfoldable pub times : {A : Type 0} → (A → A → Bool) → List A → A → ℕ
times same [] x = 0
times same (y ∷ ys) x = cond (same y x) 1 0 + times same ys x

-- the list with x at its end, unless x is in it already
unfoldable pub add : {A : Type 0} → (A → A → Bool) → List A → A → List A
add same l x = cond (contains same l x) l (l ++ (x ∷ []))

-- each entry once, where it comes first
unfoldable pub distinct : {A : Type 0} → (A → A → Bool) → List A → List A
distinct same xs = foldl (add same) [] xs

-- the largest number of an entry, 0 where there is none
unfoldable pub best : {A : Type 0} → (A → ℕ) → List A → ℕ
best number [] = 0
best number (x ∷ xs) = max (number x) (best number xs)

-- the entries with the largest number, each once
unfoldable pub longest : {A : Type 0} → (A → A → Bool) → (A → ℕ) → List A → List A
longest same number xs = let k = best number xs in distinct same (keep (λ x. eqb (number x) k) xs)

-- what was found further on; where nothing was, x itself
unfoldable pub or_end : {A : Type 0} → A → List A → List A
or_end x [] = x ∷ []
or_end x (y ∷ ys) = y ∷ ys

-- the ends of all ways from x, depth first; a way has at most n jumps
unfoldable pub followed : {A : Type 0} → (A → List A) → ℕ → A → List A
followed jumps zero x = x ∷ []
followed jumps (suc n) x = or_end x (concat_map (followed jumps n) (jumps x))
