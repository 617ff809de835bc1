-- Lists without doubles: parts, images, members of a set, the directions.
use mathlib.Core.Path.{◌≡◌, refl, sym, subst}
use Prim.Native.Nat.{ℕ, suc}
use native.Mathlib.Omega.{arith}
use mathlib.Core.Bool.{Bool, true, false}
use mathlib.Core.List.Memᴰ.{append_cases as in-cases}
use mathlib.Core.List.Memᴰ.{head}
use mathlib.Core.List.Memᴰ.{tail}
use mathlib.Core.List.{List, [], ◌∷◌, ◌++◌, map, Memᴰ as Member}
use mathlib.Core.Logic.{◌⊎◌, inl, inr}
use Rattle.squares.specs.declared.piece.Color.{Color}
use Rattle.squares.specs.declared.piece.Color.TheVariants.{White, Black}
use Rattle.squares.specs.Directions.{index_of}
use Rattle.squares.specs.Sets.{members}
use Rattle.squares.proofs.Members.{rising, members_rising}
use Rattle.rules.specs.Lists.{concat_map, keep}
use Rattle.rules.specs.Ordered.{directions}
use Rattle.rules.specs.Rules.{forward}
use Rattle.rules.proofs.Held.{Distinct, nil, cons}
use Rattle.rules.proofs.Lists.{of_concat_map, in_map, of_map, keep_yes, keep_no, of_keep}
use Rattle.squares.proofs.Rising.{rising_least, rising_tail}

module _ {A : Type 0} where
  pub append_once : (xs ys : List A) → Distinct xs → Distinct ys → ((z : A) → Member z xs → Member z ys → ⊥) → Distinct (xs ++ ys)
  append_once [] ys p q f = q
  append_once (x ∷ xs) ys (cons h p) q f = cons (λ m. go (in-cases xs m)) (append_once xs ys p q (λ z m n. f z (tail m) n))
    where
      go : Member x xs ⊎ Member x ys → ⊥
      go (inl m) = h m
      go (inr m) = f x (head refl) m

  pub keep_once : (p : A → Bool) (xs : List A) → Distinct xs → Distinct (keep p xs)
  unfolding keep
  keep_once p [] d = nil
  keep_once p (x ∷ xs) (cons h d) = go (p x) refl (keep_once p xs d)
    where
      go : (b : Bool) → p x ≡ b → Distinct (keep p xs) → Distinct (keep p (x ∷ xs))
      go true e k = rw (keep_yes p x xs e) (cons (λ m. h (of_keep p xs m).0) k)
      go false e k = rw (keep_no p x xs e) k

module _ {A B : Type 0} where
  pub map_once : (f : A → B) (xs : List A) → ((x y : A) → f x ≡ f y → x ≡ y) → Distinct xs → Distinct (map f xs)
  map_once f [] inj d = nil
  map_once f (x ∷ xs) inj (cons h d) =
      cons (λ m. let r = of_map f xs m in h (subst (λ z. Member z xs) (sym (inj x r.0 r.2)) r.1)) (map_once f xs inj d)

  unmap_once : (f : A → B) (xs : List A) → Distinct (map f xs) → Distinct xs
  unmap_once f [] d = nil
  unmap_once f (x ∷ xs) (cons h d) = cons (λ m. h (in_map f m)) (unmap_once f xs d)

  pub concat_map_once : (f : A → List B) (xs : List A) → Distinct xs → ((x : A) → Member x xs → Distinct (f x))
      → ((x y : A) (z : B) → Member x xs → Member y xs → Member z (f x) → Member z (f y) → x ≡ y) → Distinct (concat_map f xs)
  unfolding concat_map
  concat_map_once f [] d p q = nil
  concat_map_once f (x ∷ xs) (cons h d) p q =
      append_once (f x) (concat_map f xs) (p x (head refl)) (concat_map_once f xs d (λ y m. p y (tail m)) (λ y u z m n. q y u z (tail m) (tail n)))
      (λ z m n. let r = of_concat_map f xs n in h (subst (λ y. Member y xs) (sym (q x r.0 z (head refl) (tail r.1) m r.2)) r.1))

-- ---- the members of a set
rising_once : (n : ℕ) (l : List ℕ) → rising n l ≡ true → Distinct l
rising_once n [] e = nil
rising_once n (x ∷ xs) e =
    cons (λ (m : Member x xs). omega (arith, rising_least (suc x) xs x (rising_tail n x xs e) m)) (rising_once (suc x) xs (rising_tail n x xs e))

pub members_once : (s : ℕ) → Distinct (members s)
members_once s = rising_once 0 (members s) (members_rising s)

-- ---- directions: their indices rise
pub directions_once : Distinct directions
unfolding directions rising
directions_once = unmap_once index_of directions (rising_once 0 (map index_of directions) refl)

pub forward_once : (c : Color) → Distinct (forward c)
unfolding forward rising
forward_once White = unmap_once index_of (forward White) (rising_once 0 (map index_of (forward White)) refl)
forward_once Black = unmap_once index_of (forward Black) (rising_once 0 (map index_of (forward Black)) refl)
