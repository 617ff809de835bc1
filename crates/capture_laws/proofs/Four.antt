-- A walk of the code over the four directions is a walk of the rules over theirs, and where it finds nothing the sequence ends.
use mathlib.Core.Path.{◌≡◌, refl, sym, ap, ap₂, ◌∙◌}
use Prim.Native.Nat.{ℕ}
use mathlib.Core.Bool.{Bool, true, false, ◌||◌, cond}
use mathlib.Core.List.Memᴰ.{not-nil}
use mathlib.Core.List.{List, [], ◌∷◌, ◌++◌, map, map-append, append_assoc, append-nil, Memᴰ as Member}
use Rattle.squares.specs.Directions.{Direction, up_left, up_right, down_left, down_right, index_of}
use Rattle.captures.specs.Walks.{up_to, any_up_to}
use Rattle.rules.specs.Lists.{concat_map, or_end, some}
use Rattle.rules.proofs.Lists.{some_append}
use Rattle.rules.specs.Ordered.{directions}

-- a list with a member is not empty, and is not with more behind it
pub some_member : {A : Type 0} (xs ys : List A) {x : A} → Member x xs → some (xs ++ ys) ≡ true
unfolding some
some_member [] ys m = absurd (not-nil m)
some_member (x ∷ xs) ys m = refl

module _ {A B : Type 0} (f : A → B) (p : ℕ → Bool) (g : ℕ → List B) (h : Direction → List A)
    (flags : (d : Direction) → p (index_of d) ≡ some (h d)) (lists : (d : Direction) → g (index_of d) ≡ map f (h d)) where
  any_four : any_up_to p 4 ≡ some (concat_map h directions)
  unfolding any_up_to concat_map directions some
  any_four =
      ap₂ (λ (a b : Bool). a || b) (ap₂ (λ (a b : Bool). a || b) (ap₂ (λ (a b : Bool). a || b) (flags up_left) (flags up_right)) (flags down_left))
      (flags down_right)
      ∙ sym (some_append (h up_left) (h up_right ++ (h down_left ++ (h down_right ++ [])))
      ∙ ap (λ (a : Bool). some (h up_left) || a) (some_append (h up_right) (h down_left ++ (h down_right ++ []))
      ∙ ap (λ (a : Bool). some (h up_right) || a) (some_append (h down_left) (h down_right ++ [])
      ∙ ap (λ (a : Bool). some (h down_left) || a) (ap some (append-nil (h down_right)))))
      ∙ regroup (some (h up_left)) (some (h up_right)) (some (h down_left)) (some (h down_right)))
    where
      regroup : (a b c d : Bool) → (a || (b || (c || d))) ≡ (((a || b) || c) || d)
      regroup true b c d = refl
      regroup false true c d = refl
      regroup false false c d = refl

  all_four : up_to g 4 ≡ map f (concat_map h directions)
  unfolding up_to concat_map directions
  all_four =
      ap₂ (λ (a b : List B). a ++ b)
      (ap₂ (λ (a b : List B). a ++ b) (ap₂ (λ (a b : List B). a ++ b) (lists up_left) (lists up_right)) (lists down_left)) (lists down_right)
      ∙ simp (map-append, append-nil, append_assoc)

  pub four : (x : A) → cond (any_up_to p 4) (up_to g 4) (f x ∷ []) ≡ map f (or_end x (concat_map h directions))
  four x = ap₂ (λ (c : Bool) (l : List B). cond c l (f x ∷ [])) any_four all_four ∙ go (concat_map h directions)
    where
      go : (l : List A) → cond (some l) (map f l) (f x ∷ []) ≡ map f (or_end x l)
      go [] = unfold some or_end in refl
      go (y ∷ ys) = unfold some or_end in refl
