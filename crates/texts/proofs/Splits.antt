-- What the library's `split` gives: the parts of a text, one after another.
use denote.Ref.{Bor}
use Rattle.std.specs.Prelude.{Some}
use Rattle.std.specs.declared.option.Option.{Option}
use Prim.Native.Nat.{ℕ, suc, ◌+◌, ◌≤◌}
use Rattle.std.specs.Fn.{CalledAt}
use Rattle.std.specs.Iterator.{AlwaysYields}
use Rattle.std.specs.List.{slice_split, onto_first}
use Rattle.std.specs.Slice.Iter.{split_rest, split_done, split_callee, split_steps}
use Rattle.std.proofs.lemmas.Iterator.{YieldsList}
use Rattle.std.proofs.lemmas.Iterator.Splits.{YieldsList-from_slice_split}
use denote.Param.Members.{Mut}
use lib.Dec.{eqb}
use mathlib.Core.Path.{◌≡◌, refl, ap, sym, subst, ◌∙◌}
use mathlib.Core.List.{List, [], ◌∷◌}
use mathlib.Core.Bool.{Bool, true, false, cond}
use native.Mathlib.Omega.{arith}
use lib.ListN.{length}
use Rattle.texts.specs.Bytes.{is, cons_head, split_on}

-- its parts are those of `split_on`
pub slice_parts : (p : ℕ → Bool) (s : List ℕ) → slice_split p s ≡ split_on p s
unfolding split_on cons_head
slice_parts p [] = refl
slice_parts p (b ∷ s) = ap (λ (l : List (List ℕ)). cond (p b) ([] ∷ l) (onto_first b l)) (slice_parts p s) ∙ ap (cond (p b) ([] ∷ split_on p s)) (go (split_on p s))
  where
    go : (l : List (List ℕ)) → onto_first b l ≡ cons_head b l
    go [] = refl
    go (f ∷ fs) = refl

-- a text that is cut at the byte c gives them one after another
pub parts_come : {F : Type 0} {s : _} (g : Mut F (Bor ℕ × Unit {0}) Bool) (c : ℕ) {f : F} (t : List ℕ) → split_rest s ≡ t → split_done s ≡ false → split_callee s ≡ f
    → ((x : ℕ) (b : Bool) (q : F) → CalledAt g f x b q → (q ≡ f) × (b ≡ eqb x c)) → YieldsList (split_steps g) (λ x. x.now) s (split_on (is c) t)
unfolding is
parts_come {s = s} g c t whole done closure tests =
    subst (YieldsList (split_steps g) (λ x. x.now) s) (slice_parts (is c) t) (YieldsList-from_slice_split g (is c) t whole done closure tests)

-- the first part came, and the others come after it
pub others_come : {F : Type 0} {g : Mut F (Bor ℕ × Unit {0}) Bool} {s u : _} {r : Option (Bor (List ℕ))} → split_steps g s r u → (x : Bor (List ℕ)) → r ≡ Some x → (l : List (List ℕ)) → YieldsList (split_steps g) (λ x. x.now) s l
    → (more : List (List ℕ)) × (l ≡ x.now ∷ more) × YieldsList (split_steps g) (λ x. x.now) u more
others_come {g = g} {s} {u} k x e l y = go l y.runs
  where
    step : split_steps g s (Some x) u
    step = subst (λ (o : Option (Bor (List ℕ))). split_steps g s o u) e k

    go : (l : List (List ℕ)) → AlwaysYields (split_steps g) (λ x. x.now) s l → (more : List (List ℕ)) × (l ≡ x.now ∷ more) × YieldsList (split_steps g) (λ x. x.now) u more
    go [] a = absurd (a x u step)
    go (f ∷ fs) a = (fs, ap (λ (t : List ℕ). t ∷ fs) (sym (a.1 x u step).0), record { runs = (a.1 x u step).1 })

-- no more parts than bytes and one
pub parts_short : (p : ℕ → Bool) (s : List ℕ) → length (split_on p s) ≤ length s + 1
unfolding split_on cons_head
parts_short p [] = omega arith
parts_short p (b ∷ s) = go (p b) (split_on p s) (parts_short p s)
  where
    go : (t : Bool) (l : List (List ℕ)) → length l ≤ length s + 1 → length (cond t ([] ∷ l) (cons_head b l)) ≤ suc (length s) + 1
    go true l h = omega arith
    go false [] h = omega arith
    go false (f ∷ l) h = omega arith
