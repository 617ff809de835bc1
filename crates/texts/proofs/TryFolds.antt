-- What `try_fold` answers where each call reads one item into what was read so far.
use Rattle.std.specs.Prelude.{Err, Ok, Result, None, Some, MatchOption}
use Rattle.std.specs.declared.option.Option.{Option}
use Rattle.std.specs.Iterator.{AlwaysYields, YieldsThen}
use Rattle.std.specs.List.{FoldsTo}
use Rattle.std.proofs.lemmas.Iterator.{YieldsList}
use mathlib.Core.Path.{◌≡◌, ap, ap₂, sym, ◌∙◌, subst}
use mathlib.Core.List.{List, [], ◌∷◌}
use Rattle.squares.specs.declared.refusal.Refusal.{Refusal}
use Rattle.texts.specs.Parts.{and_then}
use Rattle.texts.specs.declared.parts.Parts.{Parts}

-- the items are read one after another; a refusal ends the reading
unfoldable pub read_all : {B : Type 0} → (Parts → B → Result Parts Refusal) → Parts → List B → Result Parts Refusal
read_all read p [] = Ok p
read_all read p (b ∷ bs) = and_then (read p b) (λ q. read_all read q bs)

-- `Turn` is what a call that goes on does, `Whole` what holds after the last item, `Stop` what holds of an item at which the calls end.
module _ {S A B F : Type 0} (steps : S → Option A → S → Type 0) (v : A → B) (Turn : F × Parts → A → F × Parts → Type 0) {f h : F} {a : Parts} {Whole : Type 0} {Stop : A → Type 0}
    (r : Result Parts Refusal) (u : S) (read : Parts → B → Result Parts Refusal) (turns : (p : Parts) (x : A) (q : F × Parts) → Turn (f, p) x q → (q.0 ≡ f) × (read p (v x) ≡ Ok q.1))
    (ends : Whole → r ≡ Ok a) (stops : (x : A) → Stop x → h ≡ f → (e : Refusal) × (read a (v x) ≡ Err e) × (r ≡ Err e)) where
  all_folded : (xs : List A) (all : List B) (s : S) (p : Parts) (o : Option A) → AlwaysYields steps v s all → YieldsThen steps s xs o u → FoldsTo Turn (f, p) xs (h, a) → MatchOption o Whole Stop
      → r ≡ read_all read p all
  unfolding read_all
  all_folded [] [] s p None y t q m = ends m ∙ ap (λ (k : F × Parts). Ok k.1) (sym q)
  all_folded [] [] s p (Some x) y t q m = absurd (y x u (subst (λ (k : S). steps k (Some x) u) (sym t.1) t.2))
  all_folded [] (b ∷ bs) s p None y t q m = absurd (y.0 u (subst (λ (k : S). steps k None u) (sym t.1) t.2))
  all_folded [] (b ∷ bs) s p (Some x) y t q m =
      let n = y.1 x u (subst (λ (k : S). steps k (Some x) u) (sym t.1) t.2) in
      let e = stops x m (ap (λ (k : F × Parts). k.0) (sym q)) in
      let w = ap₂ read (ap (λ (k : F × Parts). k.1) q) (sym n.0) ∙ e.1 in
      e.2 ∙ ap (λ (z : Result Parts Refusal). and_then z (λ q. read_all read q bs)) (sym w)
  all_folded (x ∷ xs) [] s p o y t q m = absurd (y x t.1.0 t.1.1)
  all_folded (x ∷ xs) (b ∷ bs) s p o y t q m =
      let n = y.1 x t.1.0 t.1.1 in
      let c = turns p x q.0 q.1 in
      let w = ap (read p) (sym n.0) ∙ c.1 in
      all_folded xs bs t.1.0 q.0.1 o n.1 (t.0, t.1.2, t.2) (subst (λ (k : F). FoldsTo Turn (k, q.0.1) xs (h, a)) c.0 q.2) m
      ∙ ap (λ (z : Result Parts Refusal). and_then z (λ q. read_all read q bs)) (sym w)

pub folded : {S A B F : Type 0} {steps : S → Option A → S → Type 0} {v : A → B} {f : F} {Whole : Parts → Type 0} {Stop : F → Parts → A → Type 0} {s : S} {all : List B}
    (r : Result Parts Refusal) (u : S) (read : Parts → B → Result Parts Refusal) (Turn : F × Parts → A → F × Parts → Type 0) (p : Parts)
    → (xs : List A) × (o : Option A) × (h : F) × (a : Parts) × YieldsThen steps s xs o u × FoldsTo Turn (f, p) xs (h, a) × MatchOption o (Whole a) (Stop h a) → YieldsList steps v s all
    → ((p : Parts) (x : A) (q : F × Parts) → Turn (f, p) x q → (q.0 ≡ f) × (read p (v x) ≡ Ok q.1)) → ((a : Parts) → Whole a → r ≡ Ok a)
    → ((h : F) (a : Parts) (x : A) → Stop h a x → h ≡ f → (e : Refusal) × (read a (v x) ≡ Err e) × (r ≡ Err e)) → r ≡ read_all read p all
folded {steps = steps} {v = v} {s = s} {all = all} r u read Turn p d y turns ends stops =
    all_folded steps v Turn r u read turns (ends d.3) (stops d.2 d.3) d.0 all s p d.1 y.runs d.4 d.5 d.6
