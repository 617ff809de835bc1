-- A step of the fold over moves alone is a step of the rules' fold.
use mathlib.Core.Path.{◌≡◌, refl, ap, ◌∙◌}
use Prim.Native.Nat.{ℕ}
use mathlib.Core.Bool.{Bool, true, false, ◌||◌, cond}
use mathlib.Core.List.{List, [], ◌∷◌, foldl}
use lib.Dec.{eqb, ltb}
use Rattle.positions.specs.declared.moves.Move.{Move}
use Rattle.positions.specs.Moves.{same}
use Rattle.captures.specs.Lists.{listed}
use Rattle.captures.proofs.Limit.{Found, found, add_in, note_in}
use Rattle.rules.specs.Lists.{contains}
use Rattle.rules.proofs.Bounded.{Bounded, bounded, note_in as note_within}
use Rattle.rules.proofs.Search.{taking}

abbrev pub bound : Found → Bounded Move
bound x = bounded x.most x.moves x.overflow

-- the code's search in a list is that of the rules
pub listed_is : (l : List Move) (m : Move) → listed l m ≡ contains same l m
unfolding listed contains
listed_is [] m = refl
listed_is (x ∷ l) m = ap (λ (c : Bool). same x m || c) (listed_is l m)

pub note_bound : (limit : ℕ) → (x : Found) (m : Move) → bound (note_in limit x m) ≡ note_within same taking limit (bound x) m
unfolding note_in note_within
note_bound limit x m =
    ap (λ (t : Bool). bound (cond (eqb k 0 || ltb k x.most) x (cond (ltb x.most k) (add_in limit (found k [] false) m) (cond t x (add_in limit x m)))))
    (listed_is x.moves m)
    ∙ go (eqb k 0) (ltb k x.most) (ltb x.most k) (contains same x.moves m)
  where
    k : ℕ
    k = taking m

    go : (p q r t : Bool) → bound (cond (p || q) x (cond r (add_in limit (found k [] false) m) (cond t x (add_in limit x m))))
        ≡ cond p (bound x) (cond q (bound x) (cond r (bound (add_in limit (found k [] false) m)) (cond t (bound x) (bound (add_in limit x m)))))
    go true q r t = refl
    go false true r t = refl
    go false false true t = refl
    go false false false true = refl
    go false false false false = refl

pub fold_bound : (limit : ℕ) → (ms : List Move) (x : Found)
    → bound (foldl (note_in limit) x ms) ≡ foldl (note_within same taking limit) (bound x) ms
fold_bound limit [] x = refl
fold_bound limit (m ∷ ms) x =
    fold_bound limit ms (note_in limit x m) ∙ ap (λ (y : Bounded Move). foldl (note_within same taking limit) y ms) (note_bound limit x m)
