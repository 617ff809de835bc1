-- The search in a list of moves, as the library makes it, and what a list is after one more.
use Rattle.std.specs.Prelude.{Option, Some, None, Ok, Err}
use mathlib.Core.Path.{◌≡◌, refl, sym, ap, ap₂, ◌∙◌}
use mathlib.Core.Bool.{Bool, true, false, cond, ◌||◌, ◌&&◌, and-true}
use Prim.Native.Nat.{ℕ, min}
use native.Mathlib.Omega.{arith}
use lib.Dec.{ltb, leb, eqb}
use lib.ListN.{length, take}
use lib.Seq.{take_all}
use borrow.Author.Tests.{leb-true, leb-false}
use mathlib.Core.List.{List, [], ◌∷◌}
use Rattle.positions.specs.declared.moves.Move.{Move}
use Rattle.positions.specs.Moves.{same}
use Rattle.std.specs.List.{list_any}
use Rattle.captures.specs.declared.moves.MoveList.{MoveList}
use Rattle.captures.specs.Lists.{entries, listed, push_of, kept, put_of}

turned : (a b c : Bool) → (a && (b && c)) ≡ (b && (c && a))
turned true b c = ap (λ (x : Bool). b && x) (sym (and-true c))
turned false true true = refl
turned false true false = refl
turned false false c = refl

-- the library's test, which compares the fields of a move in their order
pub listed_any : (l : List Move) (m : Move) → list_any (λ x. eqb x.captured m.captured && (eqb x.from m.from && eqb x.to m.to)) l ≡ listed l m
unfolding listed same
listed_any [] m = refl
listed_any (x ∷ l) m = ap₂ ◌||◌ (turned (eqb x.captured m.captured) (eqb x.from m.from) (eqb x.to m.to)) (listed_any l m)

-- with room or without, the list is the one with the move at its end
pub put_push : (l k : MoveList) (r : Option Unit) (m : Move) → kept k r ≡ put_of l m → k ≡ push_of l m
unfolding put_of push_of
put_push l k r m e = held r (ltb l.len 256) refl e
  where
    full : ltb l.len 256 ≡ false → push_of l m ≡ l
    full t = rw t refl

    held : (r : Option Unit) (b : Bool) → ltb l.len 256 ≡ b → kept k r ≡ cond b (Ok (push_of l m)) (Err l) → k ≡ push_of l m
    held None true t e = absurd (let z : ◌≡◌ {A = ℕ} 0 1 = cc in omega arith)
    held None false t e = let q : k ≡ l = cc in rw (full t) q
    held (Some u) true t e = cc
    held (Some u) false t e = absurd (let z : ◌≡◌ {A = ℕ} 0 1 = cc in omega arith)

-- the moves of a list, taken from an array of 256
pub entries_short : (l : MoveList) → length l.moves ≡ 256 → take (min l.len 256) l.moves ≡ entries l
entries_short l h = go (leb l.len 256) refl
  where
    go : (b : Bool) → leb l.len 256 ≡ b → take (min l.len 256) l.moves ≡ entries l
    go true e =
        let le = leb-true l.len 256 e in
        let k : min l.len 256 ≡ l.len = omega arith in
        ap (λ (n : ℕ). take n l.moves) k
    go false e =
        let lt = leb-false l.len 256 e in
        let k : min l.len 256 ≡ 256 = omega arith in
        ap (λ (n : ℕ). take n l.moves) k ∙ take_all 256 l.moves (omega (arith, h)) ∙ sym (take_all l.len l.moves (omega (arith, h)))
