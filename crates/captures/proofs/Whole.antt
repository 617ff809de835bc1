-- A list that has room for all of some moves, or none.
use Rattle.std.specs.Prelude.{Option, Some, None}
use mathlib.Core.Path.{◌≡◌, refl, ap}
use mathlib.Core.Bool.{Bool, true, false, cond}
use mathlib.Core.List.{List, []}
use Prim.Native.Nat.{ℕ, ◌≤◌, ◌<◌}
use native.Mathlib.Omega.{arith}
use lib.Dec.{leb}
use lib.ListN.{length}
use borrow.Author.Tests.{leb-true, leb-false, lt-leb, le-leb}
use Rattle.positions.specs.declared.moves.Move.{Move}
use Rattle.captures.specs.declared.moves.MoveList.{MoveList}
use Rattle.captures.specs.Lists.{no_moves, list_of, whole_list}

-- the list without moves
pub none_listed : no_moves ≡ list_of []
unfolding list_of
none_listed = refl

module _ (xs : List Move) where
  abbrev asked : Bool → Option MoveList
  asked t = cond t (Some (list_of xs)) None

  pub whole_few : length xs ≤ 256 → whole_list xs ≡ Some (list_of xs)
  unfolding whole_list
  whole_few h = ap asked (le-leb (length xs) 256 h)

  pub whole_many : 256 < length xs → whole_list xs ≡ None
  unfolding whole_list
  whole_many h = ap asked (lt-leb (length xs) 256 h)

  -- where there is a list, all have room
  pub few_whole : (l : MoveList) → Some l ≡ whole_list xs → (length xs ≤ 256) × (l ≡ list_of xs)
  unfolding whole_list
  few_whole l e = go (leb (length xs) 256) refl e
    where
      go : (t : Bool) → leb (length xs) 256 ≡ t → Some l ≡ asked t → (length xs ≤ 256) × (l ≡ list_of xs)
      go true q r = (leb-true (length xs) 256 q, cc)
      go false q r = absurd (let z : ◌≡◌ {A = ℕ} 0 1 = cc in omega arith)

  -- where there is none, not all have room
  pub many_whole : None ≡ whole_list xs → 256 < length xs
  unfolding whole_list
  many_whole e = go (leb (length xs) 256) refl e
    where
      go : (t : Bool) → leb (length xs) 256 ≡ t → None ≡ asked t → 256 < length xs
      go true q r = absurd (let z : ◌≡◌ {A = ℕ} 0 1 = cc in omega arith)
      go false q r = leb-false (length xs) 256 q
