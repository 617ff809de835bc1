-- Lists of boards: the last one, how often a board stands among them, and boards of another measure, which it is not.
use mathlib.Core.Path.{◌≡◌, refl, sym}
use Prim.Native.Nat.{ℕ, suc, ◌+◌}
use native.Mathlib.Omega.{arith}
use mathlib.Core.Bool.{Bool, true, false, cond}
use mathlib.Core.List.{List, [], ◌∷◌, ◌++◌, map}
use Rattle.positions.specs.Boards.{Board, board_of, same_board}
use Rattle.positions.proofs.Measure.{Smaller}
use Rattle.positions.specs.declared.position.Position.{Position}
use Rattle.positions.proofs.Measures.{not_smaller}
use Rattle.positions.proofs.Records.{same_board_lem}
use Rattle.rules.specs.Lists.{times}
use Rattle.rules.proofs.Times as lists
use Rattle.games.specs.Book.{last_in, times_in}
use Rattle.games.specs.Games.{same_position}

-- ---- the last one
pub last_snoc : (l : List Board) (p : Board) → last_in (l ++ (p ∷ [])) ≡ p
unfolding last_in
last_snoc [] p = refl
last_snoc (x ∷ []) p = refl
last_snoc (x ∷ (y ∷ l)) p = last_snoc (y ∷ l) p

-- ---- a claim about each
unfoldable pub Each : (Board → Type 0) → List Board → Type 0
Each claim [] = Unit {0}
Each claim (p ∷ l) = claim p × Each claim l

module _ (claim : Board → Type 0) where
  pub each_none : Each claim []
  unfolding Each
  each_none = tt

  pub each_one : (p : Board) → claim p → Each claim (p ∷ [])
  unfolding Each
  each_one p c = (c, tt)

  pub each_append : (xs ys : List Board) → Each claim xs → Each claim ys → Each claim (xs ++ ys)
  unfolding Each
  each_append [] ys a b = b
  each_append (x ∷ xs) ys a b = (a.0, each_append xs ys a.1 b)

  pub each_from : (other : Board → Type 0) → ((p : Board) → other p → claim p) → (l : List Board) → Each other l → Each claim l
  unfolding Each
  each_from other f [] a = tt
  each_from other f (p ∷ l) a = (f p a.0, each_from other f l a.1)

-- ---- how often a board stands
pub times_append : (p : Board) (xs ys : List Board) → times_in p (xs ++ ys) ≡ times_in p xs + times_in p ys
unfolding times_in
times_append p [] ys = omega arith
times_append p (x ∷ xs) ys = go (same_board x p) (times_append p xs ys)
  where
    go : (t : Bool) → times_in p (xs ++ ys) ≡ times_in p xs + times_in p ys
        → elim t [ true ↦ suc (times_in p (xs ++ ys)) | false ↦ times_in p (xs ++ ys) ]
        ≡ elim t [ true ↦ suc (times_in p xs) | false ↦ times_in p xs ] + times_in p ys
    go true ih = omega arith
    go false ih = ih

-- a board with a smaller measure than each of a list stands nowhere in it
pub times_none : (p : Board) (l : List Board) → Each (Smaller p) l → times_in p l ≡ 0
unfolding times_in Each
times_none p [] a = refl
times_none p (q ∷ l) a = go (same_board q p) refl (times_none p l a.1)
  where
    go : (t : Bool) → same_board q p ≡ t → times_in p l ≡ 0 → ◌≡◌ {A = ℕ} (elim t [ true ↦ suc (times_in p l) | false ↦ times_in p l ]) 0
    go true e ih = absurd (not_smaller (sym ((same_board_lem q p).0 e)) a.0)
    go false e ih = ih

-- the game counts positions, the book boards
pub times_boards : (p : Position) (l : List Position) → times_in (board_of p) (map board_of l) ≡ times same_position l p
unfolding times_in
times_boards p [] = lists.times_nil same_position p
times_boards p (q ∷ l) =
    go (same_position q p) (times_boards p l) (lists.times_one same_position p q (same_position q p) refl) (lists.times_append same_position p (q ∷ []) l)
  where
    go : (t : Bool) → times_in (board_of p) (map board_of l) ≡ times same_position l p → times same_position (q ∷ []) p ≡ cond t 1 0
        → times same_position (q ∷ l) p ≡ times same_position (q ∷ []) p + times same_position l p
        → ◌≡◌ {A = ℕ} (elim t [ true ↦ suc (times_in (board_of p) (map board_of l)) | false ↦ times_in (board_of p) (map board_of l) ]) (times same_position (q ∷ l) p)
    go true ih o a = omega (arith, ih, o, a)
    go false ih o a = omega (arith, ih, o, a)
