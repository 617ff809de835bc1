-- What a search has found, on the moves alone, for a list of any limit (docs/RULES.md, "Limits and lent space": only the final list counts).
use Prim.Native.Nat.{ℕ}
use mathlib.Core.Bool.{Bool, false, cond, ◌||◌}
use mathlib.Core.List.{List, [], ◌∷◌, ◌++◌}
use lib.Dec.{eqb, ltb, leb}
use lib.ListN.{length}
use Rattle.squares.specs.Sets.{size}
use Rattle.positions.specs.declared.moves.Move.{Move}
use Rattle.captures.specs.Lists.{listed}

-- the largest number, the moves that take as many, each once, and whether there were more of them than the list holds
pub record Found : Type 0 where
  pub most : ℕ
  pub moves : List Move
  pub overflow : Bool

abbrev pub found : ℕ → List Move → Bool → Found
found k l o = record { most = k; moves = l; overflow = o }

-- how many a move takes
abbrev pub takes : Move → ℕ
takes m = size m.captured

-- one more where there are fewer than the limit, else the mark
abbrev pub add_in : ℕ → Found → Move → Found
add_in limit s m =
    found s.most (cond (ltb (length s.moves) limit) (s.moves ++ (m ∷ [])) s.moves) (s.overflow || leb limit (length s.moves))

-- a longer capture clears what was found, a double is dropped
unfoldable pub note_in : ℕ → Found → Move → Found
note_in limit s m =
    cond (eqb (takes m) 0 || ltb (takes m) s.most) s
    (cond (ltb s.most (takes m)) (add_in limit (found (takes m) [] false) m)
    (cond (listed s.moves m) s (add_in limit s m)))
