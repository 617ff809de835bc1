-- The four directions: a walk over their indices is one over the rules' list of them.
use mathlib.Core.Path.{◌≡◌, refl}
use Prim.Native.Nat.{ℕ}
use mathlib.Core.Bool.{Bool, true, false, ◌||◌}
use mathlib.Core.List.{List, map, append-nil, append_assoc, map-append}
use Rattle.squares.specs.Directions.{Direction, up_left, up_right, down_left, down_right, index_of}
use Rattle.captures.specs.Walks.{up_to, any_up_to}
use Rattle.rules.specs.Lists.{concat_map}
use Rattle.rules.specs.Ordered.{directions}
use Rattle.quiets.specs.Tests.{any_in}

-- some direction passes
pub any_four : (p : ℕ → Bool) → any_in (λ d. p (index_of d)) directions ≡ any_up_to p 4
unfolding any_in directions any_up_to
any_four p = go (p 0) (p 1) (p 2) (p 3)
  where
    go : (a b c d : Bool) → (a || (b || (c || (d || false)))) ≡ ((((false || a) || b) || c) || d)
    go true b c d = refl
    go false true c d = refl
    go false false true d = refl
    go false false false true = refl
    go false false false false = refl

-- their lists, one after the other
pub all_four : {A B : Type 0} (f : A → B) (g : ℕ → List B) (h : Direction → List A) → ((d : Direction) → g (index_of d) ≡ map f (h d))
    → up_to g 4 ≡ map f (concat_map h directions)
unfolding up_to concat_map directions
all_four f g h e = rw (e up_left, e up_right, e down_left, e down_right) (simp (map-append, append-nil, append_assoc))
