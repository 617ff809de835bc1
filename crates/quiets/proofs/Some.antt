-- Whether some member of a set passes a test, as a chain over its bits asks it.
use mathlib.Core.Path.{◌≡◌, refl, ap₂}
use mathlib.Core.Bool.{Bool, ◌||◌}
use mathlib.Core.List.{List, [], ◌∷◌, map}
use Prim.Native.Nat.{ℕ, ◌^◌}
use Rattle.std.specs.List.{list_any}
use Rattle.quiets.specs.Tests.{any_in}

pub any_ones : (p q : ℕ → Bool) → ((i : ℕ) → p (2 ^ i) ≡ q i) → (is : List ℕ) → list_any p (map (λ i. 2 ^ i) is) ≡ any_in q is
unfolding any_in
any_ones p q e [] = refl
any_ones p q e (i ∷ is) = ap₂ ◌||◌ (e i) (any_ones p q e is)
