-- Whether some direction passes a test, as a chain over the four asks it.
use Rattle.std.specs.List.{list_any}
use mathlib.Core.Path.{◌≡◌, refl}
use mathlib.Core.Bool.{Bool, true, false, ◌||◌}
use Prim.Native.Nat.{ℕ}
use Rattle.captures.specs.Walks.{any_up_to}
use Rattle.std.proofs.Common.{[], ◌∷◌}

any_of : (a b c d : Bool) → (a || (b || (c || (d || false)))) ≡ ((((false || a) || b) || c) || d)
any_of true b c d = refl
any_of false true c d = refl
any_of false false true d = refl
any_of false false false true = refl
any_of false false false false = refl

pub any_four : (p : ℕ → Bool) → list_any p (0 ∷ 1 ∷ 2 ∷ 3 ∷ []) ≡ any_up_to p 4
unfolding any_up_to
any_four p = any_of (p 0) (p 1) (p 2) (p 3)
