-- Walks over the directions: what a false disjunction says, and that directions without a jump add nothing.
use mathlib.Core.Path.{◌≡◌, refl, sym}
use mathlib.Core.Bool.{Bool, true, false, ◌||◌}
use mathlib.Core.List.{List, []}
use Prim.Native.Nat.{ℕ, zero, suc}
use Rattle.captures.specs.Walks.{up_to, any_up_to}

pub or_yes : (a b : Bool) → b ≡ true → true ≡ (a || b)
or_yes true b e = refl
or_yes false b e = sym e

pub or_no : (a b : Bool) → b ≡ false → a ≡ (a || b)
or_no true b e = refl
or_no false b e = sym e

or_left : (a b : Bool) → (a || b) ≡ false → a ≡ false
or_left true b e = e
or_left false b e = refl

or_right : (a b : Bool) → (a || b) ≡ false → b ≡ false
or_right true b e = let z : true ≡ false = e in cc
or_right false b e = e

-- where p holds of none, and what p does not hold of adds nothing, nothing is added
pub none_added : {A : Type 0} (p : ℕ → Bool) (g : ℕ → List A) → ((d : ℕ) → p d ≡ false → g d ≡ []) → (n : ℕ) → any_up_to p n ≡ false → up_to g n ≡ []
unfolding any_up_to up_to
none_added p g f zero e = refl
none_added p g f (suc n) e = rw (none_added p g f n (or_left (any_up_to p n) (p n) e), f n (or_right (any_up_to p n) (p n) e))
