-- The two directions forward.
use mathlib.Core.Path.{◌≡◌, refl, sym, ap₂, ◌∙◌}
use mathlib.Core.Bool.{Bool, ◌||◌}
use Prim.Native.Nat.{ℕ, ◌+◌}
use Rattle.captures.specs.Walks.{any_up_to}
use Rattle.squares.specs.declared.piece.Color.{Color}
use Rattle.squares.specs.declared.piece.Color.TheVariants.{White, Black}
use Rattle.quiets.specs.Tests.{forward_of}

pub plus_zero : (side : Color) → forward_of side + 0 ≡ forward_of side
plus_zero White = refl
plus_zero Black = refl

-- the two, as the definition asks them
pub two_forward : (p : ℕ → Bool) (side : Color) (f g : ℕ) → f ≡ forward_of side → g ≡ forward_of side + 1 → (p f || p g) ≡ any_up_to (λ k. p (forward_of side + k)) 2
unfolding any_up_to
two_forward p side f g e h = ap₂ (λ (m n : ℕ). p m || p n) (e ∙ sym (plus_zero side)) h
