-- A walk over the numbers below n, as a loop over the four directions takes it.
use Rattle.std.specs.Prelude.{ℕ, zero, suc, Bool, false, ◌||◌, List, [], ◌++◌}

-- the lists g 0, g 1, up to g (n - 1), one after the other
unfoldable pub up_to : {A : Type 0} → (ℕ → List A) → ℕ → List A
up_to g zero = []
up_to g (suc n) = up_to g n ++ g n

-- whether p holds for some number below n
unfoldable pub any_up_to : (ℕ → Bool) → ℕ → Bool
any_up_to p zero = false
any_up_to p (suc n) = any_up_to p n || p n
