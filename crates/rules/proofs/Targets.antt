-- A target by the test of the list is a target of the rules.
use mathlib.Core.Path.{◌≡◌}
use Prim.Native.Nat.{ℕ}
use mathlib.Core.Bool.{true, not}
use borrow.Author.Tests.{not-true}
use Rattle.squares.specs.Sets.{has}
use Rattle.squares.proofs.Bools.{and_left, and_right}
use Rattle.positions.specs.Boards.{Board, enemy}
use Rattle.rules.specs.Ordered.{target}
use Rattle.rules.specs.Rules.{Target}

pub of_target : (b : Board) (t o : ℕ) → target b t o ≡ true → Target b t o
unfolding target
of_target b t o e = record { enemy = and_left _ _ e; untaken = not-true (has t o) (and_right (has (enemy b) o) (not (has t o)) e) }
