-- The closure computes the square at which the man meets a piece.
use Rattle.std.proofs.Common.{rules, ℕ}
use Rattle.squares.specs.Directions.{direction_at, shifted}
use Rattle.captures.specs.Open.{man_jump}
use Rattle.captures.proofs.movegen.man_open.Goals as goal

pub returns : goal.returns
unfolding man_jump
returns c = c.jump_open.ensures (λ (d : ℕ). shifted (direction_at d) c.args.at) (λ d x p. search rules)
