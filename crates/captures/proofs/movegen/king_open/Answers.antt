-- The closure computes the square at which the king meets a piece.
use Rattle.std.proofs.Common.{rules, ℕ}
use Rattle.squares.specs.Directions.{direction_at}
use Rattle.captures.specs.Rays.{slide_of}
use Rattle.captures.specs.Open.{king_jump}
use Rattle.captures.proofs.movegen.king_open.Goals as goal

pub returns : goal.returns
unfolding king_jump
returns c = c.jump_open.ensures (λ (d : ℕ). slide_of (direction_at d) c.args.empty c.args.at) (λ d x p. search rules)
