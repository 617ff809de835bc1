-- The first counter is the place of the current position, and is at most 50.
use Rattle.games.proofs.Valid.{valid_says}
use native.Mathlib.Omega.{arith}
use Rattle.games.proofs.tested.Tested.last.Goals as goal

pub bounds-self-i : goal.bounds-self-i
bounds-self-i c =
    let v = valid_says c.args.self.game.now c.args.self.valid in
    omega arith
