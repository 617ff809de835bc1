-- The branch is the test of the definition; a valid game whose first counter is below 50 has room.
use Rattle.games.specs.Games.{irreversible}
use Rattle.games.specs.Play.{moved_of}
use Rattle.games.proofs.Valid.{valid_says}
use native.Mathlib.Omega.{arith}
use Rattle.games.proofs.tested.Tested.next.Goals as goal

pub returns-then-is_capture-man_moves : goal.returns-then-is_capture-man_moves
unfolding moved_of irreversible
returns-then-is_capture-man_moves c =
    rw (
      ← c.last-p.ensures,
      ← c.is_capture.ensures,
      ← c.man_moves.ensures,
      c.if-is_capture-man_moves.true,
      ← c.material_after-material.ensures,
    )
    c.alone.ensures

pub appended-requires : goal.appended-requires
appended-requires c =
    let v = valid_says c.args.self.game.now c.args.self.valid in
    record { len_bound = omega arith; reversible_bound = c.requires }

pub returns : goal.returns
unfolding moved_of irreversible
returns c =
    rw (
      ← c.last-p.ensures,
      ← c.is_capture.ensures,
      ← c.man_moves.ensures,
      c.if-is_capture-man_moves.false,
      ← c.material_after-material.ensures,
    )
    c.appended.ensures
