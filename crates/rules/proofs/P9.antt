-- P9 of docs/RULES.md by the rules alone: one move, 28x28, four taken, found on two routes. The mover's first square counts as
-- empty, and must-fail/origin_blocks.edit is refused here. The table of rows has P9 from its text on.
use Prim.Native.Nat.{◌+◌}
use mathlib.Core.Path.{◌≡◌, refl}
use mathlib.Core.List.{[], ◌∷◌}
use Rattle.squares.specs.Squares.{single}
use Rattle.squares.specs.declared.piece.Color.TheVariants.{White}
use Rattle.positions.specs.Boards.{Board, board}
use Rattle.positions.specs.Moves.{move}
use Rattle.rules.specs.Ordered.{legal}
use Rattle.rules.specs.Computed.{computed}

-- W:W28:B12,13,22,23
abbrev pub circle : Board
circle = board (single 28) (single 12 + single 13 + single 22 + single 23) 0 White

pub p9 : legal circle ≡ move 28 28 (single 12 + single 13 + single 22 + single 23) ∷ []
unfolding computed
p9 = refl
