-- The code's test is that of the definition, and its division rounds towards zero.
use mathlib.Core.Path.{◌≡◌, ◌∙◌}
use Prim.Native.Nat.{◌<◌, ◌^◌}
use native.Mathlib.Omega.{arith}
use lib.IntN.{ℤ, nat_abs}
use Rattle.positions.specs.Boards.{board_of}
use Rattle.scores.specs.Score.{within}
use mathlib.Core.Bool.{true, false}
use Rattle.scores.proofs.Integers.{within_le, held_is, eighth_read}
use Rattle.scores.proofs.Scores.{damped_test}
use Rattle.scores.proofs.eval.Scoring.damp.Goals as goal

below : (s : ℤ) → within 576000000 s ≡ true → nat_abs s < 2 ^ 31
below s e = omega (arith, within_le 576000000 s e)

pub returns-then-white-black : goal.returns-then-white-black
returns-then-white-black c =
    let l = below c.args.score c.requires in
    eighth_read c.args.score l
    ∙ damped_test (board_of c.args.self.p) c.args.score c.few_pieces.result c.few_pieces-2.result true l
    c.few_pieces.ensures c.few_pieces-2.ensures c.if-white-black.true

pub returns-else-white-black : goal.returns-else-white-black
returns-else-white-black c =
    let l = below c.args.score c.requires in
    held_is c.args.score l
    ∙ damped_test (board_of c.args.self.p) c.args.score c.few_pieces.result c.few_pieces-2.result false l
    c.few_pieces.ensures c.few_pieces-2.ensures c.if-white-black.false
