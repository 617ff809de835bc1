-- What the entries answer, in the numbers and order of docs/REFUSALS.md: scores 12, 10.
use mathlib.Core.Path.{◌≡◌, refl}
use mathlib.Core.Bool.{not}
use mathlib.Core.List.{[], ◌∷◌}
use Rattle.squares.specs.Told.{told, result, when, in_order}
use Rattle.squares.proofs.Orders.{refused_unless, none_left}
use Rattle.positions.specs.Acceptance.{sound}
use Rattle.positions.specs.Boards.{board_of}
use Rattle.positions.specs.declared.position.Position.{Position}
use Rattle.scores.specs.Score.{score, weights_fit, evaluate_of}
use Rattle.scores.specs.declared.eval.Classical.{Classical}

pub evaluate_told : (w : Classical) (p : Position)
    → told (evaluate_of w p) ≡ in_order (when 12 (not (sound p)) ∷ when 10 (not (weights_fit w)) ∷ []) (result (score w (board_of p)))
unfolding evaluate_of
evaluate_told w p = refused_unless told 12 0 (sound p) _ _ _ _ refl (refused_unless told 10 0 (weights_fit w) _ _ _ _ refl (none_left _))
