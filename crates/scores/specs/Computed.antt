-- The definitions of this crate and of those below it that the checker may unfold where it computes a value.
use Rattle.positions.specs.Computed as positions
use Rattle.scores.specs.Score.{ahead_of, advanced, center, guard, guarding, material_of, placement_of, worth, few_pieces, drawish, damped, white_score, score, within, weights_fit, evaluate_of}

unfoldable pub computed : Unit {0}
unfolding positions.computed ahead_of advanced center guard guarding material_of placement_of worth few_pieces drawish damped white_score score within weights_fit evaluate_of
computed = tt
