-- Three terms, each within 57,600,000: rows, center, guards. The men of an accepted board stand on squares.
use mathlib.Core.Path.{ap, ap₂, sym, ◌∙◌}
use Prim.Native.Nat.{ℕ}
use lib.Dec.{lit<}
use lib.Bits.{bit_and}
use Rattle.squares.specs.Sets.{size}
use Rattle.squares.specs.Folds.{sum_over}
use Rattle.squares.specs.Squares.{all}
use Rattle.positions.specs.Boards.{board_of, men_of}
use Rattle.scores.specs.Score.{advanced, placement_of}
use Rattle.positions.proofs.Accepts.{accepted_says}
use Rattle.positions.proofs.OnSquares.{and_all, men_squares}
use Rattle.scores.proofs.Integers.{held_within, add_of_lem, fits, read}
use Rattle.scores.proofs.Scores.{weights_of_lem, count_le, of_term, center_is}
use Rattle.scores.proofs.eval.Scoring.placement.Goals as goal

pub term-requires : goal.term-requires
term-requires c =
    record { weight_value = held_within 10000 c.args.self.weights.advance (lit< tt) (weights_of_lem c.args.self.weights c.args.self.fit).advance; number_bound = c.rows_advanced.ensures.upper_bound }

pub term-requires-2 : goal.term-requires-2
term-requires-2 c =
    record { weight_value = held_within 10000 c.args.self.weights.center (lit< tt) (weights_of_lem c.args.self.weights c.args.self.fit).center; number_bound = count_le _ _ c.count.ensures }

pub term-requires-3 : goal.term-requires-3
term-requires-3 c =
    record { weight_value = held_within 10000 c.args.self.weights.guard (lit< tt) (weights_of_lem c.args.self.weights c.args.self.fit).guard; number_bound = count_le _ _ c.count-2.ensures }

pub overflow_add-result-2 : goal.overflow_add-result-2
overflow_add-result-2 c =
    fits (add_of_lem (add_of_lem c.term.ensures c.term-2.ensures (lit< tt) (lit< tt))
    c.term-3.ensures (lit< tt) (lit< tt)) (lit< tt)

pub returns : goal.returns
unfolding placement_of
returns c =
    let w = c.args.self.weights in
    let fit = weights_of_lem w c.args.self.fit in
    let men = men_of c.args.color (board_of c.args.self.p) in
    read (add_of_lem (add_of_lem
    (of_term w.advance _ _ _ fit.advance
    (c.rows_advanced.ensures.value ∙ ap (λ (s : ℕ). sum_over (advanced c.args.color) (bit_and s all)) c.men-men.ensures
    ∙ ap (sum_over (advanced c.args.color)) (and_all men (men_squares c.args.color (board_of c.args.self.p) (accepted_says (board_of c.args.self.p) c.args.self.accepted))))
    c.term.ensures)
    (of_term w.center _ _ _ fit.center
    (c.count.ensures ∙ ap₂ (λ (s k : ℕ). size (bit_and s k)) c.men-men.ensures (sym center_is)) c.term-2.ensures)
    (lit< tt) (lit< tt))
    (of_term w.guard _ _ _ fit.guard (c.count-2.ensures ∙ c.guards.ensures) c.term-3.ensures)
    (lit< tt) (lit< tt)) (lit< tt)
