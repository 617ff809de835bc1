-- Two terms, each within 57,600,000, of the counts of men and kings.
use mathlib.Core.Path.{ap, ◌∙◌}
use lib.Dec.{lit<}
use Rattle.squares.specs.Sets.{size}
use Rattle.scores.specs.Score.{material_of}
use Rattle.scores.proofs.Integers.{held_within, add_of_lem, read}
use Rattle.scores.proofs.Scores.{weights_of_lem, count_le, of_term}
use Rattle.scores.proofs.eval.Scoring.material.Goals as goal

pub term-requires : goal.term-requires
term-requires c =
    record { weight_value = held_within 10000 c.args.self.weights.man (lit< tt) (weights_of_lem c.args.self.weights c.args.self.fit).man; number_bound = count_le _ _ c.count.ensures }

pub term-requires-2 : goal.term-requires-2
term-requires-2 c =
    record { weight_value = held_within 10000 c.args.self.weights.king (lit< tt) (weights_of_lem c.args.self.weights c.args.self.fit).king; number_bound = count_le _ _ c.count-2.ensures }

pub returns : goal.returns
unfolding material_of
returns c =
    let w = c.args.self.weights in
    let fit = weights_of_lem w c.args.self.fit in
    read (add_of_lem
    (of_term w.man _ _ _ fit.man (c.count.ensures ∙ ap size c.men.ensures) c.term.ensures)
    (of_term w.king _ _ _ fit.king (c.count-2.ensures ∙ ap size c.kings.ensures) c.term-2.ensures)
    (lit< tt) (lit< tt)) (lit< tt)
