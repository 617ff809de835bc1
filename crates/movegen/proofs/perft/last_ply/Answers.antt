-- The test by sets chooses between the two numbers, as the formula does.
use mathlib.Core.Path.{sym, ap, ◌∙◌}
use Rattle.captures.specs.declared.view.Sets.{Sets}
use Rattle.movegen.proofs.LastPly.{counts_captures, counts_quiets}
use Rattle.movegen.specs.LastPly.{limited_count, count_by_sets, last_ply_of}
use Rattle.movegen.proofs.perft.last_ply.Goals as goal

pub returns-then-has_capture : goal.returns-then-has_capture
unfolding last_ply_of
returns-then-has_capture c =
    let s = c.from-sets.result in
    c.captures_count.ensures ∙ counts_captures s.men s.kings s.them s.empty s.side (sym c.has_capture.ensures ∙ c.if-has_capture.true)
    ∙ ap (λ (s : Sets). count_by_sets s.men s.kings s.them s.empty s.side) c.from-sets.ensures

pub returns-else-has_capture : goal.returns-else-has_capture
unfolding last_ply_of
returns-else-has_capture c =
    let s = c.from-sets.result in
    c.limited.ensures ∙ ap limited_count c.quiet_count.ensures
    ∙ counts_quiets s.men s.kings s.them s.empty s.side (sym c.has_capture.ensures ∙ c.if-has_capture.false)
    ∙ ap (λ (s : Sets). count_by_sets s.men s.kings s.them s.empty s.side) c.from-sets.ensures
