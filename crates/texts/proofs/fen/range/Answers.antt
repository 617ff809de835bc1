-- The squares of the range are joined one after another.
use Rattle.std.proofs.Common.{rules, ◌∙◌}
use Rattle.std.proofs.lemmas.Iterator.Consumers.{fold_from_yields_List}
use Rattle.texts.proofs.Runs.{join, goes_up, run_joined}
use Rattle.texts.proofs.fen.range.Goals as goal

pub returns : goal.returns
returns c =
    fold_from_yields_List _ join 0 c.fold.result c.fold.ensures.ran (goes_up c.args.lo c.args.hi (search rules) (search rules) (search rules) (search rules)) (λ a x b q k. search (rules, k))
    ∙ run_joined c.args.lo c.args.hi (search rules) (search rules)
