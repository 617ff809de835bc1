-- The library asks each entry.
use Rattle.std.proofs.Common.{◌∙◌, ap}
use Rattle.captures.specs.Lists.{listed}
use Rattle.captures.proofs.Listed.{listed_any}
use Rattle.captures.proofs.moves.MoveList.contains.Goals as goal

pub returns : goal.returns
returns c = c.contains.ensures.value ∙ listed_any c.entries.result.now c.args.mv ∙ ap (λ l. listed l c.args.mv) c.entries.ensures
