-- The letters of all numbers from 0 on; that of the side takes the place of the first.
use borrow.Author.Rules.{rules}
use Rattle.positions.specs.Boards.{board_of}
use Rattle.texts.proofs.Writers.{hub_written}
use Rattle.texts.proofs.hub.hub_text.Goals as goal

pub returns : goal.returns
returns c =
    let items = c.from_fn-text.ensures.items in
    hub_written (board_of c.args.p) _ _ items.long (λ k h. let w = items.at k 0 h in search rules) c.to_char.ensures
