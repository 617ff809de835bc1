-- The leading K says which pieces they are, and is taken off.
use Rattle.texts.proofs.Readers.{item_read}
use Rattle.texts.proofs.fen.item.Goals as goal

pub returns : goal.returns
returns c = item_read c.args.color c.args.p c.args.s.now c.strip.result.now _ _ c.in-len1-up.len_at_least c.kind_if-kind.ensures c.strip.ensures c.range_of.ensures
