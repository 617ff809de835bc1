-- Both ends are squares.
use Rattle.texts.proofs.Readers.{end_on_square}
use Rattle.texts.proofs.fen.range_of.Goals as goal

pub range-requires : goal.range-requires
range-requires c = ((end_on_square _ _ c.in_ok-lo.ensures).0, (end_on_square _ _ c.in_ok-hi.ensures).1)
