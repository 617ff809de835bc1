-- The test by sets is that of the rules on the board of a sound position.
use Rattle.movegen.proofs.Generated.{viewed}
use Rattle.movegen.proofs.Listed.{quiets_tested}
use Rattle.movegen.proofs.movegen.has_quiet_moves.Goals as goal

pub returns : goal.returns
returns c =
    let w = viewed c.args.p _ c.in_ok-view.ensures in
    quiets_tested c.args.p w.0 _ w.1 _ c.from.ensures _ c.has_quiet.ensures
