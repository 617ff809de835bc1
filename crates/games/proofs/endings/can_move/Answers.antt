-- Both tests hold on a sound position, so that what they say is what the rules say.
use mathlib.Core.Path.{◌∙◌}
use Rattle.movegen.proofs.Answers.{captures_told, quiets_told}
use Rattle.games.specs.Games.{can_move}
use Rattle.games.proofs.endings.can_move.Goals as goal

pub returns : goal.returns
unfolding can_move
returns c =
    let p = c.args.p in
    let s = c.requires in
    let a = c.has_captures.ensures ∙ captures_told p s in
    let b = c.has_quiet_moves.ensures ∙ quiets_told p s in
    rw (c.unwrap_or.ensures, a, c.unwrap_or-2.ensures, b)
