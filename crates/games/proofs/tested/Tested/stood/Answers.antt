-- The kept positions that are the current one are counted.
use Rattle.std.proofs.Common.{◌≡◌, rules, ◌∙◌, ap}
use Rattle.std.specs.Prelude.{count_by}
use Rattle.positions.specs.declared.position.Position.{Position}
use Rattle.rules.proofs.Times.{times_counted}
use Rattle.rules.specs.Lists.{times}
use Rattle.games.specs.Games.{same_position, window_of, stood}
use Rattle.games.proofs.tested.Tested.stood.Goals as goal

pub returns : goal.returns
unfolding stood window_of
returns c =
    let p = c.last-p.result in
    let window = window_of c.args.self.game.now in
    let counted : c.count.result ≡ count_by (λ (q : Position). same_position q p) window = search rules in
    counted ∙ times_counted same_position p window ∙ ap (times same_position window) c.last-p.ensures
