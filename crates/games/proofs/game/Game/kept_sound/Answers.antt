-- All kept positions are looked at.
use Rattle.std.proofs.Common.{◌≡◌, ◌∙◌, rules, tests}
use Rattle.std.proofs.lemmas.Iterator.{YieldsList-from_slice}
use Rattle.std.proofs.lemmas.Iterator.Search.{all_from_yields_List}
use Rattle.std.specs.List.{list_all}
use Rattle.positions.specs.Acceptance.{sound}
use Rattle.games.specs.Games.{window_of}
use Rattle.games.proofs.Window.{all_tested}
use Rattle.games.proofs.game.Game.kept_sound.Goals as goal

pub returns : goal.returns
unfolding window_of
returns c =
    let looked : c.iter.result.rest.now ≡ window_of c.args.self.now = search rules in
    let all : c.all.result ≡ list_all sound (window_of c.args.self.now) = all_from_yields_List sound _ _ c.all.result c.all.ensures.ran (YieldsList-from_slice _ looked) (λ x b q k. search (rules, tests)) in
    all ∙ all_tested (window_of c.args.self.now)
