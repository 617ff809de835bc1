-- The kept positions are copied onto blank ones, and the new one is stored over the next.
use mathlib.Core.Path.{◌≡◌}
use lib.ListN.{length}
use Rattle.games.specs.Games.{blank_position, window_of}
use Rattle.games.specs.Play.{appended_of}
use Rattle.squares.proofs.Lengths.{length_of_map}
use Rattle.games.proofs.Window.{appended_blank}
use borrow.Author.Rules.{rules}
use Rattle.games.proofs.game.Game.appended.Goals as goal

pub returns : goal.returns
unfolding appended_of window_of
returns c =
    let g = c.args.self.now in
    let k : length g.kept ≡ 51 = search (rules, length_of_map) in
    let copied : c.copy_from_slice.new.self ≡ window_of g = search rules in
    rw (copied, appended_blank blank_position c.args.p g.len g.kept k c.requires.len_bound)
