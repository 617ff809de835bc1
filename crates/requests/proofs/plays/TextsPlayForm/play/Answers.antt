-- Read of the word's text.
use mathlib.Core.Path.{◌≡◌}
use borrow.Author.Rules.{rules}
use Rattle.gametexts.specs.Texts.{play_str_of}
use Rattle.requests.proofs.PlayLaws as laws
use Rattle.requests.proofs.plays.TextsPlayForm.play.Goals as goal

pub returns : goal.returns
returns c =
    let q : c.unescaped.result ≡ play_str_of c.args.g c.unescaped.ensures.0.now = search rules in
    laws.text_played c.args.word.now _ c.args.g _ q c.unescaped.ensures.2
