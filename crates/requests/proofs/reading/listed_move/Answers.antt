-- Read of the word's text.
use mathlib.Core.Path.{◌≡◌}
use borrow.Author.Rules.{rules}
use Rattle.notation.specs.Choice.{parse_move_of}
use Rattle.requests.proofs.Readings as readings
use Rattle.requests.proofs.reading.listed_move.Goals as goal

pub returns : goal.returns
returns c =
    let q : c.unescaped.result ≡ parse_move_of c.args.p c.unescaped.ensures.0.now = search rules in
    readings.move_read c.args.word.now _ c.args.p _ q c.unescaped.ensures.2
