-- Read of the word's text.
use Rattle.requests.proofs.Readings as readings
use Rattle.requests.proofs.reading.fen.Goals as goal

pub returns : goal.returns
returns c = readings.fen_read c.args.word.now _ _ c.unescaped.ensures.1 c.unescaped.ensures.2
