-- Read of the word's text.
use Rattle.requests.proofs.Readings as readings
use Rattle.requests.proofs.reading.position.Goals as goal

pub returns : goal.returns
returns c = readings.position_read c.args.word.now _ _ c.unescaped.ensures.1 c.unescaped.ensures.2
