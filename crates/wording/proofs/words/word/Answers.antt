-- The item of this index, where there is one.
use mathlib.Core.Path.{refl}
use Rattle.std.proofs.lemmas.Iterator.Consumers.{YieldsList-from_first, nth_from_yields_List}
use Rattle.texts.specs.Bytes.{parts_at}
use Rattle.wording.specs.Steps.{words_left}
use Rattle.wording.proofs.LineWords.{word_found}
use Rattle.wording.proofs.words.word.Goals as goal

pub returns : goal.returns
returns c =
    let words = YieldsList-from_first (λ word. word.now) words_left (parts_at 32 c.args.s.now) refl in
    word_found c.args.s.now c.args.index _ _ _ (nth_from_yields_List _ c.nth.new.self _ c.nth.ensures.ran words) c.unwrap_or.ensures refl
