-- Word by word: what is written of the words that are left ends what is written of all.
use mathlib.Core.Path.{◌≡◌}
use Rattle.texts.specs.Lent.{over}
use Rattle.wording.specs.Steps.{words_left}
use Rattle.requests.specs.Plays.{game_text, words_of}
use Rattle.requests.proofs.plays.play_words.Given as goal

abbrev pub invariant-loop-word : goal.invariant-loop-word
invariant-loop-word g l = over (game_text g.F.PlayForm.played g.F.PlayForm.told l.g (words_left l.word-iterator)) l.out ≡ over (game_text g.F.PlayForm.played g.F.PlayForm.told l.initial.g (words_of l.s)) l.initial.out
