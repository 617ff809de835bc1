-- Word by word: what is written of the words that are left ends what is written of all.
use mathlib.Core.Path.{ap, ◌∙◌}
use mathlib.Core.List.{List, ◌++◌}
use Prim.Native.Nat.{ℕ}
use Rattle.games.specs.declared.game.Game.{Game}
use Rattle.texts.specs.Lent.{over}
use Rattle.texts.proofs.Overs as overs
use Rattle.wording.specs.Steps.{words_left}
use Rattle.requests.specs.Plays.{game_text}
use Rattle.requests.proofs.PlayLaws as laws
use Rattle.requests.proofs.plays.play_words.Goals as goal

pub loop-word-preserved : goal.loop-word-preserved
loop-word-preserved g c =
    overs.over_moved _ _ _ _ _
    (ap (λ (h : Game). over (g.F.PlayForm.told c.play-r.result ++ game_text g.F.PlayForm.played g.F.PlayForm.told h (words_left c.next.new.self)) c.loop-word.out) c.played_on-g.ensures
    ∙ ap (λ (t : List ℕ). over t c.loop-word.out) (laws.game_next _ _ _ _ _ c.in-Some.ensures.steps c.loop-word.g _ c.play-r.ensures) ∙ c.loop-word.invariant)
    c.tell.ensures
