-- `ok`, then what the call writes.
use mathlib.Core.Path.{sym, ◌∙◌}
use Rattle.texts.proofs.Overs.{over_then}
use Rattle.replies.proofs.Founds.{found_said}
use Rattle.replies.proofs.answers.tell.Goals as goal

pub returns-in-Some : goal.returns-in-Some
returns-in-Some g c word puts =
    found_said _ _ _ _ _ _ (sym c.found.ensures.value ∙ c.in-Some.is) c.found.ensures.out_after (over_then _ _ _ _ _ c.put_ok.ensures (puts _ _ _ c.put.ensures))
