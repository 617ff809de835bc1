-- The Hub text has room.
use Rattle.std.proofs.Common.{rules}
use Rattle.positions.specs.Acceptance.{sound}
use Rattle.positions.specs.Boards.{board_of}
use Rattle.squares.specs.declared.refusal.Refusal.TheVariants.{BadPosition}
use Rattle.texts.specs.Hub.{hub_text, hub_of, hub_lent}
use Rattle.replies.specs.Answers.{hub_word}
use Rattle.replies.proofs.Told.{hub_fits}
use Rattle.replies.proofs.answers.put_hub.Goals as goal

pub returns : goal.returns
unfolding hub_word hub_of hub_lent
returns c =
    let p = c.args.p in
    c.put_written.ensures (sound p) (hub_text (board_of p)) BadPosition (λ s. hub_fits p) (λ old new r l k. search rules)
