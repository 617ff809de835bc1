-- What is put is the text of the move.
use native.Mathlib.Omega.{arith}
use borrow.Author.Rules.{rules}
use Rattle.notation.specs.MoveText.{move_text, to_hub_of, to_hub_lent}
use Rattle.notation.proofs.MoveTexts.{move_short}
use Rattle.notation.proofs.moves.to_hub.Goals as goal

pub returns : goal.returns
unfolding to_hub_of to_hub_lent
returns c =
    let r = c.emit_by.ensures (move_text c.args.m) (λ x old new e l. search rules) (λ s. omega (arith, move_short c.args.m s)) in
    record { value = r.0; out_after = r.1 }
