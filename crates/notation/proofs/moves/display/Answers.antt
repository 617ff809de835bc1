-- What is put is the short text of the move.
use native.Mathlib.Omega.{arith}
use borrow.Author.Rules.{rules}
use Rattle.notation.specs.MoveText.{short_text, display_of, display_lent}
use Rattle.notation.proofs.MoveTexts.{short_short}
use Rattle.notation.proofs.moves.display.Goals as goal

pub returns : goal.returns
unfolding display_of display_lent
returns c =
    let r = c.emit_by.ensures (short_text c.args.m) (λ x old new e l. search rules) (λ s. omega (arith, short_short c.args.m)) in
    record { value = r.0; out_after = r.1 }
