-- The Hub text of a move has room.
use Rattle.std.proofs.Common.{rules}
use native.Mathlib.Omega.{arith}
use Rattle.positions.specs.Moves.{squares_of}
use Rattle.squares.specs.declared.refusal.Refusal.TheVariants.{NoSuchSquare}
use Rattle.notation.specs.MoveText.{move_text, to_hub_of, to_hub_lent}
use Rattle.notation.proofs.MoveTexts.{move_short}
use Rattle.replies.specs.Answers.{move_word}
use Rattle.replies.proofs.answers.put_move.Goals as goal

pub returns : goal.returns
unfolding move_word to_hub_of to_hub_lent
returns c =
    let m = c.args.m in
    c.put_written.ensures (squares_of m) (move_text m) NoSuchSquare (λ s. omega (arith, move_short m s)) (λ old new r l k. search rules)
