-- The FEN has room.
use Rattle.std.proofs.Common.{rules}
use mathlib.Core.Path.{◌≡◌, ◌∙◌}
use Rattle.positions.specs.Acceptance.{sound}
use Rattle.positions.specs.Boards.{board_of}
use Rattle.squares.specs.declared.refusal.Refusal.TheVariants.{BadPosition}
use Rattle.texts.specs.Fen.{fen_text, fen_of, fen_lent}
use Rattle.replies.specs.Answers.{fen_word}
use Rattle.replies.proofs.Told.{fen_fits, fen_answer_lem, fen_bytes}
use Rattle.replies.proofs.answers.put_fen.Goals as goal

pub returns : goal.returns
unfolding fen_word
returns c =
    let p = c.args.p in
    c.put_written.ensures (sound p) (fen_text (board_of p)) BadPosition (fen_fits p) (λ old new r l k.
    let e : (r ≡ fen_of p old) × (new ≡ fen_lent p old) = search rules in
    (e.0 ∙ fen_answer_lem p old, e.1 ∙ fen_bytes p old))
