-- A sound position has a text of at most 196 bytes; then it is lent space that decides.
use mathlib.Core.Path.{◌≡◌, ap, sym, ◌∙◌}
use mathlib.Core.List.{List}
use Prim.Native.Nat.{ℕ}
use lib.ListN.{length}
use borrow.Author.Rules.{rules}
use borrow.Author.Tests.{le-leb}
use Rattle.std.specs.Prelude.{Err}
use Rattle.squares.proofs.Refusals.{holds, fails}
use Rattle.texts.specs.Lent.{emit_of, emitted, text_of}
use Rattle.texts.specs.Fen.{fen_text, fen_of, fen_lent}
use Rattle.squares.specs.declared.refusal.Refusal.TheVariants.{BadPosition}
use Rattle.positions.specs.Boards.{board_of}
use Rattle.texts.proofs.FenLength.{fen_fits, fen_written}
use Rattle.std.proofs.Common.{MutBor}
use Rattle.texts.proofs.fen.fen.Goals as goal

pub returns-in_err-unless : goal.returns-in_err-unless
unfolding fen_of fen_lent
returns-in_err-unless c =
    let s = sym c.sound.ensures ∙ fails _ _ c.in_err-unless.ensures in
    let q : c.from_residual.result ≡ Err BadPosition = search rules in
    record { value = rw s q; out_after = rw s }

pub returns : goal.returns
unfolding fen_of fen_lent
returns c =
    let p = c.args.p in
    let o = c.args.out.now in
    let s = sym c.sound.ensures ∙ holds _ _ c.in_ok-unless.ensures in
    let h = le-leb (length (fen_text (board_of p))) 200 (fen_fits p s) in
    let t = c.text.ensures ∙ ap text_of c.put_fen.ensures ∙ fen_written p _ s c.new-space.ensures.at (ap (λ (r : MutBor (List ℕ)). length r.now) c.new-space.ensures.bytes) in
    record {
      value = rw (s, h) (c.emit.ensures.value ∙ ap (λ (x : List ℕ). emit_of x o) t);
      out_after = rw (s, h) (c.emit.ensures.out_after ∙ ap (λ (x : List ℕ). emitted x o) t);
    }
