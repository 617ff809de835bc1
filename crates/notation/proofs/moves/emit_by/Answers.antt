-- 11, then the lent space decides: the space holds the text.
use Rattle.std.proofs.Common.{rules, MutBor, length}
use Rattle.std.specs.Prelude.{Err}
use mathlib.Core.Path.{◌≡◌, refl, ap, ◌∙◌}
use mathlib.Core.List.{List}
use Prim.Native.Nat.{ℕ}
use native.Mathlib.Omega.{arith}
use Rattle.squares.proofs.Refusals.{holds, fails, stopped}
use Rattle.positions.specs.Moves.{squares_of}
use Rattle.texts.specs.Lent.{emit_of, emitted, text_of}
use Rattle.texts.proofs.Overs.{over_text}
use Rattle.notation.proofs.moves.emit_by.Goals as goal

pub returns-in_err-unless : goal.returns-in_err-unless
returns-in_err-unless g c t w h =
    let q : c.from_residual.result ≡ Err c.in_err-unless.field-0.0 = search rules in
    let s = fails _ (squares_of c.args.m) (rw c.on_board.ensures at c.in_err-unless.ensures) in
    (q ∙ stopped _ (squares_of c.args.m) _ (rw c.on_board.ensures at c.in_err-unless.ensures), rw s refl)

pub returns : goal.returns
returns g c t w h =
    let o = c.args.out.now in
    let s = holds _ (squares_of c.args.m) (rw c.on_board.ensures at c.in_ok-unless.ensures) in
    let n : length c.new-space.result.bytes.now ≡ 200 = ap (λ (r : MutBor (List ℕ)). length r.now) c.new-space.ensures.bytes in
    let e : ◌≡◌ {A = List ℕ} c.text.result.now t =
    c.text.ensures ∙ ap text_of (w _ _ _ refl c.put.ensures)
    ∙ over_text t _ c.new-space.ensures.at (omega (arith, h s, n)) in
    rw s (c.emit.ensures.value ∙ ap (λ (x : List ℕ). emit_of x o) e, c.emit.ensures.out_after ∙ ap (λ (x : List ℕ). emitted x o) e)
