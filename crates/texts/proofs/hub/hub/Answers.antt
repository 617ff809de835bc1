-- 12, then the lent space decides.
use mathlib.Core.Path.{◌≡◌, ap, sym, ◌∙◌}
use mathlib.Core.List.{List}
use Prim.Native.Nat.{ℕ}
use borrow.Author.Rules.{rules}
use Rattle.std.specs.Prelude.{Err}
use Rattle.squares.proofs.Refusals.{holds, fails}
use Rattle.squares.specs.declared.refusal.Refusal.TheVariants.{BadPosition}
use Rattle.texts.specs.Lent.{emit_of, emitted}
use Rattle.texts.specs.Hub.{hub_of, hub_lent}
use Rattle.texts.proofs.hub.hub.Goals as goal

pub returns-in_err-unless : goal.returns-in_err-unless
unfolding hub_of hub_lent
returns-in_err-unless c =
    let s = sym c.sound.ensures ∙ fails _ _ c.in_err-unless.ensures in
    let q : c.from_residual.result ≡ Err BadPosition = search rules in
    record { value = rw s q; out_after = rw s }

pub returns : goal.returns
unfolding hub_lent hub_of
returns c =
    let s = sym c.sound.ensures ∙ holds _ _ c.in_ok-unless.ensures in
    record {
      value = rw s (c.emit.ensures.value ∙ ap (λ (x : List ℕ). emit_of x c.args.out.now) c.hub_text.ensures);
      out_after = rw s (c.emit.ensures.out_after ∙ ap (λ (x : List ℕ). emitted x c.args.out.now) c.hub_text.ensures);
    }
