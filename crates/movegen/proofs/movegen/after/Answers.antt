-- Refusals in the order of docs/REFUSALS.md. A listed move can be played, and the result is the successor with its
-- hash.
use Rattle.std.proofs.Common.{rules}
use Rattle.std.specs.Prelude.{Ok, Err}
use mathlib.Core.Path.{◌≡◌, sym, ap, ◌∙◌}
use Rattle.squares.specs.declared.refusal.Refusal.TheVariants.{NoMoveFits}
use Rattle.squares.proofs.Refusals.{holds, fails}
use Rattle.movegen.proofs.Generated.{viewed, generated_is, listed_some, listed_none}
use Rattle.movegen.proofs.Listed.{many_ltb, few_ltb, found_law, played_many, played_none, played_one, after_at}
use Rattle.movegen.proofs.movegen.after.Goals as goal

pub returns-in_err-list : goal.returns-in_err-list
returns-in_err-list c =
    let p = c.args.p in
    let m = c.args.m in
    let w = viewed p _ c.in_ok-v.ensures in
    let q = sym c.on_board.ensures ∙ holds _ _ c.in_ok-unless.ensures in
    let r : c.from_residual-in_err-list.result ≡ Err c.in_err-list.field-0.0 = search rules in
    let n = listed_none _ c.in_err-list.ensures.value in
    r ∙ ap Err n.1
    ∙ played_many p m (many_ltb _ (generated_is p w.0 _ w.1 _ (n.0 ∙ c.generate.ensures))) ∙ after_at p m w.0 q

pub returns-in_err-unless-2 : goal.returns-in_err-unless-2
returns-in_err-unless-2 c =
    let p = c.args.p in
    let m = c.args.m in
    let w = viewed p _ c.in_ok-v.ensures in
    let q = sym c.on_board.ensures ∙ holds _ _ c.in_ok-unless.ensures in
    let l = generated_is p w.0 _ w.1 _ (listed_some _ c.in_ok-list.ensures.value ∙ c.generate.ensures) in
    let r : c.from_residual-in_err-unless-2.result ≡ Err NoMoveFits = search rules in
    r ∙ played_none p m (few_ltb _ _ l) (sym (found_law _ _ m l) ∙ sym c.contains.ensures ∙ fails _ _ c.in_err-unless-2.ensures) ∙ after_at p m w.0 q

pub returns : goal.returns
returns c =
    let p = c.args.p in
    let m = c.args.m in
    let w = viewed p _ c.in_ok-v.ensures in
    let q = sym c.on_board.ensures ∙ holds _ _ c.in_ok-unless.ensures in
    let l = generated_is p w.0 _ w.1 _ (listed_some _ c.in_ok-list.ensures.value ∙ c.generate.ensures) in
    ap Ok c.play.ensures
    ∙ played_one p m w.0 (few_ltb _ _ l) (sym (found_law _ _ m l) ∙ sym c.contains.ensures ∙ holds _ _ c.in_ok-unless-2.ensures) ∙ after_at p m w.0 q
