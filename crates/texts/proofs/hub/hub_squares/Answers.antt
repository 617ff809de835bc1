-- All squares are read in order; after the last one nothing may come.
use mathlib.Core.Path.{◌≡◌, ap, ◌∙◌}
use Prim.Native.Nat.{ℕ}
use Rattle.std.proofs.Common.{rules}
use Rattle.std.specs.Prelude.{Err}
use lib.ListN.{length}
use lib.Dec.{eqb}
use Rattle.squares.specs.declared.refusal.Refusal.TheVariants.{NotFifty}
use Rattle.squares.proofs.Refusals.{stopped, passed}
use Rattle.texts.specs.Hub.{hub_byte_of, hub_from}
use Rattle.texts.proofs.TryFolds.{folded}
use Rattle.texts.proofs.Readers as laws
use Rattle.texts.proofs.hub.hub_squares.Goals as goal

pub returns-in_err-p : goal.returns-in_err-p
returns-in_err-p c =
    let s = c.args.s.now in
    let r = folded c.try_fold.result c.try_fold.new.self (λ p (x : ℕ × ℕ). hub_byte_of x.0 x.1 p) _ c.begun.result c.try_fold.ensures.ran
    (laws.goes_over s (search rules) (search rules)) (λ p x q t. (search rules, search (rules, t))) (λ a e. e) (λ h a x m i. (m.2.0, search (rules, m, i), search (rules, m))) in
    let q : c.from_residual.result ≡ Err c.in_err-p.field-0.0 = search rules in
    q ∙ laws.hub_numbered s c.begun.result r c.in_err-p.was ∙ ap (λ b. hub_from 50 1 b s) c.begun.ensures

pub returns-in_err-unless : goal.returns-in_err-unless
returns-in_err-unless c =
    let s = c.args.s.now in
    let r = folded c.try_fold.result c.try_fold.new.self (λ p (x : ℕ × ℕ). hub_byte_of x.0 x.1 p) _ c.begun.result c.try_fold.ensures.ran
    (laws.goes_over s (search rules) (search rules)) (λ p x q t. (search rules, search (rules, t))) (λ a e. e) (λ h a x m i. (m.2.0, search (rules, m, i), search (rules, m))) in
    let q : c.from_residual-in_err-unless.result ≡ Err c.in_err-unless.field-0.0 = search rules in
    q ∙ stopped NotFifty (eqb (length s) 50) _ c.in_err-unless.ensures ∙ laws.hub_numbered s c.begun.result r c.in_ok-p.was ∙ ap (λ b. hub_from 50 1 b s) c.begun.ensures

pub returns : goal.returns
returns c =
    let s = c.args.s.now in
    let r = folded c.try_fold.result c.try_fold.new.self (λ p (x : ℕ × ℕ). hub_byte_of x.0 x.1 p) _ c.begun.result c.try_fold.ensures.ran
    (laws.goes_over s (search rules) (search rules)) (λ p x q t. (search rules, search (rules, t))) (λ a e. e) (λ h a x m i. (m.2.0, search (rules, m, i), search (rules, m))) in
    passed NotFifty (eqb (length s) 50) _ c.in_ok-unless.ensures ∙ laws.hub_numbered s c.begun.result r c.in_ok-p.was ∙ ap (λ b. hub_from 50 1 b s) c.begun.ensures
