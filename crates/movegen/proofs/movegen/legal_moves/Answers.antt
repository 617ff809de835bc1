-- Refusals in the order of docs/REFUSALS.md; the generator's list is that of the rules, and the limit is tested on it.
use Rattle.std.proofs.Common.{rules}
use Rattle.std.specs.Prelude.{Ok, Err}
use mathlib.Core.Path.{◌≡◌, ◌∙◌, ap}
use lib.Dec.{leb}
use borrow.Author.Tests.{leb-true}
use Rattle.squares.proofs.Refusals.{holds, stopped, passed}
use Rattle.movegen.specs.Lists.{legal_moves_of}
use Rattle.movegen.proofs.Generated.{viewed, goes_on, generated_is, listed_some, listed_none}
use Rattle.movegen.proofs.Listed.{limit_none, limit_some}
use Rattle.movegen.proofs.movegen.legal_moves.Goals as goal

pub returns-in_err-list : goal.returns-in_err-list
unfolding legal_moves_of
returns-in_err-list c =
    let p = c.args.p in
    let w = viewed p _ c.in_ok-v.ensures in
    let f = holds _ (leb c.args.limit 256) c.in_ok-unless.ensures in
    let q : c.from_residual-in_err-list.result ≡ Err c.in_err-list.field-0.0 = search rules in
    let n = listed_none _ c.in_err-list.ensures.value in
    q ∙ ap Err n.1
    ∙ limit_none _ c.args.limit (leb-true _ _ f) (generated_is p w.0 _ w.1 _ (n.0 ∙ c.generate.ensures))
    ∙ passed _ (leb c.args.limit 256) _ c.in_ok-unless.ensures
    ∙ goes_on p _ w.0

pub returns-in_err-unless-2 : goal.returns-in_err-unless-2
unfolding legal_moves_of
returns-in_err-unless-2 c =
    let p = c.args.p in
    let l = c.in_ok-list.list in
    let w = viewed p _ c.in_ok-v.ensures in
    let q : c.from_residual-in_err-unless-2.result ≡ Err c.in_err-unless-2.field-0.0 = search rules in
    q ∙ stopped _ (leb l.len c.args.limit) (Ok l) c.in_err-unless-2.ensures
    ∙ limit_some _ c.args.limit l (generated_is p w.0 _ w.1 _ (listed_some _ c.in_ok-list.ensures.value ∙ c.generate.ensures))
    ∙ passed _ (leb c.args.limit 256) _ c.in_ok-unless.ensures
    ∙ goes_on p _ w.0

pub returns : goal.returns
unfolding legal_moves_of
returns c =
    let p = c.args.p in
    let l = c.in_ok-list.list in
    let w = viewed p _ c.in_ok-v.ensures in
    passed _ (leb l.len c.args.limit) (Ok l) c.in_ok-unless-2.ensures
    ∙ limit_some _ c.args.limit l (generated_is p w.0 _ w.1 _ (listed_some _ c.in_ok-list.ensures.value ∙ c.generate.ensures))
    ∙ passed _ (leb c.args.limit 256) _ c.in_ok-unless.ensures
    ∙ goes_on p _ w.0
