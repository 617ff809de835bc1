-- Each turn stores the count below one move of the list of the rules; a refusal is that of the whole count.
use Rattle.std.proofs.Common.{rules}
use Rattle.std.specs.Prelude.{Err}
use mathlib.Core.Path.{◌≡◌, refl, sym, ◌∙◌, ap}
use Rattle.movegen.specs.Generate.{seen}
use Rattle.movegen.proofs.Generated.{listed_some, listed_none}
use Rattle.movegen.proofs.Counted.{depth_many, many, listing_short, as_many, sum_below, next_accepted, sum_again, sum_refused, sum_done}
use Rattle.movegen.proofs.Divided.{dividing_more, dividing_done, divided_refused}
use native.Mathlib.Omega.{arith}
use Rattle.movegen.proofs.perft.split.Goals as goal

pub returns-in_err-list : goal.returns-in_err-list
returns-in_err-list c =
    let q : c.from_residual.result ≡ Err c.in_err-list.field-0.0 = search rules in
    let n = listed_none _ c.in_err-list.ensures.value in
    q ∙ ap Err n.1
    ∙ divided_refused c.args.plies (seen c.args.v) _ (sym (depth_many c.args.plies (seen c.args.v) (many c.args.v c.requires.0 (n.0 ∙ c.generate.ensures))))

pub count-requires : goal.count-requires
count-requires c =
    let d = c.loop-i.invariant.1 in (
      next_accepted c.args.v c.requires.0 _ (listed_some _ c.in_ok-list.ensures.value ∙ c.generate.ensures) _ c.entries-mv-items.ensures c.args.plies _ _ d.counting c.loop-i-test.true _ c.next.ensures,
      omega (arith, c.requires.1),
    )

pub returns-in_err-counts : goal.returns-in_err-counts
returns-in_err-counts c =
    let d = c.loop-i.invariant.1 in
    let h = c.loop-i-test.true in
    let q : c.from_residual-in_err-counts.result ≡ Err c.in_err-counts.field-0.0 = search rules in
    q
    ∙ divided_refused c.args.plies (seen c.args.v) _ (sym (sum_refused c.args.v c.requires.0 _ (listed_some _ c.in_ok-list.ensures.value ∙ c.generate.ensures) _ c.entries-mv-items.ensures c.args.plies _ _ d.counting h _ c.next.ensures c.requires.1 _ c.in_err-counts.ensures _ refl))

pub loop-i-preserved : goal.loop-i-preserved
loop-i-preserved c =
    let d = c.loop-i.invariant.1 in
    let h = c.loop-i-test.true in
    let w = listing_short c.args.v c.requires.0 _ (listed_some _ c.in_ok-list.ensures.value ∙ c.generate.ensures) _ c.entries-mv-items.ensures c.args.plies _ _ d.counting in
    let m = as_many c.args.v c.requires.0 _ (listed_some _ c.in_ok-list.ensures.value ∙ c.generate.ensures) _ c.entries-mv-items.ensures c.args.plies _ _ d.counting in (
      omega (arith, h),
      dividing_more c.args.plies (seen c.args.v) _ _ _ d (omega (arith, m, h)) (omega (arith, m, w.few, h))
          (sum_below c.args.v c.requires.0 _ (listed_some _ c.in_ok-list.ensures.value ∙ c.generate.ensures) _ c.entries-mv-items.ensures c.args.plies _ _ d.counting h _ c.next.ensures _ _ c.in_ok-counts.ensures refl)
          (sum_again c.args.v c.requires.0 _ (listed_some _ c.in_ok-list.ensures.value ∙ c.generate.ensures) _ c.entries-mv-items.ensures c.args.plies _ _ d.counting h _ c.next.ensures c.requires.1 _ c.in_ok-counts.ensures _ refl),
    )

pub returns : goal.returns
returns c =
    let d = c.loop-i.invariant.1 in
    let w = listing_short c.args.v c.requires.0 _ (listed_some _ c.in_ok-list.ensures.value ∙ c.generate.ensures) _ c.entries-mv-items.ensures c.args.plies _ _ d.counting in
    let m = as_many c.args.v c.requires.0 _ (listed_some _ c.in_ok-list.ensures.value ∙ c.generate.ensures) _ c.entries-mv-items.ensures c.args.plies _ _ d.counting in
    dividing_done c.args.plies (seen c.args.v) _ _ _ d (omega (arith, m, c.loop-i.invariant.0, c.loop-i-test.false)) w.few w.whole
    (sum_done c.args.v c.requires.0 _ (listed_some _ c.in_ok-list.ensures.value ∙ c.generate.ensures) _ c.entries-mv-items.ensures c.args.plies _ _ d.counting c.loop-i-test.false)
