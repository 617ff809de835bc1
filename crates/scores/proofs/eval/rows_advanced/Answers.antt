-- The chain adds up the ten rows; each square is counted in its row.
use Rattle.std.proofs.Common.{◌≡◌, ◌<◌, ap, ◌∙◌, arith, rules, tests, ℕ, ◌^◌}
use Rattle.std.specs.declared.ops.Range.{Range}
use Rattle.std.proofs.lemmas.Iterator.{YieldsList-from_range, YieldsList-from_map, serves_from_Range}
use Rattle.std.proofs.lemmas.Iterator.Consumers.{sum_by_from_yields_List, fits_by_from_yields_list}
use Rattle.scores.proofs.Advances.{rows, in_row, rows_sum, rows_most, by_rows_is, row_few}
use Rattle.scores.proofs.eval.rows_advanced.Goals as goal

-- the range ends at ten
ten : (s : Range ℕ) → s ≡ record { start = 0; end = 10 } → s.end ≡ 10
ten s e = ap (λ (t : Range ℕ). t.end) e

pub sum-requires-clause-can : goal.sum-requires-clause-can
sum-requires-clause-can c = (
  tt,
  serves_from_Range (λ x q k. search (rules, tests))
      (λ x a b.
      let lt : x < 10 = omega (arith, b, ten _ c.map.ensures.source) in (
        search (rules, lt),
        search (arith, rules, lt),
        search (rules, lt),
        λ κs p g m r t ahead f i u w count. omega (arith, row_few _ x _ _ _ lt ahead.ensures count.ensures),
      )),
)

pub sum-requires-clause-fits : goal.sum-requires-clause-fits
sum-requires-clause-fits c =
    fits_by_from_yields_list (in_row c.args.color c.args.men) rows _ (2 ^ 32)
    (YieldsList-from_map _ (in_row c.args.color c.args.men) (YieldsList-from_range 0 10 10 (cc) (omega arith)) c.map.ensures.closure (λ x r q k. search (rules, tests)))
    (omega (arith, rows_most c.args.color c.args.men))

pub returns : goal.returns
returns c =
    let sum = sum_by_from_yields_List (in_row c.args.color c.args.men) rows _ c.sum.result c.sum.ensures.ran
    (YieldsList-from_map _ (in_row c.args.color c.args.men) (YieldsList-from_range 0 10 10 (cc) (omega arith)) c.map.ensures.closure (λ x r q k. search (rules, tests))) in
    record {
      value = sum ∙ rows_sum c.args.color c.args.men ∙ by_rows_is c.args.color c.args.men;
      upper_bound = omega (arith, sum, rows_most c.args.color c.args.men);
    }
