-- Each turn adds the count below one move of the list of the rules; the depth falls.
use native.Mathlib.Omega.{arith}
use Rattle.std.proofs.Common.{rules}
use Rattle.std.specs.Prelude.{Err}
use mathlib.Core.Path.{◌≡◌, refl, sym, ap, ◌∙◌}
use Prim.Native.Nat.{ℕ, ◌-◌}
use Rattle.movegen.specs.Counts.{depth_count}
use Rattle.movegen.specs.Generate.{seen}
use Rattle.movegen.proofs.LastPly.{last_ply}
use Rattle.movegen.proofs.Counted.{depth_none, depth_many, one_more, many, sum_done, next_accepted, sum_fits, sum_again, sum_refused}
use Rattle.movegen.proofs.perft.+count.Goals as goal

pub returns-then-depth-eq0 : goal.returns-then-depth-eq0
returns-then-depth-eq0 t c = depth_none _ _ c.if-depth-eq0.true

pub returns-then-depth-eq1 : goal.returns-then-depth-eq1
returns-then-depth-eq1 t c =
    c.last_ply.ensures ∙ last_ply c.args.v c.requires.0 ∙ ap (λ (d : ℕ). depth_count d (seen c.args.v)) (sym c.if-depth-eq1.true)

pub returns-in_default : goal.returns-in_default
returns-in_default t c =
    depth_many (c.args.depth - 1) (seen c.args.v) (many c.args.v c.requires.0 (sym c.in_default.is ∙ c.generate.ensures))
    ∙ one_more c.args.depth (seen c.args.v) c.if-depth-eq0.false

pub count-requires : goal.count-requires
count-requires t c = (
  omega arith,
  (
    next_accepted c.args.v c.requires.0 _ c.in-Some.ensures _ c.entries-mv-items.ensures (c.args.depth - 1) _ _ c.loop-mv.invariant c.loop-mv-test.true _ c.next.ensures,
    omega (arith, c.requires.1),
  ),
)

pub overflow_add-sum : goal.overflow_add-sum
overflow_add-sum t c =
    omega (arith, sum_fits c.args.v c.requires.0 _ c.in-Some.ensures _ c.entries-mv-items.ensures (c.args.depth - 1) _ _ c.loop-mv.invariant c.loop-mv-test.true _ c.next.ensures (omega (arith, c.requires.1)) _ c.in_ok-sum.ensures _ refl)

pub returns-in_err-sum : goal.returns-in_err-sum
returns-in_err-sum t c =
    let q : c.from_residual.result ≡ Err c.in_err-sum.field-0.0 = search rules in
    q
    ∙ sum_refused c.args.v c.requires.0 _ c.in-Some.ensures _ c.entries-mv-items.ensures (c.args.depth - 1) _ _ c.loop-mv.invariant c.loop-mv-test.true _ c.next.ensures (omega (arith, c.requires.1)) _ c.in_err-sum.ensures _ refl
    ∙ one_more c.args.depth (seen c.args.v) c.if-depth-eq0.false

pub loop-mv-preserved : goal.loop-mv-preserved
loop-mv-preserved t c =
    sum_again c.args.v c.requires.0 _ c.in-Some.ensures _ c.entries-mv-items.ensures (c.args.depth - 1) _ _ c.loop-mv.invariant c.loop-mv-test.true _ c.next.ensures (omega (arith, c.requires.1)) _ c.in_ok-sum.ensures _ refl

pub returns : goal.returns
returns t c =
    sum_done c.args.v c.requires.0 _ c.in-Some.ensures _ c.entries-mv-items.ensures (c.args.depth - 1) _ _ c.loop-mv.invariant (omega (arith, c.loop-mv-test.false))
    ∙ one_more c.args.depth (seen c.args.v) c.if-depth-eq0.false
