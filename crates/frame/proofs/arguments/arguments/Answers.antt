-- Word by word: what was put so far is the words so far, joined.
use mathlib.Core.Path.{ap, ◌∙◌}
use mathlib.Core.List.{List}
use Rattle.std.proofs.Common.{MutBor}
use Prim.Native.Nat.{ℕ}
use Rattle.texts.proofs.Overs.{same_name}
use Rattle.frame.proofs.Joining as laws
use borrow.Author.Rules.{rules}
use native.Mathlib.Omega.{arith}
use Rattle.frame.proofs.arguments.arguments.Goals as goal

pub loop-i-init : goal.loop-i-init
loop-i-init g c = (search rules, laws.one_word _ _ _ _ (ap (λ (r : MutBor (List ℕ)). r.now) c.new-space.ensures.bytes) c.new-space.ensures.at c.put.ensures)

pub loop-i-preserved : goal.loop-i-preserved
loop-i-preserved g c = (search rules, laws.one_more _ _ c.loop-i.invariant.1 c.join.ensures)

pub returns : goal.returns
returns g c =
    let n = laws.kept_name c.loop-i.invariant.1 ∙ same_name _ _ _ c.put.ensures in
    let m = ap (λ (r : MutBor (List ℕ)). r.ghost_name) c.new-space.ensures.bytes in
    let h = laws.all_given c.loop-i.invariant.1 (λ e. omega (arith, c.if-space.false, e)) in
    search (rules, h, n, m)
