-- Row by row.
use mathlib.Core.Path.{◌≡◌, ap}
use mathlib.Core.List.{List}
use Prim.Native.Nat.{ℕ}
use borrow.Author.Rules.{rules}
use Rattle.std.proofs.Common.{MutBor}
use Rattle.texts.proofs.Overs.{over_lent, same_name}
use Rattle.texts.specs.Lent.{over}
use Rattle.requests.specs.Requests.{help_text}
use Rattle.requests.proofs.Table as law
use Rattle.requests.proofs.requests.help.Goals as goal

pub loop-name-preserved : goal.loop-name-preserved
loop-name-preserved c = search (rules, law.row_next)

pub returns : goal.returns
unfolding help_text
returns c =
    let e : c.loop-name.space ≡ over help_text c.new-space.result = law.row_last _ c.loop-name.name-index _ _ c.loop-name-test.false c.loop-name.invariant in
    let n = same_name help_text _ _ e in
    let m = ap (λ (r : MutBor (List ℕ)). r.ghost_name) c.new-space.ensures.bytes in
    let a = over_lent help_text _ _ _ (ap (λ (r : MutBor (List ℕ)). r.now) c.new-space.ensures.bytes) c.new-space.ensures.at e in
    search (rules, a, n, m)
