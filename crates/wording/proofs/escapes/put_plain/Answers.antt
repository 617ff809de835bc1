-- No escape is invalid; at the end all was written.
use mathlib.Core.Path.{ap, sym, ◌∙◌}
use mathlib.Core.List.{List}
use Prim.Native.Nat.{ℕ}
use Rattle.std.proofs.Common.{map-id}
use Rattle.std.specs.Prelude.{option_to_list}
use Rattle.std.proofs.lemmas.Iterator.Adapters.{YieldsList-from_flatten, YieldsList-from_once}
use Rattle.std.proofs.lemmas.Iterator.Consumers.{YieldsList-from_first, YieldsList-end}
use Rattle.texts.specs.Lent.{over}
use Rattle.wording.specs.Steps.{undone_left, undo_each}
use Rattle.wording.proofs.Escaped.{undone_each}
use Rattle.wording.proofs.escapes.put_plain.Goals as goal

pub returns : goal.returns
returns c =
    let from = c.flatten-b-items.ensures in
    let same = c.into_iter-b-iterator.ensures.into_iter_gives in
    let each = YieldsList-from_first (λ x. x) undone_left (undo_each 0 c.args.s.now) (ap (λ i. undone_left i.iter) same ∙ ap undone_left from.source) in
    let bytes =
    YieldsList-from_flatten _ _ (λ x. x) option_to_list (λ x j h. YieldsList-from_once x h.0) each (ap (λ i. i.front) same ∙ from.front)
    (ap (λ i. i.back) same ∙ from.back) (ap (λ i. i.done) same ∙ from.done)
    in
    let end = YieldsList-end bytes c.loop-b.yielded _ c.loop-b.yielded_by _ _ c.in-None.is c.next.ensures.steps in
    let plain = sym c.is_plain.ensures ∙ c.if-not-is_plain.false in
    c.loop-b.invariant ∙ ap (λ (t : List ℕ). over t c.args.out.now) (sym (map-id c.loop-b.yielded) ∙ end.0 ∙ sym (undone_each c.args.s.now plain))
