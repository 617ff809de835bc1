-- One square a turn.
use mathlib.Core.Path.{◌≡◌, ◌∙◌, ap}
use mathlib.Core.Bool.{cond, false}
use Prim.Native.Nat.{ℕ, ◌+◌}
use Rattle.std.specs.Prelude.{Ok}
use Rattle.std.specs.Result.{is_ok}
use Rattle.std.proofs.Common.{rules, tests}
use lib.ListN.{length, drop, length-append}
use Rattle.std.proofs.lemmas.Iterator.Consumers.{YieldsList-at, YieldsList-turn, YieldsList-end}
use Rattle.texts.specs.Bytes.{is, split_on}
use Rattle.texts.proofs.Splits.{parts_come, parts_short}
use Rattle.notation.specs.Notation.{heard_squares, malformed, unsaid}
use Rattle.notation.specs.declared.notation.Said.{Said}
use Rattle.notation.proofs.Reading as laws
use Rattle.notation.proofs.notation.heard_squares.Goals as goal

pub loop-part-init : goal.loop-part-init
unfolding unsaid
loop-part-init c = (ap (λ (h : Said). h.count) c.new-h.ensures, ap (λ (h : Said). heard_squares h (split_on (is (cond c.args.capture 120 45)) c.args.s.now)) c.new-h.ensures)

pub heard-h-requires : goal.heard-h-requires
heard-h-requires c =
    let all = split_on (is (cond c.args.capture 120 45)) c.args.s.now in
    let turn = YieldsList-turn (YieldsList-at c.into_iter-part-iterator.ensures.into_iter_gives (parts_come _ (cond c.args.capture 120 45) c.args.s.now c.split-part-items.ensures.rest c.split-part-items.ensures.done c.split-part-items.ensures.closure (λ x b q k. search (c.separator-at.ensures, rules, tests))))
    c.loop-part.yielded _ c.loop-part.yielded_by _ c.next.new.self _ c.in-Some.is c.next.ensures.steps in
    let few = parts_short (is (cond c.args.capture 120 45)) c.args.s.now in
    let count = c.loop-part.invariant.0 in
    let more = turn.0 in
    search (rules, few, count, more)

pub loop-part-preserved : goal.loop-part-preserved
loop-part-preserved c =
    let all = split_on (is (cond c.args.capture 120 45)) c.args.s.now in
    let turn = YieldsList-turn (YieldsList-at c.into_iter-part-iterator.ensures.into_iter_gives (parts_come _ (cond c.args.capture 120 45) c.args.s.now c.split-part-items.ensures.rest c.split-part-items.ensures.done c.split-part-items.ensures.closure (λ x b q k. search (c.separator-at.ensures, rules, tests))))
    c.loop-part.yielded _ c.loop-part.yielded_by _ c.next.new.self _ c.in-Some.is c.next.ensures.steps in
    let on : c.read_square.result ≡ Ok c.in_ok-n.n = search rules in
    let next = laws.heard_next all c.loop-part.h _ _ c.loop-part.invariant.1 _ turn.0 turn.1 c.read_square.ensures on in
    simp length-append (
      ap (λ (h : Said). h.count) c.heard-h.ensures ∙ laws.one_more _ _ ∙ ap (λ (k : ℕ). k + 1) c.loop-part.invariant.0,
      ap (λ (h : Said). heard_squares h (drop (length c.loop-part.yielded + 1) all)) c.heard-h.ensures ∙ next,
    )

pub returns-in_err-n : goal.returns-in_err-n
returns-in_err-n c =
    let all = split_on (is (cond c.args.capture 120 45)) c.args.s.now in
    let turn = YieldsList-turn (YieldsList-at c.into_iter-part-iterator.ensures.into_iter_gives (parts_come _ (cond c.args.capture 120 45) c.args.s.now c.split-part-items.ensures.rest c.split-part-items.ensures.done c.split-part-items.ensures.closure (λ x b q k. search (c.separator-at.ensures, rules, tests))))
    c.loop-part.yielded _ c.loop-part.yielded_by _ c.next.new.self _ c.in-Some.is c.next.ensures.steps in
    let off : is_ok c.read_square.result ≡ false = search rules in
    let q : c.from_residual.result ≡ malformed = search rules in
    q ∙ laws.heard_stop all c.loop-part.h _ _ c.loop-part.invariant.1 _ turn.0 turn.1 c.read_square.ensures off

pub returns : goal.returns
returns c =
    let all = split_on (is (cond c.args.capture 120 45)) c.args.s.now in
    let end = YieldsList-end (YieldsList-at c.into_iter-part-iterator.ensures.into_iter_gives (parts_come _ (cond c.args.capture 120 45) c.args.s.now c.split-part-items.ensures.rest c.split-part-items.ensures.done c.split-part-items.ensures.closure (λ x b q k. search (c.separator-at.ensures, rules, tests))))
    c.loop-part.yielded _ c.loop-part.yielded_by _ c.next.new.self c.in-None.is c.next.ensures.steps in
    laws.heard_end all c.loop-part.h _ _ c.loop-part.invariant.1 end.1
