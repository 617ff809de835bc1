-- Move by move, each with its count.
use borrow.Author.Rules.{rules}
use mathlib.Core.Path.{ap, ◌∙◌}
use Rattle.std.specs.Prelude.{zip}
use Rattle.std.proofs.lemmas.Iterator.{YieldsList-from_slice, YieldsList-from_zip}
use Rattle.std.proofs.lemmas.Iterator.Consumers.{YieldsList-end}
use Rattle.texts.specs.Lent.{over}
use Rattle.replies.specs.Answers.{counts_text}
use Rattle.replies.proofs.Listing.{counts_next}
use Rattle.replies.proofs.answers.put_counts.Goals as goal

pub loop-m-preserved : goal.loop-m-preserved
loop-m-preserved c = counts_next _ _ _ _ _ _ _ _ c.loop-m.invariant c.put_byte.ensures c.put_move.ensures c.put_byte-in-loop-m.ensures c.put_decimal.ensures

pub returns : goal.returns
returns c =
    let each = YieldsList-from_zip (YieldsList-from_slice c.entries.result.now (search rules)) (YieldsList-from_slice c.args.d.counts (search rules)) in
    let end = YieldsList-end each c.loop-m.yielded _ c.loop-m.yielded_by _ c.next.new.self c.in-None.is c.next.ensures.steps in
    c.loop-m.invariant ∙ ap (λ l. over (counts_text l) c.args.out.now) (end.0 ∙ ap (λ l. zip l c.args.d.counts) c.entries.ensures)
