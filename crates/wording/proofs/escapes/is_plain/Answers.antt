-- Each of the bytes is one.
use mathlib.Core.Path.{refl, ◌∙◌}
use borrow.Author.Rules.{rules}
use borrow.Author.Tests.{tests}
use Rattle.std.specs.Prelude.{is_some}
use Rattle.std.proofs.lemmas.Iterator.Search.{all_from_yields_List}
use Rattle.std.proofs.lemmas.Iterator.Consumers.{YieldsList-from_first}
use Rattle.wording.specs.Steps.{undo_each, undone_left}
use Rattle.wording.proofs.Escaped.{plain_each}
use Rattle.wording.proofs.escapes.is_plain.Goals as goal

pub returns : goal.returns
returns c =
    all_from_yields_List is_some c.all.new.self _ c.all.result c.all.ensures.ran (YieldsList-from_first (λ b. b) undone_left {s = record { 0 = c.args.s }} (undo_each 0 c.args.s.now) refl) (λ x b q k. search (rules, tests))
    ∙ plain_each c.args.s.now
