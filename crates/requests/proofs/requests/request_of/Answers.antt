-- The first row with the name.
use borrow.Author.Rules.{rules}
use borrow.Author.Tests.{tests}
use Rattle.std.proofs.lemmas.Iterator.{YieldsList-from_slice}
use Rattle.std.proofs.lemmas.Iterator.Search.{find_from_yields_List}
use Rattle.requests.specs.Requests.{request_of}
use Rattle.requests.proofs.Table as law
use Rattle.requests.proofs.requests.request_of.Goals as goal

pub returns : goal.returns
unfolding request_of
returns c =
    let rows = YieldsList-from_slice _ c.iter.ensures.rest in
    law.found_asks c.args.name.now c.find.result rows
    (find_from_yields_List (law.is_named c.args.name.now) c.find.new.self _ c.find.result c.find.ensures.ran rows (λ x b q k. search (rules, tests)))
    (search rules)
