-- An escape is undone whole.
use borrow.Author.Rules.{rules}
use Rattle.wording.proofs.Escaped as laws
use Rattle.wording.proofs.escapes.UndoneIterator.next.Goals as goal

pub returns-in_default-read_escape-clause-steps : goal.returns-in_default-read_escape-clause-steps
returns-in_default-read_escape-clause-steps c =
    laws.each_broken c.args.self.now.0.now c.in-len1-up.len_at_least c.if-b-ne92.false _ c.read_escape.ensures c.in_default-read_escape.is

pub returns-in_default-read_escape-clause-goes : goal.returns-in_default-read_escape-clause-goes
returns-in_default-read_escape-clause-goes c = search (rules, laws.fewer (laws.each_broken c.args.self.now.0.now c.in-len1-up.len_at_least c.if-b-ne92.false _ c.read_escape.ensures c.in_default-read_escape.is))

pub returns-clause-steps : goal.returns-clause-steps
returns-clause-steps c =
    laws.each_escape c.args.self.now.0.now c.in-len1-up.len_at_least c.if-b-ne92.false _ c.read_escape.ensures _ _ c.in-Some.is

pub returns-clause-goes : goal.returns-clause-goes
returns-clause-goes c = search (rules, laws.fewer (laws.each_escape c.args.self.now.0.now c.in-len1-up.len_at_least c.if-b-ne92.false _ c.read_escape.ensures _ _ c.in-Some.is))
