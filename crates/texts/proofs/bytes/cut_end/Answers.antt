-- The last byte that stays.
use Rattle.std.proofs.Common.{rules, tests}
use Rattle.texts.proofs.Cuts as laws
use Rattle.texts.proofs.bytes.cut_end.Goals as goal

pub returns-in-Some : goal.returns-in-Some
returns-in-Some g c p k = laws.end_at p c.args.s.now c.in-Some.last (search (rules, k)) (search (rules, tests, k)) (λ j l m. search (rules, tests, k))

pub returns : goal.returns
returns g c p k = laws.all_off p c.args.s.now (λ j l. search (rules, tests, k))
