-- The bytes that are spaces are counted.
use Rattle.std.proofs.Common.{◌≡◌, rules, ◌∙◌}
use Rattle.std.specs.Prelude.{count_by, ◌==◌}
use Rattle.wording.proofs.WordLaws.{blanks_counted}
use Rattle.wording.proofs.words.blanks.Goals as goal

pub returns : goal.returns
returns c =
    let n : c.count.result ≡ count_by (λ b. b == 32) c.args.s.now = search rules in
    n ∙ blanks_counted c.args.s.now
