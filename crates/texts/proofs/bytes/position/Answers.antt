-- The first byte for which the test holds.
use Rattle.std.proofs.Common.{rules, tests}
use Rattle.std.proofs.lemmas.Iterator.{YieldsList-from_slice}
use Rattle.std.proofs.lemmas.Iterator.Search.{position_from_yields_List}
use lib.Dec.{eqb}
use Rattle.texts.specs.Bytes.{is}
use Rattle.texts.proofs.Cuts as laws
use Rattle.texts.proofs.bytes.position.Goals as goal

pub returns : goal.returns
unfolding is
returns c =
    laws.found (λ b. eqb b c.args.c) c.args.s.now c.position.result (position_from_yields_List (λ b. eqb b c.args.c) _ _ c.position.result c.position.ensures.ran (YieldsList-from_slice _ c.iter.ensures.rest) (λ x b q k. search (rules, tests)))
