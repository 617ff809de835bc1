-- Each word is asked.
use Rattle.std.proofs.Common.{◌∙◌, Bor, List, ℕ, refl, rules}
use Rattle.std.proofs.lemmas.Iterator.Consumers.{YieldsList-from_first}
use Rattle.std.proofs.lemmas.Iterator.Search.{all_from_yields_List}
use Rattle.wording.specs.Steps.{words_left}
use Rattle.requests.specs.Plays.{is_record_of, words_of}
use Rattle.requests.proofs.PlayLaws as laws
use Rattle.requests.proofs.plays.all_records.Goals as goal

pub returns : goal.returns
returns c =
    all_from_yields_List is_record_of c.all.new.self _ c.all.result c.all.ensures.ran (YieldsList-from_first (λ (w : Bor (List ℕ)). w.now) words_left {s = record { 0 = c.args.s }} (words_of c.args.s.now) refl) (λ x b q k. search rules)
    ∙ laws.records_all (words_of c.args.s.now)
