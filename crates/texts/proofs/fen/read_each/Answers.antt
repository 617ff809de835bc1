-- Each part is trimmed and read; a refusal ends the reading.
use denote.Ref.{Bor}
use Prim.Native.Nat.{ℕ}
use mathlib.Core.List.{List}
use mathlib.Core.Path.{◌∙◌, sym}
use Rattle.std.proofs.Common.{rules}
use Rattle.std.proofs.lemmas.Iterator.{YieldsList, YieldsList-from_map_by}
use Rattle.std.proofs.lemmas.Iterator.Consumers.{YieldsList-at}
use Rattle.texts.specs.Bytes.{blank, trim}
use Rattle.texts.proofs.TryFolds.{folded}
use Rattle.texts.proofs.Readers.{read_trimmed}
use Rattle.texts.proofs.fen.read_each.Goals as goal

pub returns : goal.returns
returns g c all y read k =
    let parts : YieldsList g.I.Iterator.next_gives (λ (part : Bor (List ℕ)). part.now) c.args.texts all = record { runs = y } in
    folded c.try_fold.result c.try_fold.new.self read _ c.args.p c.try_fold.ensures.ran
    (YieldsList-from_map_by _ (λ (t : Bor (List ℕ)). t.now) (trim blank) (YieldsList-at c.map.ensures.source parts) c.map.ensures.closure (λ x r q h. search rules))
    (λ p x q t. (search (rules, t), sym (k x p t.0 (search (rules, t))) ∙ t.2)) (λ a e. e)
    (λ h a x m i. (m.2.0, sym (k x a m.0 (search (rules, m, i))) ∙ m.4, search (rules, m)))
    ∙ read_trimmed read c.args.p all
