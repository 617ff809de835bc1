-- Hub first, where there are three squares or more; where nothing fits as Hub, first and last square.
use Rattle.std.proofs.Common.{rules}
use Rattle.std.specs.Prelude.{Err}
use Rattle.std.specs.List.{filter}
use Rattle.std.specs.Option.{unwrap_or, option_or}
use Rattle.std.proofs.lemmas.Iterator.{YieldsList-from_slice}
use Rattle.std.proofs.lemmas.Iterator.Consumers.{YieldsList-from_filter}
use mathlib.Core.Path.{◌≡◌, ap, ap₂, ◌∙◌}
use Rattle.squares.specs.declared.refusal.Refusal.TheVariants.{NoMoveFits}
use Rattle.notation.specs.Choice.{by_ends, only_of}
use Rattle.notation.proofs.Search.{hub_fits, chosen}
use Rattle.notation.proofs.notation.Said.choose.Goals as goal

pub returns : goal.returns
returns c =
    let h = c.args.self in
    let l = c.args.moves.now in
    let hub : c.only.result ≡ only_of (filter (hub_fits h l) l) =
    c.only.ensures _ (YieldsList-from_filter _ (hub_fits h l) (YieldsList-from_slice l cc) c.filter-hub.ensures.closure (λ x b q k. search rules)).runs in
    let ends : c.only-2.result ≡ only_of (filter (by_ends h) l) =
    c.only-2.ensures _ (YieldsList-from_filter _ (by_ends h) (YieldsList-from_slice l cc) c.filter-ends.ensures.closure (λ x b q k. search rules)).runs in
    c.unwrap_or.ensures ∙ ap (λ x. unwrap_or x (Err NoMoveFits)) (c.or.ensures ∙ ap₂ option_or hub ends) ∙ chosen h l
