-- The items are the parts between commas.
use Rattle.std.proofs.Common.{rules, tests}
use Rattle.std.specs.Prelude.{Ok}
use mathlib.Core.Path.{◌≡◌}
use lib.ListN.{get_or}
use Rattle.texts.specs.Fen.{fen_color_of, item_of}
use Rattle.texts.proofs.Readers.{items_read}
use Rattle.texts.proofs.Splits.{parts_come}
use Rattle.texts.proofs.fen.field.Goals as goal

pub returns : goal.returns
returns c =
    let color : fen_color_of (get_or c.args.s.now 0 0) ≡ Ok c.in_ok-color.color = search rules in
    items_read c.args.p c.args.s.now c.in_ok-color.color c.in-len1-up.len_at_least color
    (c.read_each.ensures _ (parts_come _ 44 _ c.split.ensures.rest c.split.ensures.done c.split.ensures.closure (λ x b q k. search (rules, tests))).runs (item_of c.in_ok-color.color) (λ t q r k. search rules))
