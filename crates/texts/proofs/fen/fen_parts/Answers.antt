-- The fields are the parts between colons; the first is the side to move.
use Rattle.std.proofs.Common.{rules, tests}
use Rattle.std.specs.Prelude.{Err}
use mathlib.Core.Path.{◌≡◌, ◌∙◌, ap, sym}
use Rattle.squares.specs.declared.refusal.Refusal.TheVariants.{NoSide}
use Rattle.texts.specs.Fen.{at_colon, field_of, read_each, side_of}
use Rattle.texts.specs.Bytes.{split_on}
use Rattle.texts.specs.declared.parts.Parts.{Parts}
use Rattle.texts.proofs.Readers.{fields_read, no_side, side_refused}
use Rattle.texts.proofs.Splits.{parts_come, others_come}
use Rattle.texts.proofs.fen.fen_parts.Goals as goal

pub returns-in_err-color : goal.returns-in_err-color
returns-in_err-color c =
    let after = others_come c.next.ensures.steps c.in_ok-first.first c.in_ok-first.ensures.ok_part _
    (parts_come _ 58 _ c.split-texts.ensures.rest c.split-texts.ensures.done c.split-texts.ensures.closure (λ x b q k. search (rules, tests))) in
    let refused : c.from_residual-in_err-color.result ≡ Err NoSide = search (rules, side_refused) in
    refused ∙ no_side c.args.s.now (ap (split_on at_colon) (sym c.body.ensures) ∙ after.1) (sym (c.side.ensures ∙ ap side_of c.trim.ensures) ∙ c.in_err-color.was)

pub returns : goal.returns
returns c =
    let after = others_come c.next.ensures.steps c.in_ok-first.first c.in_ok-first.ensures.ok_part _
    (parts_come _ 58 _ c.split-texts.ensures.rest c.split-texts.ensures.done c.split-texts.ensures.closure (λ x b q k. search (rules, tests))) in
    let all = c.read_each.ensures _ after.2.runs field_of (λ t q r k. search rules) in
    fields_read c.args.s.now (ap (split_on at_colon) (sym c.body.ensures) ∙ after.1) (sym (c.side.ensures ∙ ap side_of c.trim.ensures) ∙ c.in_ok-color.was) (all ∙ ap (λ (p : Parts). read_each field_of p after.0) c.begun.ensures)
