-- The definitions that are unfolded where a row is proved by computing it.
use Rattle.positions.specs.Computed as positions
use Rattle.texts.specs.Bytes.{ascii, readable, blank, is, holds, trim_start, keep_end, trim_end, trim, cons_head, split_on, parts_at, joined, up_to, after_or, after_or_all, after_first, starts_with, strip, is_digit, in_range, number, read_square, from_str_of, digits}
use Rattle.texts.specs.Parts.{added, with_squares, begun}
use Rattle.texts.specs.Lent.{emit_of, emitted}
use Rattle.texts.specs.Fen.{item_text, list_text, fen_text, field_text, fen_of, fen_lent, fen_color_of, end_of, range_of, item_of, read_each, field_of, side_of, fen_fields, body, fen_parts, from_fen_of}
use Rattle.texts.specs.Hub.{squares_from, hub_char, hub_text, hub_of, hub_lent, hub_byte_of, hub_from, hub_parts, from_hub_of}

unfoldable pub computed : Unit {0}
unfolding positions.computed ascii readable blank is holds trim_start keep_end trim_end trim cons_head split_on parts_at joined up_to after_or after_or_all after_first starts_with strip is_digit in_range number read_square from_str_of digits added with_squares begun emit_of emitted item_text list_text fen_text field_text fen_of fen_lent fen_color_of end_of range_of item_of read_each field_of side_of fen_fields body fen_parts from_fen_of squares_from hub_char hub_text hub_of hub_lent hub_byte_of hub_from hub_parts from_hub_of
computed = tt
