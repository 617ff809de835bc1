-- The definitions of this crate that the checker may unfold where it computes a value. Proofs write
-- `unfolding computed` for the whole list.
use Rattle.std.specs.Int.Count.{ones_in, count_trailing_zeros}
use Rattle.squares.specs.Sets.{has, size, without, members_from, members}
use Rattle.squares.specs.Squares.{is_square, bit_of, run, all, promotion, on_board, square_at_bit, row_of, file_of, of_square, single, contains_of, first_of, rest_of, squares_only, from_bits_of}
use Rattle.squares.specs.Directions.{shifted}
use Rattle.squares.specs.Folds.{fold_to, over}
use Rattle.squares.specs.Keys.{advance, scramble, output, splitmix64_of, outputs, keys, key_at, set_key_of, piece_key_of, side_key}
use Rattle.squares.specs.Pieces.{color_from_char_of, piece_from_char_of}

unfoldable pub computed : Unit {0}
unfolding ones_in count_trailing_zeros has size without members_from members is_square bit_of run all promotion on_board square_at_bit row_of file_of of_square single contains_of first_of rest_of squares_only from_bits_of shifted fold_to over advance scramble output splitmix64_of outputs keys key_at set_key_of piece_key_of side_key color_from_char_of piece_from_char_of
computed = tt
