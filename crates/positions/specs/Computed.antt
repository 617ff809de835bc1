-- The definitions of this crate and of squares that the checker may unfold where it computes a value.
use Rattle.squares.specs.Computed as squares
use Rattle.positions.specs.Moves.{is_capture, squares_of, same}
use Rattle.positions.specs.Boards.{of_kind, pieces, empty, same_board, piece_at_of}
use Rattle.positions.specs.Hash.{keys_on, color_key, hash_of}
use Rattle.positions.specs.Acceptance.{misplaced, accepted_sets, accepted, sound, place_of, from_parts_of}
use Rattle.positions.specs.Successor.{promotes, ends_as_king, own_after, enemy_after, kings_after, successor, kings_played, moved_key, play_of}
use Rattle.positions.specs.Flip.{rotated, flip, flipped_of}

unfoldable pub computed : Unit {0}
unfolding squares.computed is_capture squares_of same of_kind pieces empty same_board piece_at_of keys_on color_key hash_of misplaced accepted_sets accepted sound place_of from_parts_of promotes ends_as_king own_after enemy_after kings_after successor kings_played moved_key play_of rotated flip flipped_of
computed = tt
