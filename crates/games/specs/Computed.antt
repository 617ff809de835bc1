-- The definitions that are unfolded where a theorem is proved by computing.
use Rattle.movegen.specs.Computed as movegen
use Rattle.games.specs.Book as book
use Rattle.games.specs.Book.{last_in, begun_book, times_in, against, three_pieces, two_pieces, first_to_hold, tests_at, book_outcome, numbers_square, on_the_board, book_answer, takes, man_move, is_promotion, tallied, reached, book_played, book_next, book_answers, book_after}
use Rattle.games.specs.Demand3.{answers_to, game_after, heard_of}
use Rattle.games.specs.Games.{window_of, last_of, all_sound, valid, stood, man_moves, irreversible, material_after, can_move, lone_king, faces, king_ending, judge, judged_of}
use Rattle.games.specs.Play.{alone_of, fresh_of, empty_game, new_of, initial_game, appended_of, moved_of, play_of, outcome_of, is_over_of, stands_of, repetitions_of, reversible_plies_of, legal_moves_of}

unfoldable pub computed : Unit {0}
unfolding movegen.computed window_of last_of all_sound valid stood man_moves irreversible material_after can_move lone_king faces king_ending judge judged_of alone_of fresh_of empty_game new_of initial_game appended_of moved_of play_of outcome_of is_over_of stands_of repetitions_of reversible_plies_of legal_moves_of last_in begun_book times_in book.lone_king against three_pieces two_pieces first_to_hold tests_at book_outcome numbers_square on_the_board book_answer takes man_move is_promotion tallied reached book_played book_next book_answers book_after answers_to game_after heard_of
computed = tt
