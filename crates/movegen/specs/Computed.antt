-- The definitions that are unfolded where a theorem is proved by computing.
use Rattle.rules.specs.Computed as rules
use Rattle.captures.specs.Lists.{list_of}
use Rattle.movegen.specs.Lists.{listed_of, legal_moves_of, has_captures_of, has_quiet_moves_of, played_of, after_of}
use Rattle.movegen.specs.Counts.{then_count, sum_from, depth_count, perft_of, number_in, counts_below, divided_of, divide_of}

unfoldable pub computed : Unit {0}
unfolding rules.computed list_of listed_of legal_moves_of has_captures_of has_quiet_moves_of played_of after_of then_count sum_from depth_count perft_of number_in counts_below divided_of divide_of
computed = tt
