-- The definitions of this crate and of those below it that the checker may unfold where it computes a value.
use Rattle.positions.specs.Computed as positions
use Rattle.rules.specs.Lists.{concat_map, keep, contains, some, times, add, distinct, best, longest, or_end, followed}
use Rattle.rules.specs.Rules.{space, forward}
use Rattle.rules.specs.Ordered.{directions, ahead, ray, last, blocker, target, hop, jumps_over, man_landings, jumps_along, jumps, enough, sequences, all_sequences, captures, man_steps, king_flights, quiets, same_bits, bit_legal, legal, listed}

unfoldable pub computed : Unit {0}
unfolding positions.computed concat_map keep contains some times add distinct best longest or_end followed space forward directions ahead ray last blocker target hop jumps_over man_landings jumps_along jumps enough sequences all_sequences captures man_steps king_flights quiets same_bits bit_legal legal listed
computed = tt
