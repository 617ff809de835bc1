-- The definitions that are unfolded where a theorem is proved by computing.
use Rattle.movegen.specs.Computed as movegen
use Rattle.texts.specs.Computed as texts
use Rattle.notation.specs.Notation.{at_cut, unsaid, heard_square, heard_squares, well_formed, heard_trimmed, read_move_of}
use Rattle.notation.specs.Choice.{begins, as_hub, by_ends, or_else, fitting, only, fit_of, parse_move_of}

unfoldable pub computed : Unit {0}
unfolding movegen.computed texts.computed at_cut unsaid heard_square heard_squares well_formed heard_trimmed read_move_of begins as_hub by_ends or_else fitting only fit_of parse_move_of
computed = tt
