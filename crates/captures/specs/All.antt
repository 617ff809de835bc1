-- The captures of all pieces in a list with room for N moves (docs/RULES.md, "Captures", "Order of the list"): men by
-- bit, then kings by bit. Where it has a length, it holds all longest captures.
use Rattle.std.specs.Prelude.{ℕ}
use Rattle.captures.specs.declared.movegen.Captures.{Captures}
use Rattle.captures.specs.Record.{start_of}
use Rattle.captures.specs.Men.{men_captures_of}
use Rattle.captures.specs.Kings.{kings_captures_of}

abbrev pub all_captures_of : (N men kings them empty : ℕ) → Captures N
all_captures_of N men kings them empty = kings_captures_of (men_captures_of (start_of N them empty) men empty) kings empty
