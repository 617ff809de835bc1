-- Two boards, each accepted, with one hash: a hash says nothing of equality. A game can come from the first to the second
-- (docs/DIFFERENCES.md has the moves).
use mathlib.Core.Path.{◌≡◌, refl}
use mathlib.Core.Bool.{true, false, ◌&&◌}
use Prim.Native.Nat.{ℕ, ◌+◌}
use Rattle.squares.specs.Squares.{single}
use Rattle.squares.specs.declared.piece.Color.TheVariants.{White}
use Rattle.positions.specs.Boards.{Board, board, same_board}
use Rattle.positions.specs.Hash.{hash_of}
use Rattle.positions.specs.Acceptance.{accepted}
use Rattle.positions.specs.Computed.{computed}

-- a board of kings, White to move
abbrev kings_alone : ℕ → ℕ → Board
kings_alone white black = board white black (white + black) White

abbrev pub six : Board
six = kings_alone (single 12 + single 16 + single 19 + single 24 + single 45 + single 47) (single 9 + single 39 + single 44 + single 49)

abbrev pub sixteen_plies_later : Board
sixteen_plies_later = kings_alone (single 3 + single 8 + single 9 + single 18 + single 20 + single 40) (single 5 + single 32 + single 41 + single 48)

pub six_hash : hash_of six ≡ 0x7D1C_09BC_D5C3_BB63
unfolding computed
six_hash = refl

pub later_hash : hash_of sixteen_plies_later ≡ 0x7D1C_09BC_D5C3_BB63
unfolding computed
later_hash = refl

pub two_boards : same_board six sixteen_plies_later ≡ false
unfolding computed
two_boards = refl

pub both_accepted : (accepted six && accepted sixteen_plies_later) ≡ true
unfolding computed
both_accepted = refl
