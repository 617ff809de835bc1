-- A board as the side to move sees it: its own pieces, the enemy's, the kings of both; and the sets of the search.
use Rattle.std.specs.Prelude.{ℕ}
use Rattle.std.specs.Int.Bits.{bit_and, bit_or}
use Rattle.squares.specs.Sets.{without}
use Rattle.squares.specs.Squares.{all}
use Rattle.positions.specs.Boards.{Board, own, enemy}
use Rattle.captures.specs.declared.view.Sets.{Sets}
use Rattle.captures.specs.declared.view.View.{View}

abbrev pub view_of : Board → View
view_of b = record { us = own b; them = enemy b; kings = b.kings; side = b.side }

-- its men
abbrev pub own_men_of : View → ℕ
own_men_of v = without v.us v.kings

-- its kings
abbrev pub own_kings_of : View → ℕ
own_kings_of v = bit_and v.us v.kings

-- the empty squares
abbrev pub empty_of : View → ℕ
empty_of v = without all (bit_or v.us v.them)

-- its men, its kings, the enemy's pieces, the empty squares and the side
abbrev pub sets_of : View → Sets
sets_of v = record { men = own_men_of v; kings = own_kings_of v; them = v.them; empty = empty_of v; side = v.side }
