-- Counts of quiet moves: along a ray, over the directions, over the kings; none is large.
use Rattle.std.specs.Prelude.{sum_by}
use Rattle.std.proofs.lemmas.List.Sums.{sum_by-cons}
use mathlib.Core.Path.{◌≡◌, refl, sym, ap, ap₂, ◌∙◌}
use Prim.Native.Nat.{ℕ, ◌+◌, ◌*◌, ◌^◌, ◌≤◌}
use native.Mathlib.Omega.{arith}
use mathlib.Core.List.{List, [], ◌∷◌, map, flat_map}
use lib.ListN.{length, length-append, length-map}
use lib.Bits.{bit_and}
use Rattle.squares.specs.Sets.{size, members}
use Rattle.squares.specs.Directions.{direction_at, shifted}
use Rattle.squares.specs.declared.piece.Color.{Color}
use Rattle.squares.proofs.Sizes.{size_most}
use Rattle.captures.specs.Rays.{ray_of}
use Rattle.captures.specs.Walks.{up_to}
use Rattle.captures.proofs.Rays.{ray_most}
use Rattle.quiets.specs.Tests.{forward_of}
use Rattle.quiets.specs.Quiets.{men_steps, men_quiets, flight_of, flights, king_quiets, all_quiets, quiet_move}
use Rattle.quiets.proofs.Forward.{plus_zero}
use Rattle.squares.proofs.Lengths.{members_length}

-- ---- along a ray
pub flight_length : (at empty d : ℕ) → length (ray_of (direction_at d) empty at) ≡ length (flight_of at empty d)
unfolding flight_of
flight_length at empty d = sym (length-map (ray_of (direction_at d) empty at) (quiet_move at))

pub flight_most : (at empty d : ℕ) → length (flight_of at empty d) ≤ 64
flight_most at empty d = omega (arith, flight_length at empty d, ray_most (direction_at d) empty at)

pub few : (n at empty d : ℕ) → n ≡ length (flight_of at empty d) → n ≤ 64
few n at empty d e = omega (arith, flight_most at empty d)

-- ---- of one king
pub four_flights : (at empty : ℕ) → length (up_to (flight_of at empty) 4) ≡ length (flight_of at empty 0) + length (flight_of at empty 1) + length (flight_of at empty 2) + length (flight_of at empty 3)
unfolding up_to
four_flights at empty = rw (length-append, length-append, length-append) refl

pub king_most : (at empty : ℕ) → length (up_to (flight_of at empty) 4) ≤ 256
king_most at empty = omega (arith, four_flights at empty, flight_most at empty 0, flight_most at empty 1, flight_most at empty 2, flight_most at empty 3)

-- ---- of all kings
-- the kings' moves add up to all
pub kings_sum : (empty : ℕ) (is : List ℕ) → sum_by (λ at. length (up_to (flight_of at empty) 4)) (map (λ i. 2 ^ i) is) ≡ length (flat_map (flights empty) is)
unfolding flights flat_map
kings_sum empty [] = refl
kings_sum empty (i ∷ is) =
    sum_by-cons (λ at. length (up_to (flight_of at empty) 4)) (2 ^ i) (map (λ i. 2 ^ i) is)
    ∙ ap (λ (n : ℕ). length (up_to (flight_of (2 ^ i) empty) 4) + n) (kings_sum empty is) ∙ sym (length-append (up_to (flight_of (2 ^ i) empty) 4) (flat_map (flights empty) is))

all_most : (empty : ℕ) (is : List ℕ) → length (flat_map (flights empty) is) ≤ 256 * length is
unfolding flights flat_map
all_most empty [] = omega arith
all_most empty (i ∷ is) = omega (arith, length-append (up_to (flight_of (2 ^ i) empty) 4) (flat_map (flights empty) is), king_most (2 ^ i) empty, all_most empty is)

pub kings_most : (kings empty : ℕ) → length (king_quiets kings empty) ≤ 16384
unfolding king_quiets
kings_most kings empty = omega (arith, all_most empty (members kings), members_length kings, size_most kings)

-- ---- all together
steps_count : (men empty d : ℕ) → length (men_steps men empty d) ≡ size (bit_and (shifted (direction_at d) men) empty)
unfolding men_steps
steps_count men empty d = length-map (members (bit_and (shifted (direction_at d) men) empty)) _ ∙ members_length (bit_and (shifted (direction_at d) men) empty)

pub all_count : (men kings empty : ℕ) (side : Color) → length (all_quiets men kings empty side)
    ≡ size (bit_and (shifted (direction_at (forward_of side)) men) empty) + size (bit_and (shifted (direction_at (forward_of side + 1)) men) empty) + length (king_quiets kings empty)
unfolding all_quiets men_quiets up_to
all_count men kings empty side =
    length-append (men_quiets men empty side) (king_quiets kings empty)
    ∙ ap (λ (n : ℕ). n + length (king_quiets kings empty))
    (length-append (men_steps men empty (forward_of side + 0)) (men_steps men empty (forward_of side + 1))
    ∙ ap₂ ◌+◌ (ap (λ (d : ℕ). length (men_steps men empty d)) (plus_zero side) ∙ steps_count men empty (forward_of side)) (steps_count men empty (forward_of side + 1)))

pub at_most : (n s : ℕ) → n ≡ size s → n ≤ 64
at_most n s e = omega (arith, size_most s)

pub kings_at_most : (kings empty n : ℕ) → n ≡ length (king_quiets kings empty) → n ≤ 16384
kings_at_most kings empty n e = omega (arith, kings_most kings empty)

pub all_sum : (men kings empty : ℕ) (side : Color) (f g x y a b k : ℕ) → f ≡ forward_of side → g ≡ forward_of side + 1 → x ≡ shifted (direction_at f) men → y ≡ shifted (direction_at g) men
    → a ≡ size (bit_and x empty) → b ≡ size (bit_and y empty) → k ≡ length (king_quiets kings empty) → a + b + k ≡ length (all_quiets men kings empty side)
all_sum men kings empty side f g x y a b k ef eg ex ey ea eb ek =
    ap₂ (λ (u v : ℕ). u + v + k) (ea ∙ ap (λ (z : ℕ). size (bit_and z empty)) (ex ∙ ap (λ (d : ℕ). shifted (direction_at d) men) ef))
    (eb ∙ ap (λ (z : ℕ). size (bit_and z empty)) (ey ∙ ap (λ (d : ℕ). shifted (direction_at d) men) eg))
    ∙ ap (λ (u : ℕ). size (bit_and (shifted (direction_at (forward_of side)) men) empty) + size (bit_and (shifted (direction_at (forward_of side + 1)) men) empty) + u) ek
    ∙ sym (all_count men kings empty side)
