-- What the tests of a move record and of two boards say: the crates above cite this instead of opening the definitions.
use mathlib.Core.Path.{◌≡◌, refl, sym, ap, ap₂, ◌∙◌}
use mathlib.Core.Logic.{◌↔◌}
use Prim.Native.Nat.{ℕ, ◌≤◌, ◌<◌, ◌^◌}
use native.Mathlib.Omega.{arith}
use mathlib.Core.Bool.{true, false, not, ◌&&◌, and-false, false≢true}
use lib.Dec.{eqb}
use borrow.Author.Tests.{eqb-true, eq-eqb}
use Rattle.squares.specs.Sets.{has, without}
use Rattle.squares.specs.Squares.{all, is_square, squares_only, on_board, contains_of, promotion}
use Rattle.squares.specs.declared.piece.Color.{Color}
use Rattle.squares.specs.declared.piece.Color.TheVariants.{White, Black}
use Rattle.squares.proofs.Bools.{and_left, and_right, and_both}
use Rattle.squares.proofs.Numbers.{square_range}
use Rattle.positions.specs.Boards.{Board, board, same_color, same_board}
use Rattle.positions.specs.Moves.{move, is_capture, squares_of}
use Rattle.positions.specs.Successor.{promotes}
use Rattle.positions.specs.declared.moves.Move.{Move}
use Rattle.positions.proofs.Accepts.{squares_say}

-- ---- a move record
pub capture_is : (m : Move) → is_capture m ≡ not (eqb m.captured 0)
unfolding is_capture
capture_is m = refl

pub promotes_when : (b : Board) (m : Move) → promotes b m ≡ (not (contains_of b.kings m.from) && contains_of (promotion b.side) m.to)
unfolding promotes
promotes_when b m = refl

-- ---- the test of refusal 11
pub on_board_is : (m : Move) → squares_of m ≡ (is_square m.from && (is_square m.to && eqb (without m.captured all) 0))
unfolding squares_of squares_only
on_board_is m = refl

-- a record with a number that is no square
pub off_from : (a b c : ℕ) → is_square a ≡ false → squares_of (move a b c) ≡ false
off_from a b c e = rw (on_board_is (move a b c), e)

pub off_to : (a b c : ℕ) → is_square b ≡ false → squares_of (move a b c) ≡ false
off_to a b c e = rw (on_board_is (move a b c), e) (and-false (is_square a))

-- a record that passes
pub record OnBoard (m : Move) : Type 0 where
  pub from : is_square m.from ≡ true
  pub to : is_square m.to ≡ true
  pub fits : m.captured < 2 ^ 64
  pub taken : (i : ℕ) → has m.captured i ≡ true → on_board i ≡ true

pub on_board_lem : (m : Move) → squares_of m ≡ true → OnBoard m
unfolding squares_of
on_board_lem m e =
    let r = and_right (is_square m.from) _ e in
    let s = squares_say m.captured (and_right (is_square m.to) _ r) in
    record { from = and_left (is_square m.from) _ e; to = and_left (is_square m.to) _ r; fits = omega (arith, s.fits); taken = s.on }

pub from_low : (m : Move) → squares_of m ≡ true → m.from ≤ 50
from_low m e = (square_range m.from (on_board_lem m e).from).1

pub to_low : (m : Move) → squares_of m ≡ true → m.to ≤ 50
to_low m e = (square_range m.to (on_board_lem m e).to).1

-- ---- two boards: the test says so exactly of equal ones
color_true : (c d : Color) → same_color c d ≡ true → c ≡ d
color_true White White e = refl
color_true Black Black e = refl
color_true White Black e = absurd (false≢true e)
color_true Black White e = absurd (false≢true e)

color_refl : (c : Color) → same_color c c ≡ true
color_refl White = refl
color_refl Black = refl

board_true : (a b : Board) → same_board a b ≡ true → a ≡ b
unfolding same_board
board_true a b e =
    let sets = and_left _ (same_color a.side b.side) e in
    let rest = and_right (eqb a.white b.white) _ sets in
    let w : a.white ≡ b.white = eqb-true _ _ (and_left _ _ sets) in
    let l : a.black ≡ b.black = eqb-true _ _ (and_left _ _ rest) in
    let k : a.kings ≡ b.kings = eqb-true _ _ (and_right (eqb a.black b.black) _ rest) in
    let s : a.side ≡ b.side = color_true _ _ (and_right (eqb a.white b.white && (eqb a.black b.black && eqb a.kings b.kings)) _ e) in
    ap₂ (λ (w l : ℕ). board w l a.kings a.side) w l ∙ ap₂ (λ (k : ℕ) (s : Color). board b.white b.black k s) k s

board_refl : (a : Board) → same_board a a ≡ true
unfolding same_board
board_refl a =
    and_both _ _ (and_both _ _ (eq-eqb a.white _ refl) (and_both _ _ (eq-eqb a.black _ refl) (eq-eqb a.kings _ refl))) (color_refl a.side)

pub same_board_lem : (a b : Board) → (same_board a b ≡ true) ↔ (a ≡ b)
same_board_lem a b = (board_true a b, λ e. ap (same_board a) (sym e) ∙ board_refl a)
