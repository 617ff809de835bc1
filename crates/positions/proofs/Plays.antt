-- A move that can be played on an accepted board, as a turn on sets; the code's formulas are the successor with its own hash.
use mathlib.Core.Path.{◌≡◌, refl, ap, ap₂, ◌∙◌}
use Prim.Native.Nat.{ℕ}
use native.Mathlib.Omega.{arith}
use mathlib.Core.Bool.{Bool, true, false, not, ◌&&◌, ◌||◌, cond, and_comm, or_comm}
use lib.Dec.{eqb}
use lib.Bits.{bit_or}
use borrow.Author.Tests.{eqb-true, eq-eqb}
use Rattle.squares.specs.Sets.{has, without}
use Rattle.squares.specs.Squares.{is_square, bit_of, contains_of, promotion}
use Rattle.squares.specs.declared.piece.Color.{Color}
use Rattle.squares.specs.declared.piece.Color.TheVariants.{White, Black}
use Rattle.squares.proofs.Bools.{imp_intro}
use Rattle.squares.proofs.Numbers.{bit_lt, single_is}
use Rattle.positions.specs.Boards.{Board, board, own, enemy}
use Rattle.positions.specs.Acceptance.{Accepted}
use Rattle.positions.specs.Successor.{promotes, ends_as_king, own_after, enemy_after, kings_after, turned, successor, Playable}
use Rattle.positions.specs.declared.moves.Move.{Move}
use Rattle.positions.proofs.Turns.{Turn, own_now, king_now, kings_now}

-- ---- the conditions on sets
apart_of : (x y : Bool) → (x ≡ true → y ≡ false) → not (x && y) ≡ true
apart_of true y f = ap not (f refl)
apart_of false y f = refl

module _ (m : Move) (to_same : eqb m.to m.from ≡ true → bit_of m.to ≡ bit_of m.from) where
  -- the last square is free, by numbers and by bits
  free_bits : (x y t : Bool) → eqb m.to m.from ≡ t → (t || (x && y)) ≡ true → (eqb (bit_of m.to) (bit_of m.from) || (x && y)) ≡ true
  free_bits x y true e h = ap (λ (z : Bool). z || (x && y)) (eq-eqb (bit_of m.to) (bit_of m.from) (to_same e))
  free_bits x y false e h = go (eqb (bit_of m.to) (bit_of m.from))
    where
      go : (z : Bool) → (z || (x && y)) ≡ true
      go true = refl
      go false = h

bits_same : (m : Move) → eqb m.to m.from ≡ true → bit_of m.to ≡ bit_of m.from
bits_same m e = ap bit_of (eqb-true m.to m.from e)

turn_at : (w b k : ℕ) (s : Color) (m : Move) → Accepted (board w b k s) → Playable (board w b k s) m
    → Turn (own (board w b k s)) (enemy (board w b k s)) k (bit_of m.from) (bit_of m.to) m.captured
turn_at w b k White m a y = record {
  us_fit = omega (arith, a.white_fits);
  them_fit = omega (arith, a.black_fits);
  kings_fit = omega (arith, a.kings_fits);
  taken_fit = y.set_fits;
  from_fit = omega (arith, bit_lt m.from y.from_square);
  to_fit = omega (arith, bit_lt m.to y.to_square);
  own = y.mover;
  apart = λ i l. apart_of (has w i) (has b i) (a.apart i);
  marked = λ i l. imp_intro _ _ (a.marked i);
  enemies = λ i l. imp_intro _ _ (y.enemies i);
  free = free_bits m (bits_same m) (not (has w (bit_of m.to))) (not (has b (bit_of m.to))) (eqb m.to m.from) refl y.free;
}
turn_at w b k Black m a y = record {
  us_fit = omega (arith, a.black_fits);
  them_fit = omega (arith, a.white_fits);
  kings_fit = omega (arith, a.kings_fits);
  taken_fit = y.set_fits;
  from_fit = omega (arith, bit_lt m.from y.from_square);
  to_fit = omega (arith, bit_lt m.to y.to_square);
  own = y.mover;
  apart = λ i l. ap not (and_comm (has b i) (has w i)) ∙ apart_of (has w i) (has b i) (a.apart i);
  marked = λ i l. imp_intro _ _ (λ e. or_comm (has b i) (has w i) ∙ a.marked i e);
  enemies = λ i l. imp_intro _ _ (y.enemies i);
  free = free_bits m (bits_same m) (not (has b (bit_of m.to))) (not (has w (bit_of m.to))) (eqb m.to m.from) refl
      (ap (λ (x : Bool). eqb m.to m.from || x) (and_comm (not (has b (bit_of m.to))) (not (has w (bit_of m.to)))) ∙ y.free);
}

pub turn_of : (b : Board) (m : Move) → Accepted b → Playable b m → Turn (own b) (enemy b) b.kings (bit_of m.from) (bit_of m.to) m.captured
turn_of b m a y = turn_at b.white b.black b.kings b.side m a y

-- ---- the successor's sets
pub contains_is : (s n : ℕ) → is_square n ≡ true → contains_of s n ≡ has s (bit_of n)
unfolding contains_of
contains_is s n e = ap (λ (t : Bool). t && has s (bit_of n)) e

module _ (b : Board) (m : Move) (y : Playable b m) where
  abbrev f : ℕ
  f = bit_of m.from

  abbrev t : ℕ
  t = bit_of m.to

  pub king_is : ends_as_king b m ≡ king_now b.kings (promotion b.side) f t
  unfolding ends_as_king king_now
  king_is = ap₂ ◌||◌ (contains_is b.kings m.from y.from_square) (contains_is (promotion b.side) m.to y.to_square)

  pub promotes_is : promotes b m ≡ (not (has b.kings f) && has (promotion b.side) t)
  unfolding promotes
  promotes_is = ap₂ (λ (x z : Bool). not x && z) (contains_is b.kings m.from y.from_square) (contains_is (promotion b.side) m.to y.to_square)

  pub own_after_lem : own_after b m ≡ own_now (own b) f t
  unfolding own_after own_now
  own_after_lem = ap₂ (λ (x z : ℕ). bit_or (without (own b) x) z) (single_is m.from y.from_square) (single_is m.to y.to_square)

  pub kings_after_lem : kings_after b m ≡ kings_now b.kings (promotion b.side) f t m.captured
  unfolding kings_after kings_now
  kings_after_lem =
      ap₂ (λ (x z : ℕ). bit_or (without (without b.kings m.captured) x) z) (single_is m.from y.from_square)
      (ap₂ (λ (x : Bool) (z : ℕ). cond x z 0) king_is (single_is m.to y.to_square))

  -- a board of turned sets
  pub successor_is : successor b m ≡ turned b.side (own_now (own b) f t) (without (enemy b) m.captured) (kings_now b.kings (promotion b.side) f t m.captured)
  unfolding successor enemy_after
  successor_is = ap₂ (λ (x z : ℕ). turned b.side x (without (enemy b) m.captured) z) own_after_lem kings_after_lem
