-- The successor of an accepted board by a move that can be played is accepted, so the successor of a sound position is sound.
use mathlib.Core.Path.{◌≡◌, refl, sym, ap, ◌∙◌}
use Prim.Native.Nat.{ℕ, ◌^◌, ◌<◌}
use native.Mathlib.Nat.{lt_of_le_of_lt}
use native.Mathlib.Omega.{arith}
use mathlib.Core.Bool.{Bool, true, false, not, ◌&&◌, ◌||◌, or_comm, false≢true}
use lib.Dec.{eqb, lit<}
use lib.Bits.{or_lt}
use lib.Pow.{pow-lt}
use borrow.Author.Tests.{eqb-true, not-true}
use Rattle.squares.specs.Sets.{has, without}
use Rattle.squares.specs.Squares.{bit_of, on_board, promotion}
use Rattle.squares.specs.declared.piece.Color.{Color}
use Rattle.squares.specs.declared.piece.Color.TheVariants.{White, Black}
use Rattle.squares.proofs.Bools.{imp, imp_elim, imp_intro, and_left, and_both}
use Rattle.squares.proofs.Pointwise.{has_without, without_le, member_lt}
use Rattle.squares.proofs.Folds.{bit_if}
use Rattle.squares.proofs.Numbers.{square_on, bit_lt}
use Rattle.positions.specs.Boards.{Board, board, board_of, own, enemy}
use Rattle.positions.specs.Acceptance.{Accepted, Sound}
use Rattle.positions.specs.Successor.{turned, successor, Playable, play_of}
use Rattle.positions.specs.declared.moves.Move.{Move}
use Rattle.positions.specs.declared.position.Position.{Position}
use Rattle.positions.proofs.Accepts.{position_sound}
use Rattle.positions.proofs.Turns as turns
use Rattle.positions.proofs.Turns.{Turn, own_now, king_now, kings_now}
use Rattle.positions.proofs.Plays.{turn_of, successor_is}
use Rattle.positions.proofs.Hashes.{play_is}

-- acceptance of two colours, each with its promotion row, whichever is to move
record Stands (us them kings us_row them_row : ℕ) : Type 0 where
  us_on : (i : ℕ) → has us i ≡ true → on_board i ≡ true
  them_on : (i : ℕ) → has them i ≡ true → on_board i ≡ true
  apart : (i : ℕ) → has us i ≡ true → has them i ≡ false
  marked : (i : ℕ) → has kings i ≡ true → (has us i || has them i) ≡ true
  us_men : (i : ℕ) → has us i ≡ true → has kings i ≡ false → has us_row i ≡ false
  them_men : (i : ℕ) → has them i ≡ true → has kings i ≡ false → has them_row i ≡ false
  us_fits : us < 2 ^ 54
  them_fits : them < 2 ^ 54
  kings_fits : kings < 2 ^ 54

white_stands : (w b k : ℕ) (s : Color) → Accepted (board w b k s) → Stands w b k (promotion White) (promotion Black)
white_stands w b k s a = record {
  us_on = a.white_on;
  them_on = a.black_on;
  apart = a.apart;
  marked = a.marked;
  us_men = a.white_men;
  them_men = a.black_men;
  us_fits = a.white_fits;
  them_fits = a.black_fits;
  kings_fits = a.kings_fits;
}

stands_accepted : {w b k : ℕ} (s : Color) → Stands w b k (promotion White) (promotion Black) → Accepted (board w b k s)
stands_accepted s a = record {
  white_on = a.us_on;
  black_on = a.them_on;
  apart = a.apart;
  marked = a.marked;
  white_men = a.us_men;
  black_men = a.them_men;
  white_fits = a.us_fits;
  black_fits = a.them_fits;
  kings_fits = a.kings_fits;
}

swapped : {us them kings p q : ℕ} → Stands us them kings p q → Stands them us kings q p
swapped {us} {them} {kings} a = record {
  us_on = a.them_on;
  them_on = a.us_on;
  apart = λ i e. go i e (has us i) refl;
  marked = λ i e. or_comm (has them i) (has us i) ∙ a.marked i e;
  us_men = a.them_men;
  them_men = a.us_men;
  us_fits = a.them_fits;
  them_fits = a.us_fits;
  kings_fits = a.kings_fits;
}
  where
    go : (i : ℕ) → has them i ≡ true → (t : Bool) → has us i ≡ t → t ≡ false
    go i e true p = absurd (false≢true (sym (a.apart i p) ∙ e))
    go i e false p = refl

-- what is not both
not_both : (x y : Bool) → not (x && y) ≡ true → x ≡ true → y ≡ false
not_both true y h p = not-true y h
not_both false y h p = absurd (false≢true p)

-- a man off its row
not_row : (x y z : Bool) → imp (x && not y) (not z) ≡ true → x ≡ true → y ≡ false → z ≡ false
not_row x y z h p q = not-true z (imp_elim _ _ h (and_both _ _ p (ap not q)))

row_test : (x y z : Bool) → (x ≡ true → y ≡ false → z ≡ false) → imp (x && not y) (not z) ≡ true
row_test x y z f = imp_intro _ _ (go x y f)
  where
    go : (x y : Bool) → (x ≡ true → y ≡ false → z ≡ false) → (x && not y) ≡ true → not z ≡ true
    go true false f h = ap not (f refl refl)
    go true true f h = absurd (false≢true h)
    go false y f h = absurd (false≢true h)

module _ (us them kings p q f t taken : ℕ) (a : Stands us them kings p q) (m : Turn us them kings f t taken) (to_on : on_board t ≡ true) (to_low : t < 54) where
  abbrev us' : ℕ
  us' = own_now us f t

  abbrev them' : ℕ
  them' = without them taken

  abbrev kings' : ℕ
  kings' = kings_now kings p f t taken

  us_lt : us' < 2 ^ 54
  unfolding own_now
  us_lt = or_lt 54 _ _ (lt_of_le_of_lt (without_le us (2 ^ f)) a.us_fits) (pow-lt to_low)

  them_lt : them' < 2 ^ 54
  them_lt = lt_of_le_of_lt (without_le them taken) a.them_fits

  if_lt : (c : Bool) → bit_if c t < 2 ^ 54
  if_lt true = pow-lt to_low
  if_lt false = lit< tt

  kings_lt : kings' < 2 ^ 54
  unfolding kings_now
  kings_lt = or_lt 54 _ _ (lt_of_le_of_lt (without_le _ (2 ^ f)) (lt_of_le_of_lt (without_le kings taken) a.kings_fits)) (if_lt (king_now kings p f t))

  below : (s i : ℕ) → s < 2 ^ 54 → has s i ≡ true → i < 64
  below s i h e = omega (arith, member_lt 54 s i h e)

  own_on : (i : ℕ) (x y z : Bool) → eqb i t ≡ y → (x ≡ true → on_board i ≡ true) → ((x && not z) || y) ≡ true → on_board i ≡ true
  own_on i x true z e h l = ap on_board (eqb-true i t e) ∙ to_on
  own_on i true false z e h l = h refl
  own_on i false false z e h l = absurd (false≢true l)

  kept : Stands us' them' kings' p q
  kept = record {
    us_on = λ i e. own_on i (has us i) (eqb i t) (eqb i f) refl (a.us_on i) (sym (turns.has_own us them kings f t taken p m i (below us' i us_lt e)) ∙ e);
    them_on = λ i e. a.them_on i (and_left _ _ (sym (has_without them taken m.them_fit m.taken_fit i (below them' i them_lt e)) ∙ e));
    apart = λ i e. not_both (has us' i) (has them' i) (turns.apart_now us them kings f t taken p m i (below us' i us_lt e)) e;
    marked = λ i e. imp_elim _ _ (turns.marked_now us them kings f t taken p m i (below kings' i kings_lt e)) e;
    us_men = λ i e k. not_row (has us' i) (has kings' i) (has p i)
        (turns.row_now us them kings f t taken p m (λ j l. row_test (has us j) (has kings j) (has p j) (a.us_men j)) i (below us' i us_lt e)) e k;
    them_men = λ i e k. not_row (has them' i) (has kings' i) (has q i)
        (turns.foe_row_now us them kings f t taken p m q (λ j l. row_test (has them j) (has kings j) (has q j) (a.them_men j)) i (below them' i them_lt e)) e k;
    us_fits = us_lt;
    them_fits = them_lt;
    kings_fits = kings_lt;
  }

accepted_at : (w b k : ℕ) (s : Color) (m : Move) → Accepted (board w b k s) → Playable (board w b k s) m
    → Accepted (turned s (own_now (own (board w b k s)) (bit_of m.from) (bit_of m.to)) (without (enemy (board w b k s)) m.captured) (kings_now k (promotion s) (bit_of m.from) (bit_of m.to) m.captured))
accepted_at w b k White m a y =
    stands_accepted Black (kept w b k (promotion White) (promotion Black) (bit_of m.from) (bit_of m.to) m.captured
    (white_stands w b k White a) (turn_of (board w b k White) m a y) (square_on m.to y.to_square) (bit_lt m.to y.to_square))
accepted_at w b k Black m a y =
    stands_accepted White (swapped (kept b w k (promotion Black) (promotion White) (bit_of m.from) (bit_of m.to) m.captured
    (swapped (white_stands w b k Black a)) (turn_of (board w b k Black) m a y) (square_on m.to y.to_square) (bit_lt m.to y.to_square)))

pub successor_accepted : (b : Board) (m : Move) → Accepted b → Playable b m → Accepted (successor b m)
successor_accepted b m a y = rw (successor_is b m y) (accepted_at b.white b.black b.kings b.side m a y)

pub play_sound : (p : Position) (m : Move) → Sound p → Playable (board_of p) m → Sound (play_of p m)
play_sound p m s y = rw (play_is p m s y) (position_sound (successor (board_of p) m) (successor_accepted (board_of p) m s.accepted y))
