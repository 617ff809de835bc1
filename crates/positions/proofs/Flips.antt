-- The flip of an accepted board is accepted, and the flip of the flip is the board.
use Rattle.std.specs.Prelude.{Ok}
use mathlib.Core.Path.{◌≡◌, refl, sym, ap, ap₂, ◌∙◌}
use Prim.Native.Nat.{ℕ, ◌-◌}
use mathlib.Core.Bool.{Bool, true, false, ◌&&◌, ◌||◌, false≢true, or_comm}
use Rattle.squares.specs.Sets.{has}
use Rattle.squares.specs.Squares.{on_board, promotion}
use Rattle.squares.specs.Pieces.{other}
use Rattle.squares.specs.declared.piece.Color.{Color}
use Rattle.squares.specs.declared.piece.Color.TheVariants.{White, Black}
use Rattle.squares.proofs.Bools.{imp, imp_elim, iff, iff_eq, and_left, and_right, tested}
use Rattle.squares.proofs.Below.{below, below_at}
use Rattle.squares.proofs.Numbers.{on_lt}
use Rattle.positions.specs.Boards.{Board, board, board_of}
use Rattle.positions.specs.Hash.{position_of}
use Rattle.positions.specs.Acceptance.{Accepted, Sound}
use Rattle.positions.specs.Flip.{rotated, flip, flipped_of}
use Rattle.positions.specs.Computed.{computed}
use Rattle.positions.specs.declared.position.Position.{Position}
use Rattle.positions.proofs.Rotation.{Squares, has_rotated, rotated_lt, rotated_twice}
use Rattle.positions.proofs.Accepts.{says_sound, position_sound, sound_position}

-- ---- the promotion rows are exchanged
rows_test : ℕ → Bool
rows_test i = imp (on_board i) (iff (has (promotion White) i) (has (promotion Black) (53 - i)) && iff (has (promotion Black) i) (has (promotion White) (53 - i)))

rows_tested : below 54 rows_test ≡ true
unfolding computed below tested rows_test
rows_tested = refl

rows_facts : (i : ℕ) → on_board i ≡ true
    → (iff (has (promotion White) i) (has (promotion Black) (53 - i)) && iff (has (promotion Black) i) (has (promotion White) (53 - i))) ≡ true
unfolding rows_test
rows_facts i o = imp_elim _ _ (below_at 54 rows_test rows_tested i (on_lt i o)) o

white_row : (i : ℕ) → on_board i ≡ true → has (promotion White) i ≡ has (promotion Black) (53 - i)
white_row i o = iff_eq _ _ (and_left _ _ (rows_facts i o))

black_row : (i : ℕ) → on_board i ≡ true → has (promotion Black) i ≡ has (promotion White) (53 - i)
black_row i o = iff_eq _ _ (and_right (iff (has (promotion White) i) (has (promotion Black) (53 - i))) _ (rows_facts i o))

-- ---- a member of the turned set
member_on : (s i : ℕ) → has (rotated s) i ≡ true → on_board i ≡ true
member_on s i e = and_left _ _ (sym (has_rotated s i) ∙ e)

member_back : (s i : ℕ) → has (rotated s) i ≡ true → has s (53 - i) ≡ true
member_back s i e = and_right (on_board i) _ (sym (has_rotated s i) ∙ e)

at_back : (s i : ℕ) → on_board i ≡ true → has (rotated s) i ≡ has s (53 - i)
at_back s i o = has_rotated s i ∙ ap (λ (t : Bool). t && has s (53 - i)) o

pub flip_accepted : (b : Board) → Accepted b → Accepted (flip b)
unfolding flip
flip_accepted b a = record {
  white_on = λ i e. member_on b.black i e;
  black_on = λ i e. member_on b.white i e;
  apart = λ i e. at_back b.white i (member_on b.black i e) ∙ other_none (53 - i) (member_back b.black i e);
  marked = λ i e.
      let o = member_on b.kings i e in
      ap₂ ◌||◌ (at_back b.black i o) (at_back b.white i o) ∙ or_comm (has b.black (53 - i)) (has b.white (53 - i)) ∙ a.marked (53 - i) (member_back b.kings i e);
  white_men = λ i e k.
      let o = member_on b.black i e in
      white_row i o ∙ a.black_men (53 - i) (member_back b.black i e) (sym (at_back b.kings i o) ∙ k);
  black_men = λ i e k.
      let o = member_on b.white i e in
      black_row i o ∙ a.white_men (53 - i) (member_back b.white i e) (sym (at_back b.kings i o) ∙ k);
  white_fits = rotated_lt b.black;
  black_fits = rotated_lt b.white;
  kings_fits = rotated_lt b.kings;
}
  where
    other_none : (i : ℕ) → has b.black i ≡ true → has b.white i ≡ false
    other_none i e = go (has b.white i) refl
      where
        go : (t : Bool) → has b.white i ≡ t → t ≡ false
        go true p = absurd (false≢true (sym (a.apart i p) ∙ e))
        go false p = refl

-- a king stands on a piece, so the kings are squares too
pub kings_on : (b : Board) → Accepted b → Squares b.kings
kings_on b a = record { fits = a.kings_fits; on = λ i e. go i (has b.white i) refl (a.marked i e) }
  where
    go : (i : ℕ) (t : Bool) → has b.white i ≡ t → (t || has b.black i) ≡ true → on_board i ≡ true
    go i true p h = a.white_on i p
    go i false p h = a.black_on i h

other_twice : (c : Color) → other (other c) ≡ c
other_twice White = refl
other_twice Black = refl

pub flip_twice : (b : Board) → Accepted b → flip (flip b) ≡ b
unfolding flip
flip_twice b a =
    let w = rotated_twice b.white (record { fits = a.white_fits; on = a.white_on }) in
    let k = rotated_twice b.black (record { fits = a.black_fits; on = a.black_on }) in
    let g = rotated_twice b.kings (kings_on b a) in
    λ i. board (w i) (k i) (g i) (other_twice b.side i)

-- ---- of a position: what `flipped` hands back is sound, and flipped again gives it back
pub flipped_is : (p : Position) → Sound p → flipped_of p ≡ Ok (position_of (flip (board_of p)))
unfolding flipped_of
flipped_is p s = rw (says_sound p s)

pub flipped_sound : (p : Position) → Sound p → Sound (position_of (flip (board_of p)))
flipped_sound p s = position_sound (flip (board_of p)) (flip_accepted (board_of p) s.accepted)

pub flipped_twice : (p : Position) → Sound p → flipped_of (position_of (flip (board_of p))) ≡ Ok p
flipped_twice p s =
    flipped_is (position_of (flip (board_of p))) (flipped_sound p s)
    ∙ ap (λ (b : Board). Ok (position_of b)) (flip_twice (board_of p) s.accepted)
    ∙ ap Ok (sym (sound_position p s))
