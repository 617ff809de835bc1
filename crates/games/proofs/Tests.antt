-- The tests of the game and those of the book agree on an accepted board: squares of a record, king endings, the outcome.
use Rattle.std.specs.Prelude.{None, Some}
use mathlib.Core.Path.{◌≡◌, refl, sym, ap, ap₂, ◌∙◌}
use Prim.Native.Nat.{ℕ, zero, suc, ◌+◌, ◌-◌, ◌^◌, ◌<◌, ◌≤◌, min}
use native.Mathlib.Nat.{min-eq_left, min-eq_right}
use native.Mathlib.Omega.{arith}
use mathlib.Core.Bool.{Bool, true, false, not, cond, ◌&&◌, ◌||◌, and_assoc}
use mathlib.Core.List.{[], ◌∷◌}
use lib.Bits.{bit_and, and_le_l}
use lib.Dec.{eqb, leb, ltb}
use lib.ListN.{length}
use borrow.Author.Tests.{ltb-true, lt-ltb, leb-true, leb-false, le-leb, lt-leb, eqb-true, eqb-false, eq-eqb}
use Rattle.squares.specs.Sets.{size, without}
use Rattle.squares.specs.Squares.{all, is_square}
use Rattle.squares.specs.Pieces.{other}
use Rattle.squares.specs.declared.piece.Color.{Color}
use Rattle.squares.specs.declared.piece.Color.TheVariants.{White, Black}
use Rattle.squares.proofs.Bools.{and_left, and_right, and_both, bool_ext}
use Rattle.squares.proofs.Numbers.{square_range, range_square}
use Rattle.squares.proofs.Pointwise.{and_lt, without_lt}
use Rattle.squares.proofs.Sizes.{size_zero, size_without, size_none}
use Rattle.positions.specs.Acceptance.{Accepted}
use Rattle.positions.specs.Boards.{Board, colored, men_of, kings_of}
use Rattle.positions.specs.Moves.{squares_of}
use Rattle.positions.specs.declared.moves.Move.{Move}
use Rattle.positions.proofs.Accepts.{colored_fits, kings_fit_lem}
use Rattle.positions.proofs.Records.{on_board_is}
use Rattle.rules.specs.Ordered.{legal}
use Rattle.movegen.proofs.Plies.{none_open}
use Rattle.games.specs.Book as book
use Rattle.games.specs.Book.{against, three_pieces, two_pieces, first_to_hold, tests_at, numbers_square, on_the_board}
use Rattle.games.specs.Demand3.{told_as}
use Rattle.games.specs.Games.{can_move, lone_king, faces, won, drawn, king_ending, judge}
use Rattle.games.specs.declared.game.Termination.TheVariants.{Repetition, TwentyFiveMoves, SixteenMoves, FiveMoves}

-- ---- refusal 11
square_agrees : (n : ℕ) → is_square n ≡ numbers_square n
unfolding numbers_square
square_agrees n = bool_ext (is_square n) (ltb 0 n && ltb n 51)
    (λ e. let r = square_range n e in and_both (ltb 0 n) (ltb n 51) (lt-ltb 0 n r.0) (lt-ltb n 51 (omega (arith, r.1))))
    (λ e. range_square n (ltb-true 0 n (and_left (ltb 0 n) (ltb n 51) e)) (let k = ltb-true n 51 (and_right (ltb 0 n) (ltb n 51) e) in omega arith))

-- a set within another
within_agrees : (s a : ℕ) → eqb (without s a) 0 ≡ eqb (bit_and s a) s
unfolding without
within_agrees s a =
    let l = and_le_l s a in
    bool_ext (eqb (s - bit_and s a) 0) (eqb (bit_and s a) s)
    (λ e. let k = eqb-true (s - bit_and s a) 0 e in eq-eqb (bit_and s a) s (omega arith))
    (λ e. let k = eqb-true (bit_and s a) s e in eq-eqb (s - bit_and s a) 0 (omega arith))

pub squares_agree : (m : Move) → squares_of m ≡ on_the_board m
unfolding on_the_board
squares_agree m =
    on_board_is m
    ∙ ap₂ (λ (x y : Bool). x && (y && eqb (without m.captured all) 0)) (square_agrees m.from) (square_agrees m.to)
    ∙ ap (λ (z : Bool). numbers_square m.from && (numbers_square m.to && z)) (within_agrees m.captured all)
    ∙ sym (and_assoc (numbers_square m.from) (numbers_square m.to) (eqb (bit_and m.captured all) m.captured))

-- ---- whether a move is legal
none_agrees : (p : Board) → eqb (length (legal p)) 0 ≡ not (can_move p)
unfolding can_move
none_agrees p = none_open p

-- ---- lone kings
-- the pieces s of a colour, with the kings k marked
module _ (s k : ℕ) (s_fits : s < 2 ^ 64) (k_fits : k < 2 ^ 64) where
  parts_size : size (without s k) + size (bit_and s k) ≡ size s
  parts_size = size_without s k s_fits k_fits

  no_men : size (without s k) ≡ 0 → s ≡ bit_and s k
  unfolding without
  no_men e =
      let z : s - bit_and s k ≡ 0 = size_none (without s k) (without_lt s k s_fits) e in
      let l = and_le_l s k in omega arith

  men_none : s ≡ bit_and s k → size (without s k) ≡ 0
  men_none e = let h = ap size e in omega (arith, parts_size)

  -- one piece, a king
  one_king : (eqb (size s) 1 && eqb s (bit_and s k)) ≡ (eqb (size (without s k)) 0 && eqb (size (bit_and s k)) 1)
  one_king = bool_ext _ _
      (λ e.
      let o = eqb-true (size s) 1 (and_left _ _ e) in
      let q = eqb-true s (bit_and s k) (and_right (eqb (size s) 1) _ e) in
      let n = men_none q in
      and_both _ _ (eq-eqb _ _ n) (eq-eqb (size (bit_and s k)) 1 (omega (arith, parts_size))))
      (λ e.
      let n = eqb-true (size (without s k)) 0 (and_left _ _ e) in
      let o = eqb-true (size (bit_and s k)) 1 (and_right (eqb (size (without s k)) 0) _ e) in
      and_both _ _ (eq-eqb (size s) 1 (omega (arith, parts_size))) (eq-eqb s (bit_and s k) (no_men n)))

  some_king : not (eqb (bit_and s k) 0) ≡ leb 1 (size (bit_and s k))
  some_king = go (eqb (bit_and s k) 0) refl
    where
      go : (t : Bool) → eqb (bit_and s k) 0 ≡ t → not t ≡ leb 1 (size (bit_and s k))
      go true e = sym (lt-leb 1 (size (bit_and s k)) (omega (arith, ap size (eqb-true (bit_and s k) 0 e), size_zero)))
      go false e = sym (le-leb 1 (size (bit_and s k)) (pos (size (bit_and s k)) refl))
        where
          pos : (n : ℕ) → size (bit_and s k) ≡ n → 1 ≤ n
          pos zero q = absurd (eqb-false (bit_and s k) 0 e (size_none (bit_and s k) (and_lt s k s_fits) q))
          pos (suc n) q = omega arith

-- from a number to that number
from_to : (k n : ℕ) → (leb k n && leb n k) ≡ eqb n k
from_to k n =
    bool_ext (leb k n && leb n k) (eqb n k)
    (λ e. eq-eqb n k (let a = leb-true k n (and_left _ _ e) in let b = leb-true n k (and_right (leb k n) _ e) in omega arith))
    (λ e. let q = eqb-true n k e in and_both _ _ (le-leb k n (omega arith)) (le-leb n k (omega arith)))

module _ (p : Board) (a : Accepted p) where
  lone_agrees : (c : Color) → lone_king c p ≡ book.lone_king c p
  unfolding lone_king book.lone_king
  lone_agrees c =
      ap₂ (λ (x y : Bool). x && y) (one_king (colored c p) p.kings (colored_fits p a c) (kings_fit_lem p a))
      (some_king (colored (other c) p) p.kings (colored_fits p a (other c)) (kings_fit_lem p a))
      ∙ and_assoc (eqb (size (men_of c p)) 0) (eqb (size (kings_of c p)) 1) (leb 1 (size (kings_of (other c) p)))

  against_is : (c : Color) → size (colored (other c) p) ≡ against c p
  unfolding against
  against_is c = sym (parts_size (colored (other c) p) p.kings (colored_fits p a (other c)) (kings_fit_lem p a))

  three_agrees : (faces White 3 3 p || faces Black 3 3 p) ≡ three_pieces p
  unfolding faces three_pieces
  three_agrees = ap₂ (λ (x y : Bool). x || y) (at White) (at Black)
    where
      at : (c : Color)
          → (lone_king c p && (leb 3 (size (colored (other c) p)) && leb (size (colored (other c) p)) 3)) ≡ (book.lone_king c p && eqb (against c p) 3)
      at c =
          ap (λ (x : Bool). lone_king c p && x) (from_to 3 (size (colored (other c) p)))
          ∙ ap₂ (λ (x : Bool) (n : ℕ). x && eqb n 3) (lone_agrees c) (against_is c)

  two_agrees : (faces White 0 2 p || faces Black 0 2 p) ≡ two_pieces p
  unfolding faces two_pieces
  two_agrees = ap₂ (λ (x y : Bool). x || y) (at White) (at Black)
    where
      at : (c : Color)
          → (lone_king c p && (leb 0 (size (colored (other c) p)) && leb (size (colored (other c) p)) 2)) ≡ (book.lone_king c p && leb (against c p) 2)
      at c =
          ap (λ (x : Bool). lone_king c p && (x && leb (size (colored (other c) p)) 2)) (le-leb 0 (size (colored (other c) p)) (omega arith))
          ∙ ap₂ (λ (x : Bool) (n : ℕ). x && leb n 2) (lone_agrees c) (against_is c)

-- ---- a count that stops at 32
pub stopped : (k n : ℕ) → k ≤ 32 → leb k (min 32 n) ≡ leb k n
stopped k n h = go (leb 32 n) refl
  where
    go : (t : Bool) → leb 32 n ≡ t → leb k (min 32 n) ≡ leb k n
    go true e =
        let l = leb-true 32 n e in
        ap (leb k) (min-eq_left l) ∙ le-leb k 32 h ∙ sym (le-leb k n (omega arith))
    go false e = let l = leb-false 32 n e in ap (leb k) (min-eq_right (omega arith))

-- ---- the outcome
-- both go through the tests in the same order
in_order : (c : Color) (x y z u v : Bool)
    → cond x (cond y (Some (drawn Repetition)) (cond z (Some (drawn TwentyFiveMoves)) (cond u (Some (drawn SixteenMoves)) (cond v (Some (drawn FiveMoves)) None)))) (Some (won (other c)))
    ≡ told_as (first_to_hold (book.lost c (not x) ∷ book.draw Repetition y ∷ book.draw TwentyFiveMoves z ∷ book.draw SixteenMoves u ∷ book.draw FiveMoves v ∷ []))
unfolding first_to_hold
in_order c false y z u v = refl
in_order c true true z u v = refl
in_order c true false true u v = refl
in_order c true false false true v = refl
in_order c true false false false true = refl
in_order c true false false false false = refl

pub outcome_agrees : (p : Board) → Accepted p → (times first second : ℕ)
    → judge p times first (min 32 second) ≡ told_as (first_to_hold (tests_at p times first second))
unfolding judge king_ending tests_at
outcome_agrees p a times first second =
    let x = none_agrees p in
    let u : ((faces White 3 3 p || faces Black 3 3 p) && leb 32 (min 32 second)) ≡ (three_pieces p && leb 32 second) =
    ap₂ (λ (s t : Bool). s && t) (three_agrees p a) (stopped 32 second (omega arith)) in
    let v : ((faces White 0 2 p || faces Black 0 2 p) && leb 10 (min 32 second)) ≡ (two_pieces p && leb 10 second) =
    ap₂ (λ (s t : Bool). s && t) (two_agrees p a) (stopped 10 second (omega arith)) in
    in_order p.side (can_move p) (leb 3 times) (leb 50 first) _ _
    ∙ ap₂ (λ (s t : Bool). told_as (first_to_hold (book.lost p.side (not (can_move p)) ∷ book.draw Repetition (leb 3 times) ∷ book.draw TwentyFiveMoves (leb 50 first) ∷ book.draw SixteenMoves s ∷ book.draw FiveMoves t ∷ []))) u v
    ∙ ap (λ (s : Bool). told_as (first_to_hold (book.lost p.side s ∷ book.draw Repetition (leb 3 times) ∷ book.draw TwentyFiveMoves (leb 50 first) ∷ book.draw SixteenMoves (three_pieces p && leb 32 second) ∷ book.draw FiveMoves (two_pieces p && leb 10 second) ∷ []))) (sym x)
