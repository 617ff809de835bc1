-- The test of acceptance says what it should, square by square, and every position handed back passes it.
use Rattle.std.specs.Prelude.{Err, Ok, Result}
use mathlib.Core.Path.{◌≡◌, refl, sym, ap, ap₂, ◌∙◌}
use Prim.Native.Nat.{ℕ, ◌<◌, ◌^◌}
use native.Mathlib.Nat.{lt_of_le_of_lt}
use native.Mathlib.Omega.{arith}
use mathlib.Core.Bool.{Bool, true, false, not, ◌&&◌, ◌||◌, cond, true≢false, false≢true}
use lib.Dec.{eqb}
use lib.Bits.{bit_and, bit_or, or_lt, and_le_r}
use borrow.Author.Tests.{eqb-true, eq-eqb}
use Rattle.squares.specs.Sets.{has, without}
use Rattle.squares.specs.Squares.{all, promotion, first_of, squares_only}
use Rattle.squares.specs.declared.piece.Color.{Color}
use Rattle.squares.specs.declared.piece.Color.TheVariants.{White, Black}
use Rattle.squares.specs.declared.refusal.Refusal.TheVariants.{NoSuchSquare, Overlap, ManOnPromotionRow}
use Rattle.squares.proofs.Bools.{and_left, and_right, and_both, or_none}
use Rattle.squares.proofs.Pointwise.{has_zero, has_and, has_or, has_without, none_zero, none_within, within_none, within_le, and_lt, without_lt}
use Rattle.squares.proofs.Numbers.{all_lt, all_lt64, has_all}
use Rattle.positions.specs.Boards.{Board, board, board_of, start, colored}
use Rattle.positions.specs.Hash.{position_of, initial_of}
use Rattle.positions.specs.Acceptance.{misplaced, accepted_sets, accepted, sound, Accepted, Sound, place_of, from_parts_of}
use Rattle.positions.specs.Computed.{computed}
use Rattle.positions.specs.declared.position.Position.{Position}
use Rattle.positions.proofs.Rotation.{Squares}
use Rattle.squares.specs.declared.refusal.Refusal.{Refusal}

-- ---- sets of squares
pub squares_say : (s : ℕ) → squares_only s ≡ true → Squares s
unfolding squares_only
squares_say s e =
    let none = eqb-true (without s all) 0 e in
    let le = within_le s all none in
    record {
      fits = lt_of_le_of_lt le all_lt;
      on = λ i p. sym (has_all i) ∙ within_none s all (lt_of_le_of_lt le all_lt64) all_lt64 none i p;
    }

pub say_squares : (s : ℕ) → Squares s → squares_only s ≡ true
unfolding squares_only
say_squares s q = eq-eqb _ 0 (none_within s all (omega (arith, q.fits)) all_lt64 (λ i l p. has_all i ∙ q.on i p))

-- ---- the test and what it says
-- nothing in s
none_has : (s i : ℕ) → s ≡ 0 → has s i ≡ false
none_has s i e = ap (λ (x : ℕ). has x i) e ∙ has_zero i

module _ (w b k : ℕ) (hw : w < 2 ^ 64) (hb : b < 2 ^ 64) (hk : k < 2 ^ 64) where
  has_misplaced : (i : ℕ) → i < 64
      → has (misplaced w b k) i ≡ (((has w i && not (has k i)) && has (promotion White) i) || ((has b i && not (has k i)) && has (promotion Black) i))
  unfolding misplaced
  has_misplaced i l =
      has_or _ _ i ∙ ap₂ ◌||◌
      (has_and (without w k) (promotion White) i ∙ ap (λ (x : Bool). x && has (promotion White) i) (has_without w k hw hk i l))
      (has_and (without b k) (promotion Black) i ∙ ap (λ (x : Bool). x && has (promotion Black) i) (has_without b k hb hk i l))

  misplaced_lt : misplaced w b k < 2 ^ 64
  unfolding misplaced
  misplaced_lt = or_lt 64 _ _ (and_lt _ _ (without_lt w k hw)) (and_lt _ _ (without_lt b k hb))

-- x is a man, and not on its row
off_row : (x y z : Bool) → ((x && not y) && z) ≡ false → x ≡ true → y ≡ false → z ≡ false
off_row true false z h p q = h
off_row true true z h p q = absurd (true≢false q)
off_row false y z h p q = absurd (false≢true p)

on_row : (x y z : Bool) → (x ≡ true → y ≡ false → z ≡ false) → ((x && not y) && z) ≡ false
on_row true true z h = refl
on_row true false z h = h refl refl
on_row false y z h = refl

pub accepted_says : (b : Board) → accepted b ≡ true → Accepted b
unfolding accepted accepted_sets
accepted_says b e =
    let w = squares_say b.white (and_left _ _ (and_left _ _ e)) in
    let k = squares_say b.black (and_right (squares_only b.white) _ (and_left _ _ e)) in
    let rest = and_right (squares_only b.white && squares_only b.black) _ e in
    let apart = eqb-true (bit_and b.white b.black) 0 (and_left _ _ rest) in
    let rest' = and_right (eqb (bit_and b.white b.black) 0) _ rest in
    let marked = eqb-true (without b.kings (bit_or b.white b.black)) 0 (and_left _ _ rest') in
    let none = eqb-true (misplaced b.white b.black b.kings) 0 (and_right (eqb (without b.kings (bit_or b.white b.black)) 0) _ rest') in
    let kl : b.kings < 2 ^ 54 = lt_of_le_of_lt (within_le b.kings (bit_or b.white b.black) marked) (or_lt 54 _ _ w.fits k.fits) in
    let fw : b.white < 2 ^ 64 = omega (arith, w.fits) in
    let fb : b.black < 2 ^ 64 = omega (arith, k.fits) in
    let fk : b.kings < 2 ^ 64 = omega arith in
    let men : (i : ℕ) → i < 64
    → (((has b.white i && not (has b.kings i)) && has (promotion White) i) ≡ false) × (((has b.black i && not (has b.kings i)) && has (promotion Black) i) ≡ false)
    = λ i l. or_none _ _ (sym (has_misplaced b.white b.black b.kings fw fb fk i l) ∙ none_has _ i none) in
    record {
      white_on = w.on;
      black_on = k.on;
      apart = λ i p. sym (ap (λ (x : Bool). x && has b.black i) p) ∙ sym (has_and b.white b.black i) ∙ none_has _ i apart;
      marked = λ i p. sym (has_or b.white b.black i) ∙ within_none b.kings (bit_or b.white b.black) fk (or_lt 64 _ _ fw fb) marked i p;
      white_men = λ i p q. off_row (has b.white i) (has b.kings i) (has (promotion White) i) (men i (Rattle.squares.proofs.Pointwise.member_lt 64 b.white i fw p)).0 p q;
      black_men = λ i p q. off_row (has b.black i) (has b.kings i) (has (promotion Black) i) (men i (Rattle.squares.proofs.Pointwise.member_lt 64 b.black i fb p)).1 p q;
      white_fits = w.fits;
      black_fits = k.fits;
      kings_fits = kl;
    }

pub says_accepted : (b : Board) → Accepted b → accepted b ≡ true
unfolding accepted accepted_sets
says_accepted b a =
    let fw : b.white < 2 ^ 64 = omega (arith, a.white_fits) in
    let fb : b.black < 2 ^ 64 = omega (arith, a.black_fits) in
    let fk : b.kings < 2 ^ 64 = omega (arith, a.kings_fits) in
    and_both _ _
    (and_both _ _ (say_squares b.white (record { fits = a.white_fits; on = a.white_on })) (say_squares b.black (record { fits = a.black_fits; on = a.black_on })))
    (and_both _ _ (eq-eqb _ 0 (none_zero _ (and_lt _ _ fw) (λ i l. has_and b.white b.black i ∙ never (has b.white i) (has b.black i) (a.apart i))))
    (and_both _ _ (eq-eqb _ 0 (none_within b.kings (bit_or b.white b.black) fk (or_lt 64 _ _ fw fb) (λ i l p. has_or b.white b.black i ∙ a.marked i p)))
    (eq-eqb _ 0 (none_zero _ (misplaced_lt b.white b.black b.kings fw fb fk) (λ i l. has_misplaced b.white b.black b.kings fw fb fk i l
    ∙ ap₂ ◌||◌ (on_row (has b.white i) (has b.kings i) (has (promotion White) i) (a.white_men i)) (on_row (has b.black i) (has b.kings i) (has (promotion Black) i) (a.black_men i)))))))
  where
    never : (x y : Bool) → (x ≡ true → y ≡ false) → (x && y) ≡ false
    never true y f = f refl
    never false y f = refl

pub sound_says : (p : Position) → sound p ≡ true → Sound p
unfolding sound
sound_says p e = record {
  accepted = accepted_says (board_of p) (and_left _ _ e);
  hash = eqb-true _ _ (and_right (accepted (board_of p)) _ e);
}

pub says_sound : (p : Position) → Sound p → sound p ≡ true
unfolding sound
says_sound p s = and_both _ _ (says_accepted (board_of p) s.accepted) (eq-eqb _ _ s.hash)

-- an accepted board with its hash is sound, and a sound position is its board with the hash
pub position_sound : (b : Board) → Accepted b → Sound (position_of b)
position_sound b a = record { accepted = a; hash = refl }

pub sound_position : (p : Position) → Sound p → p ≡ position_of (board_of p)
sound_position p s = λ i. record { white = p.white; black = p.black; kings = p.kings; side = p.side; hash = s.hash i }

-- ---- what is handed back is sound
pub initial_sound : Sound initial_of
unfolding computed
initial_sound = position_sound start (accepted_says start refl)

-- the empty board with White to move; its hash is 0
pub blank_sound : sound (record { white = 0; black = 0; kings = 0; side = White; hash = 0 }) ≡ true
unfolding computed
blank_sound = refl

pub of_position : {p q : Position} → ◌≡◌ {A = Result Position Refusal} (Ok p) (Ok q) → p ≡ q
of_position e = cc

place_sound : (w b k : ℕ) (s : Color) (p : Position) → squares_only w ≡ true → squares_only b ≡ true → eqb (without k (bit_or w b)) 0 ≡ true
    → place_of w b k s ≡ Ok p → Sound p
unfolding place_of accepted accepted_sets
place_sound w b k s p hw hb hk = both (eqb (bit_and w b) 0) refl
  where
    row : eqb (bit_and w b) 0 ≡ true → (t : Bool) → eqb (misplaced w b k) 0 ≡ t
        → cond t (Ok (position_of (board w b k s))) (Err (ManOnPromotionRow (first_of (misplaced w b k)))) ≡ Ok p → Sound p
    row q true r e =
        rw (← of_position e)
        (position_sound (board w b k s) (accepted_says (board w b k s) (and_both _ _ (and_both _ _ hw hb) (and_both _ _ q (and_both _ _ hk r)))))
    row q false r e = absurd (let z : ◌≡◌ {A = ℕ} 0 1 = cc in omega arith)

    both : (t : Bool) → eqb (bit_and w b) 0 ≡ t
        → cond t (cond (eqb (misplaced w b k) 0) (Ok (position_of (board w b k s))) (Err (ManOnPromotionRow (first_of (misplaced w b k)))))
        (Err (Overlap (first_of (bit_and w b)))) ≡ Ok p → Sound p
    both true q e = row q (eqb (misplaced w b k) 0) refl e
    both false q e = absurd (let z : ◌≡◌ {A = ℕ} 0 1 = cc in omega arith)

pub from_parts_sound : (w b k : ℕ) (s : Color) (p : Position) → from_parts_of w b k s ≡ Ok p → Sound p
unfolding from_parts_of
from_parts_sound w b k s p = go (squares_only w && (squares_only b && squares_only k)) refl
  where
    go : (t : Bool) → (squares_only w && (squares_only b && squares_only k)) ≡ t
        → cond t (place_of w b (bit_and k (bit_or w b)) s) (Err NoSuchSquare) ≡ Ok p → Sound p
    go true q e =
        let hw = and_left _ _ q in
        let hb = and_left _ _ (and_right (squares_only w) _ q) in
        let fw : w < 2 ^ 64 = omega (arith, (squares_say w hw).fits) in
        let fb : b < 2 ^ 64 = omega (arith, (squares_say b hb).fits) in
        let fo : bit_or w b < 2 ^ 64 = or_lt 64 w b fw fb in
        place_sound w b (bit_and k (bit_or w b)) s p hw hb
        (eq-eqb _ 0 (none_within (bit_and k (bit_or w b)) (bit_or w b) (lt_of_le_of_lt (and_le_r k (bit_or w b)) fo) fo
        (λ i l h. and_right (has k i) (has (bit_or w b) i) (sym (has_and k (bit_or w b) i) ∙ h)))) e
    go false q e = absurd (let z : ◌≡◌ {A = ℕ} 0 1 = cc in omega arith)

-- ---- the sets of an accepted board fit 64 bits
pub colored_fits : (b : Board) → Accepted b → (c : Color) → colored c b < 2 ^ 64
colored_fits b a White = omega (arith, a.white_fits)
colored_fits b a Black = omega (arith, a.black_fits)

pub kings_fit_lem : (b : Board) → Accepted b → b.kings < 2 ^ 64
kings_fit_lem b a = omega (arith, a.kings_fits)
