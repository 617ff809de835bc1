-- The board turned round, with the colours exchanged, has the same score for its side to move, for every weights.
use Rattle.std.specs.Prelude.{Err, Ok}
use mathlib.Core.Path.{◌≡◌, refl, sym, ap, ap₂, ◌∙◌}
use Prim.Native.Nat.{ℕ, zero, suc, ◌-◌, ◌/◌, ◌<◌, ◌^◌, zero-le}
use native.Mathlib.Nat.{lt_of_le_of_lt, sub-le, zero-lt-suc}
use native.Mathlib.Omega.{arith}
use mathlib.Core.Bool.{Bool, true, false, not, cond, ◌&&◌, ◌||◌, or_comm}
use lib.Dec.{eqb, leb}
use lib.Bits.{bit_and, and_le_l}
use lib.IntN.{ℤ, pos, negsuc, ◌+ℤ◌, ◌-ℤ◌, ◌*ℤ◌, neg_ℤ, neg_ℤ-neg_ℤ, neg_ℤ-+ℤ, +ℤ_comm}
use lib.Signed.{lt_z, quot_z}
use borrow.Author.Tests.{eqb-true, eq-eqb, lt-ltb, le-ltb}
use Rattle.squares.specs.Sets.{has, size, without}
use Rattle.squares.specs.Squares.{on_board}
use Rattle.squares.specs.Folds.{sum_over}
use Rattle.squares.specs.Pieces.{other}
use Rattle.squares.specs.declared.piece.Color.{Color}
use Rattle.squares.specs.declared.piece.Color.TheVariants.{White, Black}
use Rattle.squares.specs.declared.refusal.Refusal.TheVariants.{BeyondLimit, BadPosition}
use Rattle.squares.proofs.Bools.{at3, iff, iff_eq, imp, imp_elim, tested, and_left, bool_ext}
use Rattle.squares.proofs.Below.{below, below_at}
use Rattle.squares.proofs.Pointwise.{ext, has_and, has_without}
use Rattle.squares.proofs.Folds.{sum_same}
use Rattle.squares.proofs.Numbers.{on_lt}
use Rattle.positions.specs.Boards.{Board, board_of, colored, men_of, kings_of}
use Rattle.positions.specs.Acceptance.{Accepted, Sound}
use Rattle.positions.specs.Hash.{position_of}
use Rattle.positions.specs.Flip.{rotated, flip}
use Rattle.scores.specs.Score.{advanced, center, guard, guarding, material_of, placement_of, worth, few_pieces, drawish, damped, white_score, signed, score, weights_fit, evaluate_of}
use Rattle.scores.specs.Computed.{computed}
use Rattle.positions.specs.declared.position.Position.{Position}
use Rattle.scores.specs.declared.eval.Classical.{Classical}
use Rattle.positions.proofs.Rotation.{Squares, has_rotated, rotated_lt, rotated_twice, size_rotated, sum_rotated}
use Rattle.positions.proofs.Accepts.{says_sound}
use Rattle.positions.proofs.Flips.{flipped_sound}
use Rattle.positions.proofs.OnSquares.{wide, colored_squares, men_squares, kings_squares}

-- ---- sets turned round
rotated_and : (s k : ℕ) → bit_and (rotated s) (rotated k) ≡ rotated (bit_and s k)
unfolding tested
rotated_and s k = ext 54 _ _ (lt_of_le_of_lt (and_le_l (rotated s) (rotated k)) (rotated_lt s)) (rotated_lt (bit_and s k)) (λ j l.
    has_and (rotated s) (rotated k) j ∙ ap₂ ◌&&◌ (has_rotated s j) (has_rotated k j)
    ∙ iff_eq _ _ (at3 (λ o x y. iff ((o && x) && (o && y)) (o && (x && y))) refl (on_board j) (has s (53 - j)) (has k (53 - j)))
    ∙ sym (has_rotated (bit_and s k) j ∙ ap (λ (x : Bool). on_board j && x) (has_and s k (53 - j))))

rotated_without : (s k : ℕ) → s < 2 ^ 64 → k < 2 ^ 64 → without (rotated s) (rotated k) ≡ rotated (without s k)
unfolding tested without
rotated_without s k hs hk =
    let fs : rotated s < 2 ^ 64 = omega (arith, rotated_lt s) in
    let fk : rotated k < 2 ^ 64 = omega (arith, rotated_lt k) in
    ext 54 _ _ (lt_of_le_of_lt (sub-le (rotated s) (bit_and (rotated s) (rotated k))) (rotated_lt s)) (rotated_lt (without s k)) (λ j l.
    has_without (rotated s) (rotated k) fs fk j (omega arith) ∙ ap₂ (λ (x y : Bool). x && not y) (has_rotated s j) (has_rotated k j)
    ∙ iff_eq _ _ (at3 (λ o x y. iff ((o && x) && not (o && y)) (o && (x && not y))) refl (on_board j) (has s (53 - j)) (has k (53 - j)))
    ∙ sym (has_rotated (without s k) j ∙ ap (λ (x : Bool). on_board j && x) (has_without s k hs hk (53 - j) (omega arith))))

rotated_zero : rotated 0 ≡ 0
unfolding computed
rotated_zero = refl

-- empty exactly where the set is
rotated_none : (s : ℕ) → Squares s → eqb (rotated s) 0 ≡ eqb s 0
rotated_none s q = bool_ext _ _
    (λ e. eq-eqb s 0 (sym (rotated_twice s q) ∙ ap rotated (eqb-true (rotated s) 0 e) ∙ rotated_zero))
    (λ e. eq-eqb (rotated s) 0 (ap rotated (eqb-true s 0 e) ∙ rotated_zero))

-- a part of a set of squares
part : (s m : ℕ) → Squares s → Squares (bit_and s m)
part s m q = record {
  fits = lt_of_le_of_lt (and_le_l s m) q.fits;
  on = λ i e. q.on i (and_left (has s i) (has m i) (sym (has_and s m i) ∙ e));
}

-- ---- the score's squares turned round
center_turned : rotated center ≡ center
unfolding computed
center_turned = refl

guard_turned : (c : Color) → rotated (guard (other c)) ≡ guard c
unfolding computed
guard_turned White = refl
guard_turned Black = refl

turn_test : Color → ℕ → Bool
turn_test c i = imp (on_board i) (eqb (advanced c (53 - i)) (advanced (other c) i))

turns_tested : (c : Color) → below 54 (turn_test c) ≡ true
unfolding computed below tested turn_test
turns_tested White = refl
turns_tested Black = refl

advanced_turned : (c : Color) (i : ℕ) → on_board i ≡ true → advanced c (53 - i) ≡ advanced (other c) i
unfolding turn_test
advanced_turned c i o = eqb-true _ _ (imp_elim _ _ (below_at 54 (turn_test c) (turns_tested c) i (on_lt i o)) o)

-- ---- a colour of the flipped board is the other colour, turned round
colored_flip : (c : Color) (b : Board) → colored c (flip b) ≡ rotated (colored (other c) b)
unfolding flip
colored_flip White b = refl
colored_flip Black b = refl

kings_marked : (b : Board) → (flip b).kings ≡ rotated b.kings
unfolding flip
kings_marked b = refl

side_changed : (b : Board) → (flip b).side ≡ other b.side
unfolding flip
side_changed b = refl

module _ (b : Board) (a : Accepted b) where
  marks : b.kings < 2 ^ 64
  marks = omega (arith, a.kings_fits)

  men_flip : (c : Color) → men_of c (flip b) ≡ rotated (men_of (other c) b)
  men_flip c =
      ap₂ without (colored_flip c b) (kings_marked b)
      ∙ rotated_without (colored (other c) b) b.kings (wide _ (colored_squares (other c) b a)) marks

  kings_flip : (c : Color) → kings_of c (flip b) ≡ rotated (kings_of (other c) b)
  kings_flip c = ap₂ bit_and (colored_flip c b) (kings_marked b) ∙ rotated_and (colored (other c) b) b.kings

  no_kings_flip : (c : Color) → eqb (kings_of c (flip b)) 0 ≡ eqb (kings_of (other c) b) 0
  no_kings_flip c = ap (λ (s : ℕ). eqb s 0) (kings_flip c) ∙ rotated_none _ (kings_squares (other c) b a)

  -- the men on a set of squares
  part_flip : (c : Color) (m n : ℕ) → rotated m ≡ n → size (bit_and (men_of c (flip b)) n) ≡ size (bit_and (men_of (other c) b) m)
  part_flip c m n e =
      ap size (ap₂ bit_and (men_flip c) (sym e) ∙ rotated_and (men_of (other c) b) m)
      ∙ size_rotated (bit_and (men_of (other c) b) m) (part (men_of (other c) b) m (men_squares (other c) b a))

  rows_flip : (c : Color) → sum_over (advanced c) (men_of c (flip b)) ≡ sum_over (advanced (other c)) (men_of (other c) b)
  rows_flip c =
      let q = men_squares (other c) b a in
      ap (sum_over (advanced c)) (men_flip c) ∙ sum_rotated (advanced c) (men_of (other c) b) q
      ∙ sum_same (λ i. advanced c (53 - i)) (advanced (other c)) (men_of (other c) b) (λ i l e. advanced_turned c i (q.on i e))

  guarding_flip : (c : Color) → guarding c (flip b) ≡ guarding (other c) b
  unfolding guarding
  guarding_flip c = ap₂ (λ (t : Bool) (n : ℕ). cond t n 0) (no_kings_flip (other c)) (part_flip c (guard (other c)) (guard c) (guard_turned c))

  worth_flip : (w : Classical) (c : Color) → worth w c (flip b) ≡ worth w (other c) b
  unfolding worth material_of placement_of
  worth_flip w c =
      let m = size_rotated (men_of (other c) b) (men_squares (other c) b a) in
      let k = size_rotated (kings_of (other c) b) (kings_squares (other c) b a) in
      ap₂ ◌+ℤ◌
      (ap₂ (λ (x y : ℕ). w.man *ℤ pos x +ℤ w.king *ℤ pos y) (ap size (men_flip c) ∙ m) (ap size (kings_flip c) ∙ k))
      (ap₂ ◌+ℤ◌ (ap₂ (λ (x y : ℕ). w.advance *ℤ pos x +ℤ w.center *ℤ pos y) (rows_flip c) (part_flip c center center center_turned))
      (ap (λ (x : ℕ). w.guard *ℤ pos x) (guarding_flip c)))

  few_flip : (c : Color) → few_pieces c (flip b) ≡ few_pieces (other c) b
  unfolding few_pieces
  few_flip c =
      ap₂ (λ (n : ℕ) (t : Bool). leb n 3 && not t)
      (ap size (colored_flip c b) ∙ size_rotated (colored (other c) b) (colored_squares (other c) b a)) (no_kings_flip (other c))

-- ---- the sum changes its sign, and damping keeps that
less_swap : (x y : ℤ) → y -ℤ x ≡ neg_ℤ (x -ℤ y)
less_swap x y = sym (neg_ℤ-+ℤ x (neg_ℤ y) ∙ ap (λ (z : ℤ). neg_ℤ x +ℤ z) (neg_ℤ-neg_ℤ y) ∙ +ℤ_comm (neg_ℤ x) y)

behind_neg : (s : ℤ) → lt_z (pos 0) (neg_ℤ s) ≡ lt_z s (pos 0)
behind_neg (pos zero) = refl
behind_neg (pos (suc n)) = sym (le-ltb (suc n) 0 zero-le)
behind_neg (negsuc n) = lt-ltb 0 (suc n) (zero-lt-suc n)

ahead_neg : (s : ℤ) → lt_z (neg_ℤ s) (pos 0) ≡ lt_z (pos 0) s
ahead_neg (pos zero) = refl
ahead_neg (pos (suc n)) = sym (lt-ltb 0 (suc n) (zero-lt-suc n))
ahead_neg (negsuc n) = le-ltb (suc n) 0 zero-le

eighth_neg : (s : ℤ) → quot_z (neg_ℤ s) (pos 8) ≡ neg_ℤ (quot_z s (pos 8))
eighth_neg (pos zero) = refl
eighth_neg (pos (suc n)) = refl
eighth_neg (negsuc n) = sym (neg_ℤ-neg_ℤ (pos (suc n / 8)))

module _ (b : Board) (a : Accepted b) where
  drawish_flip : (s : ℤ) → drawish (flip b) (neg_ℤ s) ≡ drawish b s
  unfolding drawish
  drawish_flip s =
      ap₂ ◌||◌ (ap₂ ◌&&◌ (behind_neg s) (few_flip b a White)) (ap₂ ◌&&◌ (ahead_neg s) (few_flip b a Black))
      ∙ or_comm (lt_z s (pos 0) && few_pieces Black b) (lt_z (pos 0) s && few_pieces White b)

  damped_flip : (s : ℤ) → damped (flip b) (neg_ℤ s) ≡ neg_ℤ (damped b s)
  unfolding damped
  damped_flip s = ap (λ (t : Bool). cond t (quot_z (neg_ℤ s) (pos 8)) (neg_ℤ s)) (drawish_flip s) ∙ go (drawish b s)
    where
      go : (t : Bool) → cond t (quot_z (neg_ℤ s) (pos 8)) (neg_ℤ s) ≡ neg_ℤ (cond t (quot_z s (pos 8)) s)
      go true = eighth_neg s
      go false = refl

  white_flip : (w : Classical) → white_score w (flip b) ≡ neg_ℤ (white_score w b)
  unfolding white_score
  white_flip w =
      ap (damped (flip b)) (ap₂ ◌-ℤ◌ (worth_flip b a w White) (worth_flip b a w Black) ∙ less_swap (worth w White b) (worth w Black b))
      ∙ damped_flip (worth w White b -ℤ worth w Black b)

  pub score_flip : (w : Classical) → score w (flip b) ≡ score w b
  unfolding score
  score_flip w = ap₂ signed (side_changed b) (white_flip w) ∙ turned b.side
    where
      turned : (c : Color) → signed (other c) (neg_ℤ (white_score w b)) ≡ signed c (white_score w b)
      turned White = neg_ℤ-neg_ℤ (white_score w b)
      turned Black = refl

-- the answers of a sound position and of what `flipped` hands back agree
pub evaluate_flipped : (w : Classical) (p : Position) → Sound p → evaluate_of w (position_of (flip (board_of p))) ≡ evaluate_of w p
unfolding evaluate_of
evaluate_flipped w p s =
    ap₂ (λ (t : Bool) (z : ℤ). cond t (cond (weights_fit w) (Ok z) (Err BeyondLimit)) (Err BadPosition))
    (says_sound (position_of (flip (board_of p))) (flipped_sound p s) ∙ sym (says_sound p s)) (score_flip (board_of p) s.accepted w)
