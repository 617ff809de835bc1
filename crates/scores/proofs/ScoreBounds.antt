-- With the default weights the score of an accepted board lies from -15,000 to 15,000: a side has at most 50 pieces, none
-- worth more than a king. So it lies within 15,100.
use Rattle.std.specs.Prelude.{Err, Ok}
use mathlib.Core.Path.{◌≡◌, refl}
use Prim.Native.Nat.{ℕ, zero, suc, ◌+◌, ◌-◌, ◌*◌, ◌≤◌, zero-le}
use native.Mathlib.Nat.{le_trans}
use native.Mathlib.Omega.{arith}
use mathlib.Core.Bool.{Bool, true, false, cond}
use lib.Dec.{eqb, ltb}
use lib.Bits.{bit_and}
use lib.IntN.{ℤ, pos, negsuc, ◌-ℤ◌, sub_ℕ, nat_abs}
use lib.Signed.{quot_z}
use borrow.Author.Tests.{ltb-true}
use Rattle.squares.specs.Sets.{size}
use Rattle.squares.specs.Folds.{sum_over}
use Rattle.squares.specs.Pieces.{other}
use Rattle.squares.specs.declared.piece.Color.{Color}
use Rattle.squares.specs.declared.piece.Color.TheVariants.{White, Black}
use Rattle.squares.specs.declared.refusal.Refusal.TheVariants.{BeyondLimit, BadPosition}
use Rattle.squares.proofs.Folds.{sum_bound}
use Rattle.squares.proofs.Sizes.{size_sum}
use Rattle.positions.specs.Boards.{Board, board_of, men_of, kings_of}
use Rattle.positions.specs.Acceptance.{Accepted, sound}
use Rattle.scores.specs.Score.{advanced, center, guard, guarding, material_of, placement_of, worth, drawish, damped, white_score, signed, score, default, within, weights_fit, evaluate_of, default_limit, limited}
use Rattle.positions.specs.declared.position.Position.{Position}
use Rattle.positions.proofs.Accepts.{sound_says}
use Rattle.positions.proofs.OnSquares.{wide, men_squares, men_kings}
use Rattle.scores.proofs.Integers.{abs_neg, abs_eighth, le_within}
use Rattle.squares.proofs.Sums.{size_and_le}
use Rattle.scores.proofs.Advances.{advanced_le}

-- ---- a difference of two numbers, each at most n
abs_sub_le : (a b n : ℕ) → a ≤ n → b ≤ n → nat_abs (sub_ℕ a b) ≤ n
abs_sub_le a b n h l = go (ltb a b) refl
  where
    go : (t : Bool) → ltb a b ≡ t → nat_abs (cond t (negsuc (b - suc a)) (pos (a - b))) ≤ n
    go true e = omega (arith, ltb-true a b e)
    go false e = omega arith

abs_less_le : (a b n : ℕ) → a ≤ n → b ≤ n → nat_abs (pos a -ℤ pos b) ≤ n
abs_less_le a zero n h l = omega arith
abs_less_le a (suc b) n h l = abs_sub_le a (suc b) n h l

-- ---- damping and sign make no score larger
pub damped_le : (b : Board) (s : ℤ) (n : ℕ) → nat_abs s ≤ n → nat_abs (damped b s) ≤ n
unfolding damped
damped_le b s n h = go (drawish b s)
  where
    go : (t : Bool) → nat_abs (cond t (quot_z s (pos 8)) s) ≤ n
    go true = le_trans (abs_eighth s) h
    go false = h

signed_le : (c : Color) (z : ℤ) (n : ℕ) → nat_abs z ≤ n → nat_abs (signed c z) ≤ n
signed_le White z n h = h
signed_le Black z n h = rw (abs_neg z) h

-- ---- what a colour is worth
module _ (c : Color) (b : Board) (a : Accepted b) where
  rows_le : sum_over (advanced c) (men_of c b) ≤ 9 * size (men_of c b)
  rows_le = rw (size_sum (men_of c b)) (sum_bound 9 (advanced c) (men_of c b) (λ i l e. advanced_le c i l))

  part_le : (m : ℕ) → size (bit_and (men_of c b) m) ≤ size (men_of c b)
  part_le m = size_and_le (men_of c b) m (wide _ (men_squares c b a))

  guards_le : guarding c b ≤ size (men_of c b)
  unfolding guarding
  guards_le = go (eqb (kings_of (other c) b) 0)
    where
      go : (t : Bool) → cond t (size (bit_and (men_of c b) (guard c))) 0 ≤ size (men_of c b)
      go true = part_le (guard c)
      go false = zero-le

  value : ℕ
  value = 100 * size (men_of c b) + 300 * size (kings_of c b) + (2 * sum_over (advanced c) (men_of c b) + 6 * size (bit_and (men_of c b) center) + 5 * guarding c b)

  worth_value : worth default c b ≡ pos value
  unfolding worth material_of placement_of value
  worth_value = refl

  value_le : value ≤ 15000
  unfolding value
  value_le = omega (arith, men_kings c b a, rows_le, part_le center, guards_le)

white_le : (b : Board) → Accepted b → nat_abs (white_score default b) ≤ 15000
unfolding white_score
white_le b a =
    damped_le b (worth default White b -ℤ worth default Black b) 15000
    (rw (worth_value White b a, worth_value Black b a) (abs_less_le (value White b a) (value Black b a) 15000 (value_le White b a) (value_le Black b a)))

pub score_le : (b : Board) → Accepted b → nat_abs (score default b) ≤ 15000
unfolding score
score_le b a = signed_le b.side (white_score default b) 15000 (white_le b a)

-- every score with the default weights lies within the limit of docs/RULES.md, "Score"
pub score_bound : (b : Board) → Accepted b → within default_limit (score default b) ≡ true
score_bound b a = le_within default_limit (score default b) (le_trans (score_le b a) (omega arith))

-- and so does every answer
pub evaluate_limited : (p : Position) → limited (evaluate_of default p) ≡ true
unfolding evaluate_of
evaluate_limited p = go (sound p) refl (weights_fit default)
  where
    go : (t : Bool) → sound p ≡ t → (f : Bool)
        → limited (cond t (cond f (Ok (score default (board_of p))) (Err BeyondLimit)) (Err BadPosition)) ≡ true
    go true e true = score_bound (board_of p) (sound_says p e).accepted
    go true e false = refl
    go false e f = refl
