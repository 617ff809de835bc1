-- The code's constants are the squares of docs/RULES.md, "Score"; the rows that men have advanced, by row and by square; and the score's bound.
use mathlib.Core.Path.{◌≡◌, refl, sym, ap, ap₂, ◌∙◌}
use Prim.Native.Nat.{ℕ, ◌≤◌, ◌<◌, ◌^◌}
use native.Mathlib.Omega.{arith}
use mathlib.Core.Bool.{Bool, true, not, cond, ◌&&◌, ◌||◌, and_assoc}
use lib.Dec.{eqb, leb}
use lib.Bits.{bit_and}
use lib.IntN.{ℤ, pos, ◌*ℤ◌, nat_abs}
use lib.Signed.{lt_z, quot_z}
use borrow.Author.Tests.{eq-eqb, ne_eqb}
use Rattle.squares.specs.Sets.{size}
use Rattle.squares.specs.Pieces.{other}
use Rattle.squares.specs.declared.piece.Color.{Color}
use Rattle.squares.specs.declared.piece.Color.TheVariants.{White, Black}
use Rattle.squares.proofs.Bools.{and_left, and_right}
use Rattle.squares.proofs.Sizes.{size_most}
use Rattle.positions.specs.Boards.{Board, colored, men_of, kings_of}
use Rattle.scores.specs.Score.{center, guard, guarding, few_pieces, drawish, damped, within, weights_fit, Bounded}
use Rattle.scores.specs.Computed.{computed}
use Rattle.scores.specs.declared.eval.Classical.{Classical}
use Rattle.scores.proofs.Integers.{held, held_is, within_le}

-- ---- the constants
pub center_is : center ≡ 0x7380_0000
unfolding computed
center_is = refl

pub white_guard : guard White ≡ 0x001C_0000_0000_0000
unfolding computed
white_guard = refl

pub black_guard : guard Black ≡ 0xE
unfolding computed
black_guard = refl

-- ---- the weights
pub record Weights (w : Classical) : Type 0 where
  pub man : within 10000 w.man ≡ true
  pub king : within 10000 w.king ≡ true
  pub advance : within 10000 w.advance ≡ true
  pub center : within 10000 w.center ≡ true
  pub guard : within 10000 w.guard ≡ true

pub weights_of_lem : (w : Classical) → weights_fit w ≡ true → Weights w
unfolding weights_fit
weights_of_lem w e =
    let e1 = and_right (within 10000 w.man) _ e in
    let e2 = and_right (within 10000 w.king) _ e1 in
    let e3 = and_right (within 10000 w.advance) _ e2 in
    record {
      man = and_left _ _ e;
      king = and_left _ _ e1;
      advance = and_left _ _ e2;
      center = and_left _ _ e3;
      guard = and_right (within 10000 w.center) _ e3;
    }

-- as the code tests them
pub weights_test : (w : Classical) (a b c d e : Bool) → a ≡ within 10000 w.man → b ≡ within 10000 w.king → c ≡ within 10000 w.advance
    → d ≡ within 10000 w.center → e ≡ within 10000 w.guard → ((a && b) && (c && (d && e))) ≡ weights_fit w
unfolding weights_fit
weights_test w a b c d e p q r s t = and_assoc a b (c && (d && e)) ∙ ap₂ ◌&&◌ p (ap₂ ◌&&◌ q (ap₂ ◌&&◌ r (ap₂ ◌&&◌ s t)))

-- a count is a number that a term takes
pub count_le : (r s : ℕ) → r ≡ size s → r ≤ 5760
count_le r s e = omega (arith, size_most s)

-- a term of the code, whose weight reads back and whose number is what it should be
pub of_term : (w r : ℤ) (n k : ℕ) → within 10000 w ≡ true → n ≡ k → Bounded 57600000 (held w *ℤ pos n) r → Bounded 57600000 (w *ℤ pos k) r
of_term w r n k h e b = record {
  is = b.is ∙ ap₂ (λ (z : ℤ) (m : ℕ). z *ℤ pos m) (held_is w (omega (arith, within_le 10000 w h))) e;
  small = b.small;
}

-- ---- guards
module _ (c : Color) (b : Board) (o : Color) (k : ℕ) (p : o ≡ other c) (q : k ≡ kings_of o b) where
  pub guards_none : (k ≡ 0 → ⊥) → 0 ≡ guarding c b
  unfolding guarding
  guards_none n = sym (ap (λ (t : Bool). cond t (size (bit_and (men_of c b) (guard c))) 0) (ap (λ (x : ℕ). eqb x 0) (sym (q ∙ ap (λ (d : Color). kings_of d b) p)) ∙ ne_eqb k 0 n))

  pub guards_some : (m g : ℕ) → k ≡ 0 → m ≡ men_of c b → g ≡ guard c → size (bit_and m g) ≡ guarding c b
  unfolding guarding
  guards_some m g z r s =
      ap₂ (λ (x y : ℕ). size (bit_and x y)) r s
      ∙ sym (ap (λ (t : Bool). cond t (size (bit_and (men_of c b) (guard c))) 0) (ap (λ (x : ℕ). eqb x 0) (sym (q ∙ ap (λ (d : Color). kings_of d b) p)) ∙ eq-eqb k 0 z))

  -- ---- few pieces against a king
  pub few_test : (s n : ℕ) → s ≡ colored c b → n ≡ size s → (leb n 3 && not (eqb k 0)) ≡ few_pieces c b
  unfolding few_pieces
  few_test s n r t = ap₂ (λ (x y : ℕ). leb x 3 && not (eqb y 0)) (t ∙ ap size r) (q ∙ ap (λ (d : Color). kings_of d b) p)

-- ---- damping, by the code's test
pub damped_test : (b : Board) (s : ℤ) (x y t : Bool) → nat_abs s < 2 ^ 31 → x ≡ few_pieces White b → y ≡ few_pieces Black b
    → ((lt_z (pos 0) (held s) && x) || (lt_z (held s) (pos 0) && y)) ≡ t → cond t (quot_z s (pos 8)) s ≡ damped b s
unfolding damped drawish
damped_test b s x y t h p q e =
    ap (λ (f : Bool). cond f (quot_z s (pos 8)) s)
    (sym e ∙ ap (λ (z : ℤ). (lt_z (pos 0) z && x) || (lt_z z (pos 0) && y)) (held_is s h) ∙ ap₂ (λ (f g : Bool). (lt_z (pos 0) s && f) || (lt_z s (pos 0) && g)) p q)
