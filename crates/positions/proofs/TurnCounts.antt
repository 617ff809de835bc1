-- The standing pieces after a move as sums, and the rows that the mover's men have before them.
use mathlib.Core.Path.{◌≡◌, refl, sym, ap, ◌∙◌}
use Prim.Native.Nat.{ℕ, ◌+◌, ◌<◌}
use native.Mathlib.Nat.{add-zero}
use native.Mathlib.Omega.{arith}
use mathlib.Core.Bool.{Bool, true, false, not, ◌&&◌, ◌||◌, cond}
use lib.Bits.{bit_and}
use Rattle.squares.specs.Sets.{has, size, without}
use Rattle.squares.specs.Folds.{sum_over}
use Rattle.squares.proofs.Folds.{sum_parts, sum_none, sum_bit_if}
use Rattle.squares.proofs.Members.{none_without}
use Rattle.squares.proofs.Pointwise.{without_lt}
use Rattle.squares.proofs.Sizes.{one, size_parts, size_bit_if, size_without}
use Rattle.positions.proofs.Turns as turns
use Rattle.positions.proofs.Turns.{own_now, king_now, kings_now, Turn}

-- ---- a move's counts
pub record Counted (men kings foe_men foe_kings men' kings' foe_men' foe_kings' promotions men_taken kings_taken : ℕ) : Type 0 where
  pub men_now : men' + promotions ≡ men
  pub kings_now : kings' ≡ kings + promotions
  pub foe_men_now : foe_men' + men_taken ≡ foe_men
  pub foe_kings_now : foe_kings' + kings_taken ≡ foe_kings

module _ (us them kings f t taken promo : ℕ) (m : Turn us them kings f t taken) where
  abbrev us' : ℕ
  us' = own_now us f t

  abbrev them' : ℕ
  them' = without them taken

  abbrev kgs' : ℕ
  kgs' = kings_now kings promo f t taken

  -- whether the move promotes
  abbrev pub promotes : Bool
  promotes = not (has kings f) && has promo t

  crowned : (k p : Bool) → (one (not (k || p)) + one (not k && p) ≡ one (not k)) × (one (k || p) ≡ one k + one (not k && p))
  crowned true p = (refl, refl)
  crowned false true = (refl, refl)
  crowned false false = (refl, refl)

  pub counted : Counted (size (without us kings)) (size (bit_and us kings)) (size (without them kings)) (size (bit_and them kings))
      (size (without us' kgs')) (size (bit_and us' kgs')) (size (without them' kgs')) (size (bit_and them' kgs'))
      (one promotes) (size (without taken kings)) (size (bit_and taken kings))
  unfolding king_now
  counted =
      let mb = size_parts (turns.men_before us them kings f t taken promo m) in
      let mn = size_parts (turns.men_now_lem us them kings f t taken promo m) in
      let kb = size_parts (turns.kings_before us them kings f t taken promo m) in
      let kn = size_parts (turns.kings_now_lem us them kings f t taken promo m) in
      let c = crowned (has kings f) (has promo t) in
      let s1 = size_bit_if (not (has kings f)) f m.from_fit in
      let s2 = size_bit_if (not (king_now kings promo f t)) t m.to_fit in
      let s3 = size_bit_if (has kings f) f m.from_fit in
      let s4 = size_bit_if (king_now kings promo f t) t m.to_fit in
      record {
        men_now = omega arith;
        kings_now = omega arith;
        foe_men_now = sym (size_parts (turns.foe_men_lem us them kings f t taken promo m));
        foe_kings_now = sym (size_parts (turns.foe_kings_lem us them kings f t taken promo m));
      }

  -- a man's move towards the promotion row: w counts the rows before it
  pub rows_fall : (w : ℕ → ℕ) → has kings f ≡ false → w t < w f → sum_over w (without us' kgs') < sum_over w (without us kings)
  unfolding king_now
  rows_fall w e l = go (has promo t) refl
    where
      mb : sum_over w (without us kings) ≡ sum_over w (turns.men_rest us them kings f t taken promo m) + w f
      mb = sum_parts w (turns.men_before us them kings f t taken promo m) ∙ ap (λ (x : ℕ). sum_over w (turns.men_rest us them kings f t taken promo m) + x) (sum_bit_if w (not (has kings f)) f m.from_fit ∙ ap (λ (b : Bool). cond (not b) (w f) 0) e)

      mn : sum_over w (without us' kgs') ≡ sum_over w (turns.men_rest us them kings f t taken promo m) + cond (not (has promo t)) (w t) 0
      mn = sum_parts w (turns.men_now_lem us them kings f t taken promo m) ∙ ap (λ (x : ℕ). sum_over w (turns.men_rest us them kings f t taken promo m) + x) (sum_bit_if w (not (king_now kings promo f t)) t m.to_fit ∙ ap (λ (b : Bool). cond (not (b || has promo t)) (w t) 0) e)

      go : (p : Bool) → has promo t ≡ p → sum_over w (without us' kgs') < sum_over w (without us kings)
      go true q = let n = mn ∙ ap (λ (b : Bool). sum_over w (turns.men_rest us them kings f t taken promo m) + cond (not b) (w t) 0) q in omega (arith, mb)
      go false q = let n = mn ∙ ap (λ (b : Bool). sum_over w (turns.men_rest us them kings f t taken promo m) + cond (not b) (w t) 0) q in omega (arith, mb)

  -- a king's move leaves the men
  pub rows_stay : (w : ℕ → ℕ) → has kings f ≡ true → sum_over w (without us' kgs') ≡ sum_over w (without us kings)
  unfolding king_now
  rows_stay w e =
      sum_parts w (turns.men_now_lem us them kings f t taken promo m)
      ∙ ap (λ (x : ℕ). sum_over w (turns.men_rest us them kings f t taken promo m) + x)
      (sum_bit_if w (not (king_now kings promo f t)) t m.to_fit ∙ ap (λ (b : Bool). cond (not (b || has promo t)) (w t) 0) e
      ∙ sym (sum_bit_if w (not (has kings f)) f m.from_fit ∙ ap (λ (b : Bool). cond (not b) (w f) 0) e))
      ∙ sym (sum_parts w (turns.men_before us them kings f t taken promo m))

-- ---- both colours
module _ (us them kings f t taken promo : ℕ) (m : Turn us them kings f t taken) where
  -- a capture leaves as many pieces fewer as it takes
  pub pieces_fall : size (own_now us f t) + size (without them taken) + size taken ≡ size us + size them
  pieces_fall =
      let c = counted us them kings f t taken promo m in
      let now = kings_now kings promo f t taken in
      let ol = turns.own_lt us them kings f t taken promo m in
      let kl = turns.kings_lt us them kings f t taken promo m in
      let tl = without_lt them taken m.them_fit in
      omega (
        arith,
        c.men_now,
        c.kings_now,
        c.foe_men_now,
        c.foe_kings_now,
        size_without (own_now us f t) now ol kl,
        size_without (without them taken) now tl kl,
        size_without us kings m.us_fit m.kings_fit,
        size_without them kings m.them_fit m.kings_fit,
        size_without taken kings m.taken_fit m.kings_fit,
      )

  -- where nothing is taken the other side's men stay
  pub foe_rows : (v : ℕ → ℕ) → taken ≡ 0 → sum_over v (without (without them taken) (kings_now kings promo f t taken)) ≡ sum_over v (without them kings)
  foe_rows v e =
      sym (sum_parts v (turns.foe_men_lem us them kings f t taken promo m)
      ∙ ap (λ (x : ℕ). sum_over v (without (without them taken) (kings_now kings promo f t taken)) + x)
      (ap (λ (x : ℕ). sum_over v (without x kings)) e ∙ ap (sum_over v) (none_without kings) ∙ sum_none v)
      ∙ add-zero (sum_over v (without (without them taken) (kings_now kings promo f t taken))))
