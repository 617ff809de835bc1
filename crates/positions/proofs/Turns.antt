-- What a move does to the four sets of pieces, as disjoint unions, and that the code's exclusive ors give these sets.
-- On sets and bits: us and them, the kings of both, the first bit f, the last bit t, the set taken, the promotion row.
use mathlib.Core.Path.{◌≡◌, refl, sym, ap, ap₂, ◌∙◌}
use Prim.Native.Nat.{ℕ, ◌^◌, ◌<◌}
use native.Mathlib.Nat.{lt_of_le_of_lt}
use mathlib.Core.Bool.{Bool, true, false, not, ◌&&◌, ◌||◌, xor, and-true, and-false, false≢true}
use lib.Dec.{eqb, lit<}
use lib.Bits.{bit_and, bit_or, bit_xor, or_lt, xor_lt, and_le_l}
use lib.Pow.{pow-lt}
use borrow.Author.Tests.{eqb-true, eq-eqb}
use Rattle.squares.specs.Sets.{has, without}
use Rattle.squares.proofs.Bools.{every8, at8, imp, imp_elim, imp_intro, iff, iff_eq, eq_iff, and_both, tested}
use Rattle.squares.proofs.Pointwise.{has_and, has_or, has_xor, has_bit, has_zero, has_without, without_lt, ext}
use Rattle.squares.proofs.Folds.{Parts, parts, parts_of_lem, bit_if}

-- the mover lifted, and put on the last square
unfoldable pub own_now : ℕ → ℕ → ℕ → ℕ
own_now us f t = bit_or (without us (2 ^ f)) (2 ^ t)

-- the mover ends as a king: it was one, or ends on the promotion row
unfoldable pub king_now : ℕ → ℕ → ℕ → ℕ → Bool
king_now kings promo f t = has kings f || has promo t

unfoldable pub kings_now : ℕ → ℕ → ℕ → ℕ → ℕ → ℕ
kings_now kings promo f t taken = bit_or (without (without kings taken) (2 ^ f)) (bit_if (king_now kings promo f t) t)

-- what such a move has; each condition as a Boolean, so that a law of it is one computed test
pub record Turn (us them kings f t taken : ℕ) : Type 0 where
  pub us_fit : us < 2 ^ 64
  pub them_fit : them < 2 ^ 64
  pub kings_fit : kings < 2 ^ 64
  pub taken_fit : taken < 2 ^ 64
  pub from_fit : f < 64
  pub to_fit : t < 64
  pub own : has us f ≡ true
  pub apart : (i : ℕ) → i < 64 → not (has us i && has them i) ≡ true
  pub marked : (i : ℕ) → i < 64 → imp (has kings i) (has us i || has them i) ≡ true
  pub enemies : (i : ℕ) → i < 64 → imp (has taken i) (has them i) ≡ true
  pub free : (eqb t f || (not (has us t) && not (has them t))) ≡ true

-- At a bit: u us, t them, g kings, x taken, a the first square, b the last, k the mover is a king, p the last square is on the promotion row.
abbrev pre : Bool → Bool → Bool → Bool → Bool → Bool → Bool → Bool → Bool
pre u t g x a b k p =
    imp a u && (imp a (iff g k) && (imp x t && (not (u && t) && (imp g (u || t) && imp b (a || (not u && not t))))))

abbrev own' : Bool → Bool → Bool → Bool
own' u a b = (u && not a) || b

abbrev kings' : Bool → Bool → Bool → Bool → Bool → Bool → Bool
kings' g x a b k p = ((g && not x) && not a) || (b && (k || p))

abbrev Law : Type 0
Law = Bool → Bool → Bool → Bool → Bool → Bool → Bool → Bool → Bool

-- c holds wherever `pre` does
unfoldable test : Law → Bool
unfolding tested
test c = every8 (λ u t g x a b k p. imp (pre u t g x a b k p) (c u t g x a b k p))

has_bit_if : (c : Bool) (j i : ℕ) → has (bit_if c j) i ≡ (eqb i j && c)
has_bit_if true j i = has_bit j i ∙ sym (and-true (eqb i j))
has_bit_if false j i = has_zero i ∙ sym (and-false (eqb i j))

bit_if_lt : (c : Bool) (j : ℕ) → j < 64 → bit_if c j < 2 ^ 64
bit_if_lt true j l = pow-lt l
bit_if_lt false j l = lit< tt

module _ (us them kings f t taken promo : ℕ) (m : Turn us them kings f t taken) where
  -- at the first square stands one of us, of the mover's kind
  at_first : (i : ℕ) (z : Bool) → eqb i f ≡ z → imp z (has us i) ≡ true
  unfolding imp
  at_first i true e = ap (has us) (eqb-true i f e) ∙ m.own
  at_first i false e = refl

  of_kind_lem : (i : ℕ) (z : Bool) → eqb i f ≡ z → imp z (iff (has kings i) (has kings f)) ≡ true
  unfolding imp
  of_kind_lem i true e = eq_iff _ _ (ap (has kings) (eqb-true i f e))
  of_kind_lem i false e = refl

  at_last : (i : ℕ) (z : Bool) → eqb i t ≡ z → imp z (eqb i f || (not (has us i) && not (has them i))) ≡ true
  unfolding imp
  at_last i true e = ap (λ (j : ℕ). eqb j f || (not (has us j) && not (has them j))) (eqb-true i t e) ∙ m.free
  at_last i false e = refl

  pre_at : (i : ℕ) → i < 64 → pre (has us i) (has them i) (has kings i) (has taken i) (eqb i f) (eqb i t) (has kings f) (has promo t) ≡ true
  pre_at i l =
      and_both _ _ (at_first i (eqb i f) refl) (and_both _ _ (of_kind_lem i (eqb i f) refl) (and_both _ _ (m.enemies i l)
      (and_both _ _ (m.apart i l) (and_both _ _ (m.marked i l) (at_last i (eqb i t) refl)))))

  holds : (c : Law) → test c ≡ true → (i : ℕ) → i < 64 → c (has us i) (has them i) (has kings i) (has taken i) (eqb i f) (eqb i t) (has kings f) (has promo t) ≡ true
  unfolding test
  holds c e i l =
      imp_elim _ _ (at8 (λ u t g x a b k p. imp (pre u t g x a b k p) (c u t g x a b k p)) e (has us i) (has them i) (has kings i) (has taken i) (eqb i f) (eqb i t) (has kings f) (has promo t)) (pre_at i l)

  -- ---- membership after the move
  abbrev king : Bool
  king = king_now kings promo f t

  pub has_own : (i : ℕ) → i < 64 → has (own_now us f t) i ≡ own' (has us i) (eqb i f) (eqb i t)
  unfolding own_now
  has_own i l =
      has_or (without us (2 ^ f)) (2 ^ t) i
      ∙ ap₂ ◌||◌ (has_without us (2 ^ f) m.us_fit (pow-lt m.from_fit) i l ∙ ap (λ (x : Bool). has us i && not x) (has_bit f i)) (has_bit t i)

  has_kings : (i : ℕ) → i < 64
      → has (kings_now kings promo f t taken) i ≡ kings' (has kings i) (has taken i) (eqb i f) (eqb i t) (has kings f) (has promo t)
  unfolding kings_now king_now
  has_kings i l =
      has_or (without (without kings taken) (2 ^ f)) (bit_if king t) i
      ∙ ap₂ ◌||◌
      (has_without (without kings taken) (2 ^ f) (without_lt kings taken m.kings_fit) (pow-lt m.from_fit) i l
      ∙ ap₂ (λ (x y : Bool). x && not y) (has_without kings taken m.kings_fit m.taken_fit i l) (has_bit f i))
      (has_bit_if king t i)

  pub own_lt : own_now us f t < 2 ^ 64
  unfolding own_now
  own_lt = or_lt 64 _ _ (without_lt us (2 ^ f) m.us_fit) (pow-lt m.to_fit)

  pub kings_lt : kings_now kings promo f t taken < 2 ^ 64
  unfolding kings_now king_now
  kings_lt = or_lt 64 _ _ (without_lt (without kings taken) (2 ^ f) (without_lt kings taken m.kings_fit)) (bit_if_lt king t m.to_fit)

  -- ---- the code's sets
  pub own_is : bit_xor us (bit_xor (2 ^ f) (2 ^ t)) ≡ own_now us f t
  unfolding tested test
  own_is = ext 64 _ _ (xor_lt 64 _ _ m.us_fit (xor_lt 64 _ _ (pow-lt m.from_fit) (pow-lt m.to_fit))) own_lt (λ i l.
      has_xor us (bit_xor (2 ^ f) (2 ^ t)) i
      ∙ ap (xor (has us i)) (has_xor (2 ^ f) (2 ^ t) i ∙ ap₂ xor (has_bit f i) (has_bit t i))
      ∙ iff_eq _ _ (holds (λ u t g x a b k p. iff (xor u (xor a b)) (own' u a b)) refl i l)
      ∙ sym (has_own i l))

  abbrev kept : ℕ
  kept = without kings taken

  kept_lt : kept < 2 ^ 64
  kept_lt = without_lt kings taken m.kings_fit

  has_kept : (i : ℕ) → i < 64 → has kept i ≡ (has kings i && not (has taken i))
  has_kept i l = has_without kings taken m.kings_fit m.taken_fit i l

  pub kept_first : has kept f ≡ has kings f
  unfolding tested test
  kept_first =
      has_kept f m.from_fit
      ∙ iff_eq _ _ (imp_elim _ _ (holds (λ u t g x a b k p. imp a (iff (g && not x) g)) refl f m.from_fit) (eq-eqb f f refl))

  pub kings_king : has kings f ≡ true → bit_xor kept (bit_xor (2 ^ f) (2 ^ t)) ≡ kings_now kings promo f t taken
  unfolding tested test
  kings_king e = ext 64 _ _ (xor_lt 64 _ _ kept_lt (xor_lt 64 _ _ (pow-lt m.from_fit) (pow-lt m.to_fit))) kings_lt (λ i l.
      has_xor kept (bit_xor (2 ^ f) (2 ^ t)) i
      ∙ ap₂ xor (has_kept i l) (has_xor (2 ^ f) (2 ^ t) i ∙ ap₂ xor (has_bit f i) (has_bit t i))
      ∙ iff_eq _ _ (imp_elim _ _ (holds (λ u t g x a b k p. imp k (iff (xor (g && not x) (xor a b)) (kings' g x a b k p))) refl i l) e)
      ∙ sym (has_kings i l))

  pub kings_crown : has kings f ≡ false → has promo t ≡ true → bit_or kept (2 ^ t) ≡ kings_now kings promo f t taken
  unfolding tested test
  kings_crown e q = ext 64 _ _ (or_lt 64 _ _ kept_lt (pow-lt m.to_fit)) kings_lt (λ i l.
      has_or kept (2 ^ t) i ∙ ap₂ ◌||◌ (has_kept i l) (has_bit t i)
      ∙ iff_eq _ _ (imp_elim _ _ (holds (λ u t g x a b k p. imp (not k && p) (iff ((g && not x) || b) (kings' g x a b k p))) refl i l) (and_both _ _ (ap not e) q))
      ∙ sym (has_kings i l))

  pub kings_man : has kings f ≡ false → has promo t ≡ false → kept ≡ kings_now kings promo f t taken
  unfolding tested test
  kings_man e q = ext 64 _ _ kept_lt kings_lt (λ i l.
      has_kept i l
      ∙ iff_eq _ _ (imp_elim _ _ (holds (λ u t g x a b k p. imp (not k && not p) (iff (g && not x) (kings' g x a b k p))) refl i l) (and_both _ _ (ap not e) (ap not q)))
      ∙ sym (has_kings i l))

  -- ---- the four sets, as disjoint unions
  abbrev us' : ℕ
  us' = own_now us f t

  abbrev them' : ℕ
  them' = without them taken

  abbrev kgs' : ℕ
  kgs' = kings_now kings promo f t taken

  has_them : (i : ℕ) → i < 64 → has them' i ≡ (has them i && not (has taken i))
  has_them i l = has_without them taken m.them_fit m.taken_fit i l

  them_lt : them' < 2 ^ 64
  them_lt = without_lt them taken m.them_fit

  -- men and kings of the side, but for the mover
  abbrev pub men_rest : ℕ
  men_rest = without (without us kings) (2 ^ f)

  abbrev pub kings_rest : ℕ
  kings_rest = without (bit_and us kings) (2 ^ f)

  has_men : (i : ℕ) → i < 64 → has (without us kings) i ≡ (has us i && not (has kings i))
  has_men i l = has_without us kings m.us_fit m.kings_fit i l

  has_men_rest : (i : ℕ) → i < 64 → has men_rest i ≡ ((has us i && not (has kings i)) && not (eqb i f))
  has_men_rest i l =
      has_without (without us kings) (2 ^ f) (without_lt us kings m.us_fit) (pow-lt m.from_fit) i l
      ∙ ap₂ (λ (x y : Bool). x && not y) (has_men i l) (has_bit f i)

  has_kings_rest : (i : ℕ) → i < 64 → has kings_rest i ≡ ((has us i && has kings i) && not (eqb i f))
  has_kings_rest i l =
      has_without (bit_and us kings) (2 ^ f) (lt_of_le_of_lt (and_le_l us kings) m.us_fit) (pow-lt m.from_fit) i l
      ∙ ap₂ (λ (x y : Bool). x && not y) (has_and us kings i) (has_bit f i)

  pub men_before : Parts (without us kings) men_rest (bit_if (not (has kings f)) f)
  unfolding tested test parts
  men_before = record {
    part = λ i l. parts_of_lem (has_men i l) (has_men_rest i l) (has_bit_if (not (has kings f)) f i)
        (holds (λ u t g x a b k p. parts (u && not g) ((u && not g) && not a) (a && not k)) refl i l);
  }

  pub men_now_lem : Parts (without us' kgs') men_rest (bit_if (not king) t)
  unfolding tested test parts king_now
  men_now_lem = record {
    part = λ i l.
        parts_of_lem (has_without us' kgs' own_lt kings_lt i l ∙ ap₂ (λ (x y : Bool). x && not y) (has_own i l) (has_kings i l)) (has_men_rest i l) (has_bit_if (not king) t i)
        (holds (λ u t g x a b k p. parts (own' u a b && not (kings' g x a b k p)) ((u && not g) && not a) (b && not (k || p))) refl i l);
  }

  pub kings_before : Parts (bit_and us kings) kings_rest (bit_if (has kings f) f)
  unfolding tested test parts
  kings_before = record {
    part = λ i l. parts_of_lem (has_and us kings i) (has_kings_rest i l) (has_bit_if (has kings f) f i)
        (holds (λ u t g x a b k p. parts (u && g) ((u && g) && not a) (a && k)) refl i l);
  }

  pub kings_now_lem : Parts (bit_and us' kgs') kings_rest (bit_if king t)
  unfolding tested test parts king_now
  kings_now_lem = record {
    part = λ i l.
        parts_of_lem (has_and us' kgs' i ∙ ap₂ ◌&&◌ (has_own i l) (has_kings i l)) (has_kings_rest i l) (has_bit_if king t i)
        (holds (λ u t g x a b k p. parts (own' u a b && kings' g x a b k p) ((u && g) && not a) (b && (k || p))) refl i l);
  }

  pub foe_men_lem : Parts (without them kings) (without them' kgs') (without taken kings)
  unfolding tested test parts
  foe_men_lem = record {
    part = λ i l.
        parts_of_lem (has_without them kings m.them_fit m.kings_fit i l)
        (has_without them' kgs' them_lt kings_lt i l ∙ ap₂ (λ (x y : Bool). x && not y) (has_them i l) (has_kings i l))
        (has_without taken kings m.taken_fit m.kings_fit i l)
        (holds (λ u t g x a b k p. parts (t && not g) ((t && not x) && not (kings' g x a b k p)) (x && not g)) refl i l);
  }

  pub foe_kings_lem : Parts (bit_and them kings) (bit_and them' kgs') (bit_and taken kings)
  unfolding tested test parts
  foe_kings_lem = record {
    part = λ i l.
        parts_of_lem (has_and them kings i) (has_and them' kgs' i ∙ ap₂ ◌&&◌ (has_them i l) (has_kings i l)) (has_and taken kings i)
        (holds (λ u t g x a b k p. parts (t && g) ((t && not x) && kings' g x a b k p) (x && g)) refl i l);
  }

  -- ---- what is kept
  pub apart_now : (i : ℕ) → i < 64 → not (has us' i && has them' i) ≡ true
  unfolding tested test
  apart_now i l = ap₂ (λ (x y : Bool). not (x && y)) (has_own i l) (has_them i l)
      ∙ holds (λ u t g x a b k p. not (own' u a b && (t && not x))) refl i l

  pub marked_now : (i : ℕ) → i < 64 → imp (has kgs' i) (has us' i || has them' i) ≡ true
  unfolding tested test
  marked_now i l = ap₂ imp (has_kings i l) (ap₂ ◌||◌ (has_own i l) (has_them i l))
      ∙ holds (λ u t g x a b k p. imp (kings' g x a b k p) (own' u a b || (t && not x))) refl i l

  men_of_lem : (i : ℕ) → i < 64 → imp (has us' i && not (has kgs' i)) ((has us i && not (has kings i)) || (eqb i t && not (has promo t))) ≡ true
  unfolding tested test
  men_of_lem i l =
      ap₂ (λ (x y : Bool). imp (x && not y) ((has us i && not (has kings i)) || (eqb i t && not (has promo t)))) (has_own i l) (has_kings i l)
      ∙ holds (λ u t g x a b k p. imp (own' u a b && not (kings' g x a b k p)) ((u && not g) || (b && not p))) refl i l

  -- no man of the side on the promotion row
  stays_off : (i : ℕ) (x y : Bool) → (x ≡ true → not (has promo i) ≡ true) → eqb i t ≡ y → (x || (y && not (has promo t))) ≡ true → not (has promo i) ≡ true
  stays_off i true y n e q = n refl
  stays_off i false true n e q = ap (λ (j : ℕ). not (has promo j)) (eqb-true i t e) ∙ q
  stays_off i false false n e q = absurd (false≢true q)

  pub row_now : ((i : ℕ) → i < 64 → imp (has us i && not (has kings i)) (not (has promo i)) ≡ true)
      → (i : ℕ) → i < 64 → imp (has us' i && not (has kgs' i)) (not (has promo i)) ≡ true
  row_now h i l = imp_intro _ _ (λ e. stays_off i (has us i && not (has kings i)) (eqb i t) (imp_elim _ _ (h i l)) refl (imp_elim _ _ (men_of_lem i l) e))

  -- nor one of the other side on its own
  foe_men_of : (i : ℕ) → i < 64 → imp (has them' i && not (has kgs' i)) (has them i && not (has kings i)) ≡ true
  unfolding tested test
  foe_men_of i l =
      ap₂ (λ (x y : Bool). imp (x && not y) (has them i && not (has kings i))) (has_them i l) (has_kings i l)
      ∙ holds (λ u t g x a b k p. imp ((t && not x) && not (kings' g x a b k p)) (t && not g)) refl i l

  pub foe_row_now : (row : ℕ) → ((i : ℕ) → i < 64 → imp (has them i && not (has kings i)) (not (has row i)) ≡ true)
      → (i : ℕ) → i < 64 → imp (has them' i && not (has kgs' i)) (not (has row i)) ≡ true
  foe_row_now row h i l = imp_intro _ _ (λ e. imp_elim _ _ (h i l) (imp_elim _ _ (foe_men_of i l) e))
