-- The exclusive or of the keys of one colour after a move: the mover off its first square and onto its last; the pieces taken.
use mathlib.Core.Path.{◌≡◌, refl, sym, ap, ap₂, ◌∙◌}
use Prim.Native.Nat.{ℕ}
use mathlib.Core.Bool.{Bool, true, false, not, cond}
use lib.Bits.{bit_and, bit_xor, xor_comm, xor_zero_l, xor_zero_r, xor_self}
use Rattle.squares.specs.Sets.{has, without}
use Rattle.squares.specs.Folds.{xor_over}
use Rattle.squares.proofs.Folds.{xor_assoc, xor_parts, xor_bit_if}
use Rattle.positions.proofs.Turns as turns
use Rattle.positions.proofs.Turns.{own_now, king_now, kings_now, Turn}

-- the keys of one colour's men and kings
unfoldable pub coloured : (ℕ → ℕ) → (ℕ → ℕ) → ℕ → ℕ → ℕ
coloured man king pieces kings = bit_xor (xor_over man (without pieces kings)) (xor_over king (bit_and pieces kings))

pub swap : (a b c d : ℕ) → bit_xor (bit_xor a b) (bit_xor c d) ≡ bit_xor (bit_xor a c) (bit_xor b d)
swap a b c d =
    xor_assoc a b (bit_xor c d) ∙ ap (bit_xor a) (sym (xor_assoc b c d) ∙ ap (λ (x : ℕ). bit_xor x d) (xor_comm b c) ∙ xor_assoc c b d) ∙ sym (xor_assoc a c (bit_xor b d))

-- what is put in once more goes out
pub off : (s f : ℕ) → bit_xor (bit_xor s f) f ≡ s
off s f = xor_assoc s f f ∙ ap (bit_xor s) (xor_self f) ∙ xor_zero_r s

kind : (k : Bool) (x y : ℕ) → bit_xor (cond (not k) x 0) (cond k y 0) ≡ cond k y x
kind true x y = xor_zero_l y
kind false x y = xor_zero_r x

-- a sum of two, each in two parts
sorted : (p q a b c d r s : ℕ) → p ≡ bit_xor a b → q ≡ bit_xor c d → bit_xor a c ≡ r → bit_xor b d ≡ s → bit_xor p q ≡ bit_xor r s
sorted p q a b c d r s e g h k = ap₂ bit_xor e g ∙ swap a b c d ∙ ap₂ bit_xor h k

module _ (us them kings f t taken promo : ℕ) (m : Turn us them kings f t taken) (man king : ℕ → ℕ) where
  abbrev kgs' : ℕ
  kgs' = kings_now kings promo f t taken

  abbrev crown : Bool
  crown = king_now kings promo f t

  abbrev lifted : ℕ
  lifted = cond (has kings f) (king f) (man f)

  abbrev landed : ℕ
  landed = cond crown (king t) (man t)

  abbrev men : ℕ
  men = xor_over man (turns.men_rest us them kings f t taken promo m)

  abbrev kgs : ℕ
  kgs = xor_over king (turns.kings_rest us them kings f t taken promo m)

  abbrev rest : ℕ
  rest = bit_xor men kgs

  before : coloured man king us kings ≡ bit_xor rest lifted
  unfolding coloured
  before = sorted _ _ men (cond (not (has kings f)) (man f) 0) kgs (cond (has kings f) (king f) 0) _ _
      (xor_parts man (turns.men_before us them kings f t taken promo m) ∙ ap (bit_xor men) (xor_bit_if man (not (has kings f)) f m.from_fit))
      (xor_parts king (turns.kings_before us them kings f t taken promo m) ∙ ap (bit_xor kgs) (xor_bit_if king (has kings f) f m.from_fit))
      refl (kind (has kings f) (man f) (king f))

  now : coloured man king (own_now us f t) kgs' ≡ bit_xor rest landed
  unfolding coloured
  now = sorted _ _ men (cond (not crown) (man t) 0) kgs (cond crown (king t) 0) _ _
      (xor_parts man (turns.men_now_lem us them kings f t taken promo m) ∙ ap (bit_xor men) (xor_bit_if man (not crown) t m.to_fit))
      (xor_parts king (turns.kings_now_lem us them kings f t taken promo m) ∙ ap (bit_xor kgs) (xor_bit_if king crown t m.to_fit))
      refl (kind crown (man t) (king t))

  -- the side that moved: off the first square, on the last
  pub own_hash : coloured man king (own_now us f t) kgs' ≡ bit_xor (bit_xor (coloured man king us kings) lifted) landed
  own_hash = now ∙ ap (λ (x : ℕ). bit_xor x landed) (sym (ap (λ (x : ℕ). bit_xor x lifted) before ∙ off rest lifted))

  foe : coloured man king them kings ≡ bit_xor (coloured man king (without them taken) kgs') (coloured man king taken kings)
  unfolding coloured
  foe = sorted (xor_over man (without them kings)) (xor_over king (bit_and them kings))
      (xor_over man (without (without them taken) kgs')) (xor_over man (without taken kings)) (xor_over king (bit_and (without them taken) kgs')) (xor_over king (bit_and taken kings)) _ _
      (xor_parts man (turns.foe_men_lem us them kings f t taken promo m)) (xor_parts king (turns.foe_kings_lem us them kings f t taken promo m)) refl refl

  -- the other side: the taken pieces' keys
  pub foe_hash : coloured man king (without them taken) kgs' ≡ bit_xor (coloured man king them kings) (coloured man king taken kings)
  foe_hash = sym (ap (λ (x : ℕ). bit_xor x (coloured man king taken kings)) foe ∙ off (coloured man king (without them taken) kgs') (coloured man king taken kings))
