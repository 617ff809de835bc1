-- A move's text as the code builds it, and how long it is at most.
use Prim.Native.Nat.{ℕ, ◌-◌, ◌≤◌, ◌<◌, ◌^◌}
use mathlib.Core.Path.{◌≡◌, refl, sym, ap, ◌∙◌}
use mathlib.Core.List.{List, [], ◌∷◌, ◌++◌, map, append_assoc, append-nil}
use mathlib.Core.Bool.{Bool, true, false, cond, not}
use native.Mathlib.Omega.{arith}
use lib.Bits.{bit_and}
use lib.Dec.{eqb}
use lib.ListN.{length, length-map}
use borrow.Author.Tests.{eqb-true}
use Rattle.squares.specs.Sets.{members, lowest}
use Rattle.squares.specs.Squares.{square_at_bit}
use Rattle.squares.proofs.Lengths.{members_length}
use Rattle.squares.proofs.Members.{members_cons, members_none}
use Rattle.squares.proofs.Sizes.{size_squares}
use Rattle.positions.specs.Moves.{is_capture, squares_of}
use Rattle.positions.specs.declared.moves.Move.{Move}
use Rattle.positions.proofs.Records.{OnBoard, on_board_lem}
use Rattle.texts.specs.Bytes.{joined, digits}
use Rattle.texts.specs.Lent.{over}
use Rattle.texts.specs.declared.space.Space.{Space}
use Rattle.texts.proofs.Overs.{over_append, over_none, over_then}
use Rattle.texts.proofs.Writers.{joined_short}
use Rattle.notation.specs.MoveText.{separator_of, named, move_text, short_text, taken_text}

-- ---- the parts of the text
joined_taken : (f : List ℕ) (l : List ℕ) → joined 120 (f ∷ map digits (map square_at_bit l)) ≡ f ++ taken_text l
unfolding joined taken_text
joined_taken f [] = sym (append-nil f)
joined_taken f (i ∷ l) = ap (λ (x : List ℕ). f ++ 120 ∷ x) (joined_taken (digits (square_at_bit i)) l)

taken_none : (s : ℕ) → s ≡ 0 → taken_text (members s) ≡ []
unfolding taken_text
taken_none s e = ap (λ (x : ℕ). taken_text (members x)) e ∙ ap taken_text members_none

-- behind the first square
second_on : (m : Move) (t : Bool) → is_capture m ≡ t
    → joined (cond t 120 45) (digits m.to ∷ map digits (map square_at_bit (members m.captured))) ≡ digits m.to ++ taken_text (members m.captured)
unfolding is_capture joined
second_on m true e = joined_taken (digits m.to) (members m.captured)
second_on m false e =
    let z = none (eqb m.captured 0) refl e in
    ap (λ (x : List ℕ). joined 45 (digits m.to ∷ map digits (map square_at_bit x))) (ap members z ∙ members_none)
    ∙ sym (append-nil (digits m.to)) ∙ ap (λ (x : List ℕ). digits m.to ++ x) (sym (taken_none m.captured z))
  where
    none : (t : Bool) → eqb m.captured 0 ≡ t → not t ≡ false → m.captured ≡ 0
    none true q f = eqb-true m.captured 0 q
    none false q f = absurd (let z : ◌≡◌ {A = ℕ} 0 1 = cc in omega arith)

pub move_parts : (m : Move) → move_text m ≡ short_text m ++ taken_text (members m.captured)
unfolding move_text named short_text separator_of joined
move_parts m =
    ap (λ (x : List ℕ). digits m.from ++ separator_of m ∷ x) (second_on m (is_capture m) refl)
    ∙ sym (append_assoc (digits m.from) (separator_of m ∷ digits m.to) (taken_text (members m.captured)))

pub move_over : (m : Move) (s : Space) → over (move_text m) s ≡ over (taken_text (members m.captured)) (over (short_text m) s)
move_over m s = ap (λ (t : List ℕ). over t s) (move_parts m) ∙ over_append (short_text m) (taken_text (members m.captured)) s

-- ---- the loop over the taken squares
taken_next : (s n : ℕ) → 0 < s → s < 2 ^ 64 → n ≡ square_at_bit (lowest s)
    → taken_text (members s) ≡ ((120 ∷ []) ++ digits n) ++ taken_text (members (bit_and s (s - 1)))
unfolding taken_text
taken_next s n p h e =
    ap taken_text (members_cons s p h)
    ∙ ap (λ (k : ℕ). ((120 ∷ []) ++ digits k) ++ taken_text (members (bit_and s (s - 1)))) (sym e)

-- one turn of the loop: w is the space after all of them
pub taken_turn : (s n : ℕ) (w a b c : Space) → 0 < s → s < 2 ^ 64 → n ≡ square_at_bit (lowest s)
    → over (taken_text (members s)) a ≡ w → b ≡ over (120 ∷ []) a → c ≡ over (digits n) b → over (taken_text (members (bit_and s (s - 1)))) c ≡ w
taken_turn s n w a b c p l q g x y =
    let left = taken_text (members (bit_and s (s - 1))) in
    ap (over left) (over_then _ _ a b c x y)
    ∙ sym (over_append ((120 ∷ []) ++ digits n) left a)
    ∙ ap (λ (t : List ℕ). over t a) (sym (taken_next s n p l q)) ∙ g

pub taken_done : (s : ℕ) (w a : Space) → s ≡ 0 → over (taken_text (members s)) a ≡ w → a ≡ w
taken_done s w a e g = sym (over_none a) ∙ ap (λ (t : List ℕ). over t a) (sym (taken_none s e)) ∙ g

-- ---- lengths
named_short : (m : Move) → OnBoard m → length (map square_at_bit (members m.captured)) ≤ 50
named_short m o = omega (arith, length-map (members m.captured) square_at_bit, members_length m.captured, size_squares m.captured o.fits o.taken)

-- first, last and fifty taken squares
pub move_short : (m : Move) → squares_of m ≡ true → length (move_text m) ≤ 155
unfolding move_text named
move_short m e =
    omega (arith, joined_short (separator_of m) m.from (m.to ∷ map square_at_bit (members m.captured)), named_short m (on_board_lem m e))

pub short_short : (m : Move) → length (short_text m) ≤ 5
unfolding short_text
short_short m = omega (arith, joined_short (separator_of m) m.from (m.to ∷ []))
