-- A text that grows in a space: numbers, items, and the loops over squares.
use Prim.Native.Nat.{ℕ, suc, ◌+◌, ◌-◌, ◌*◌, ◌≤◌, ◌<◌, ◌^◌, ◌/◌, ◌%◌}
use mathlib.Core.Path.{◌≡◌, refl, ap, sym, ◌∙◌}
use mathlib.Core.List.{List, [], ◌∷◌, ◌++◌, map, append-nil}
use mathlib.Core.Bool.{Bool, true, false, cond}
use native.Mathlib.Omega.{arith}
use lib.ListN.{length, length-append, get_or, set}
use Rattle.std.specs.List.{range_with_len}
use Rattle.std.proofs.lemmas.List.FromFn.{fill_by_all}
use lib.Bits.{bit_and}
use lib.Dec.{ltb}
use Rattle.squares.specs.Sets.{members, lowest}
use Rattle.squares.specs.Squares.{square_at_bit, on_board}
use Rattle.squares.specs.Pieces.{color_char}
use Rattle.squares.proofs.Members.{members_cons, members_none}
use Rattle.squares.proofs.Numbers.{on_lt}
use Rattle.positions.specs.Boards.{Board}
use Rattle.texts.specs.Bytes.{joined, digits}
use Rattle.texts.specs.Fen.{item_text, list_text, field_text, fen_text}
use Rattle.texts.specs.Hub.{squares_from, hub_char, hub_text}
use Rattle.texts.specs.Lent.{over}
use Rattle.texts.specs.declared.space.Space.{Space}
use Rattle.texts.proofs.Overs.{over_append, over_none, over_moved}

-- ---- numbers and items
pub digits_short : (n : ℕ) → length (digits n) ≤ 2
unfolding digits
digits_short n = go (ltb n 10)
  where
    go : (t : Bool) → length (cond t ((48 + n) ∷ []) ((48 + n / 10) ∷ (48 + n % 10) ∷ [])) ≤ 2
    go true = omega arith
    go false = omega arith

-- each number has at most two digits, and a separator after it but for the last
pub joined_short : (c n : ℕ) (l : List ℕ) → suc (length (joined c (map digits (n ∷ l)))) ≤ 3 * length (n ∷ l)
unfolding joined
joined_short c n [] = omega (arith, digits_short n)
joined_short c n (k ∷ l) =
    omega (arith, digits_short n, joined_short c k l, length-append (digits n) (c ∷ joined c (map digits (k ∷ l))))

pub square_lt : (i : ℕ) → square_at_bit i < 100
unfolding square_at_bit
square_lt i = go (on_board i) refl
  where
    go : (t : Bool) → on_board i ≡ t → cond t (i - i / 11 + 1) 0 < 100
    go true e = omega (arith, on_lt i e)
    go false e = omega arith

-- ---- the loop over a set's squares: the items of l, a comma before each
unfoldable pub later : ℕ → List ℕ → List ℕ
later kings [] = []
later kings (i ∷ l) = (44 ∷ []) ++ (item_text kings (square_at_bit i) ++ later kings l)

joined_later : (kings : ℕ) (f : List ℕ) (l : List ℕ) → joined 44 (f ∷ map (item_text kings) (map square_at_bit l)) ≡ f ++ later kings l
unfolding later joined
joined_later kings f [] = sym (append-nil f)
joined_later kings f (i ∷ l) = ap (λ (x : List ℕ). f ++ 44 ∷ x) (joined_later kings (item_text kings (square_at_bit i)) l)

pub list_none : (kings s : ℕ) (a : Space) → s ≡ 0 → a ≡ over (list_text kings s) a
unfolding list_text joined
list_none kings s a e =
    sym (over_none a) ∙ ap (λ (l : List ℕ). over (joined 44 (map (item_text kings) (map square_at_bit l))) a) (sym (ap members e ∙ members_none))

-- n is the lowest square; w is the space after the whole list
module _ (kings s n : ℕ) (a b : Space) (p : 0 < s) (l : s < 2 ^ 64) (q : n ≡ square_at_bit (lowest s)) where
  pub list_first : b ≡ over (item_text kings n) a → over (later kings (members (bit_and s (s - 1)))) b ≡ over (list_text kings s) a
  unfolding list_text
  list_first y =
      let left = later kings (members (bit_and s (s - 1))) in
      ap (over left) y ∙ sym (over_append (item_text kings n) left a)
      ∙ ap (λ (t : List ℕ). over t a) (ap (λ (x : ℕ). item_text kings x ++ left) q ∙ sym (joined_later kings _ _) ∙ ap (λ (x : List ℕ). joined 44 (map (item_text kings) (map square_at_bit x))) (sym (members_cons s p l)))

  pub list_turn : (w c : Space) → over (later kings (members s)) a ≡ w → c ≡ over (44 ∷ []) a → b ≡ over (item_text kings n) c → over (later kings (members (bit_and s (s - 1)))) b ≡ w
  unfolding later
  list_turn w c g x y =
      let left = later kings (members (bit_and s (s - 1))) in
      over_moved (item_text kings n) left w c b (over_moved (44 ∷ []) (item_text kings n ++ left) w a c
      (ap (λ (t : ℕ). over ((44 ∷ []) ++ (item_text kings t ++ left)) a) q ∙ ap (λ (t : List ℕ). over (later kings t) a) (sym (members_cons s p l)) ∙ g) x) y

pub list_done : (kings s : ℕ) (w a : Space) → s ≡ 0 → over (later kings (members s)) a ≡ w → a ≡ w
unfolding later
list_done kings s w a e g =
    sym (over_none a) ∙ ap (λ (t : List ℕ). over (later kings t) a) (sym (ap members e ∙ members_none)) ∙ g

-- ---- the whole text
pub fen_parts_lem : (b : Board) (x : ℕ) → x ≡ color_char b.side → (x ∷ []) ++ (field_text 87 b.kings b.white ++ field_text 66 b.kings b.black) ≡ fen_text b
unfolding fen_text joined field_text
fen_parts_lem b x e = rw e

pub fen_over : (b : Board) (s : Space) → over (fen_text b) s ≡ over (field_text 66 b.kings b.black) (over (field_text 87 b.kings b.white) (over (color_char b.side ∷ []) s))
fen_over b s =
    let white = field_text 87 b.kings b.white in
    let black = field_text 66 b.kings b.black in
    ap (λ (t : List ℕ). over t s) (sym (fen_parts_lem b (color_char b.side) refl))
    ∙ over_append (color_char b.side ∷ []) (white ++ black) s
    ∙ over_append white black (over (color_char b.side ∷ []) s)

-- ---- Hub, square by square
-- what remains from square n on
abbrev pub squares_left : Board → ℕ → List ℕ
squares_left b n = map (hub_char b) (squares_from (51 - n) n)

-- the side's letter, then those of the squares
pub hub_parts_lem : (b : Board) (x : ℕ) → x ≡ color_char b.side → (x ∷ []) ++ squares_left b 1 ≡ hub_text b
unfolding hub_text
hub_parts_lem b x q = ap (λ (y : ℕ). y ∷ squares_left b 1) q

-- each byte is the letter of its number, and the side's letter takes the place of the first
pub hub_written : (b : Board) (t : List ℕ) (x : ℕ) → length t ≡ 51 → ((k : ℕ) → k < 51 → get_or t k 0 ≡ hub_char b k) → x ≡ color_char b.side → set t 0 x ≡ hub_text b
unfolding hub_text squares_from
hub_written b t x l h q =
    let e : t ≡ map (hub_char b) (range_with_len 0 51) = fill_by_all (hub_char b) t 51 0 l h in
    ap (λ (t : List ℕ). set t 0 x) e ∙ ap (λ (y : ℕ). y ∷ map (hub_char b) (range_with_len 1 50)) q
