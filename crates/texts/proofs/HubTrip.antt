-- Reading a Hub text gives the board: each letter puts its square's piece, and the 50 squares are the whole board.
use Rattle.std.specs.Prelude.{Ok, None}
use Prim.Native.Nat.{ℕ, zero, suc, ◌+◌, ◌^◌, ◌<◌, ◌≤◌}
use mathlib.Core.Path.{◌≡◌, refl, sym, ap, ap₂, ◌∙◌}
use mathlib.Core.List.{List, ◌∷◌, map}
use mathlib.Core.Bool.{Bool, true, false, cond, ◌&&◌, ◌||◌, not}
use native.Mathlib.Omega.{arith}
use lib.Dec.{ltb, leb}
use lib.Bits.{bit_or}
use lib.ListN.{length}
use Rattle.squares.specs.Sets.{has}
use Rattle.squares.specs.Squares.{is_square, bit_of, on_board, single, contains_of}
use Rattle.squares.specs.Pieces.{color_char, color_from_char_of, piece_from_char_of}
use Rattle.squares.specs.Computed as squares
use Rattle.squares.specs.declared.piece.Color.{Color}
use Rattle.squares.specs.declared.piece.Color.TheVariants.{White, Black}
use Rattle.squares.proofs.Bools.{iff, iff_eq, and_both}
use Rattle.squares.proofs.Below.{below, below_at}
use Rattle.squares.proofs.Pointwise.{ext, has_zero}
use Rattle.squares.proofs.Numbers.{range_square, single_is}
use Rattle.positions.specs.Boards.{Board, piece_at_of}
use Rattle.positions.specs.Acceptance.{Accepted}
use Rattle.texts.specs.Bytes.{ascii}
use Rattle.texts.specs.Parts.{added, with_squares, begun}
use Rattle.texts.specs.Hub.{squares_from, standing_char, hub_char, hub_text, hub_byte_of, hub_from, hub_parts}
use Rattle.texts.specs.declared.parts.Parts.{Parts}
use Rattle.texts.proofs.ListLaws.{each}
use Rattle.texts.proofs.Marks.{elem, marks, has_marks, marks_lt}
use Rattle.texts.proofs.FenTrip.{parts_of, parts_are}

pub hub_length : (b : Board) → length (hub_text b) ≡ 51
unfolding hub_text squares_from
hub_length b = refl

-- whose piece is on bit i, by the letter
is_white : Board → ℕ → Bool
is_white b i = has b.white i

is_black : Board → ℕ → Bool
is_black b i = not (has b.white i) && has b.black i

is_marked : Board → ℕ → Bool
is_marked b i = (has b.white i || has b.black i) && has b.kings i

-- p with b's pieces on the bits of l
hubbed : Board → List ℕ → Parts → Parts
hubbed b l p = record { white = marks (is_white b) p.white l; black = marks (is_black b) p.black l; kings = marks (is_marked b) p.kings l; side = p.side }

stepped : Bool → Bool → Bool → ℕ → Parts → Parts
stepped w x k s p =
    record { white = cond w (bit_or p.white s) p.white; black = cond (not w && x) (bit_or p.black s) p.black; kings = cond ((w || x) && k) (bit_or p.kings s) p.kings; side = p.side }

-- the letter of a piece by its colour and kind
letter : Bool → Bool → Bool → ℕ
letter w x k = cond w (cond k 87 119) (cond x (cond k 66 98) 101)

letter_is : (b : Board) (n : ℕ) → is_square n ≡ true → hub_char b n ≡ letter (has b.white (bit_of n)) (has b.black (bit_of n)) (has b.kings (bit_of n))
unfolding hub_char piece_at_of contains_of letter
letter_is b n h = rw h (go (has b.white (bit_of n)) (has b.black (bit_of n)) (has b.kings (bit_of n)))
  where
    go : (w x k : Bool) → standing_char (cond w (Rattle.positions.specs.Boards.standing_of White k) (cond x (Rattle.positions.specs.Boards.standing_of Black k) (Ok None)))
        ≡ cond w (cond k 87 119) (cond x (cond k 66 98) 101)
    go true x true = refl
    go true x false = refl
    go false true true = refl
    go false true false = refl
    go false false k = refl

by_letter : (w x k : Bool) (n : ℕ) (p : Parts) → hub_byte_of n (letter w x k) p ≡ Ok (stepped w x k (single n) p)
unfolding hub_byte_of piece_from_char_of with_squares added stepped letter
by_letter true x true n p = refl
by_letter true x false n p = refl
by_letter false true true n p = refl
by_letter false true false n p = refl
by_letter false false k n p = refl

one_letter : (b : Board) (n : ℕ) (p : Parts) → is_square n ≡ true
    → hub_byte_of n (hub_char b n) p ≡ Ok (stepped (has b.white (bit_of n)) (has b.black (bit_of n)) (has b.kings (bit_of n)) (2 ^ bit_of n) p)
one_letter b n p h =
    ap (λ (x : ℕ). hub_byte_of n x p) (letter_is b n h) ∙ by_letter (has b.white (bit_of n)) (has b.black (bit_of n)) (has b.kings (bit_of n)) n p
    ∙ ap (λ (s : ℕ). Ok (stepped (has b.white (bit_of n)) (has b.black (bit_of n)) (has b.kings (bit_of n)) s p)) (single_is n h)

-- every letter is ASCII
letter_low : (w x k : Bool) → leb (letter w x k) 127 ≡ true
unfolding letter
letter_low true x true = refl
letter_low true x false = refl
letter_low false true true = refl
letter_low false true false = refl
letter_low false false k = refl

chars_ascii : (b : Board) (k n : ℕ) → 1 ≤ n → n + k ≤ 51 → ascii (map (hub_char b) (squares_from k n)) ≡ true
unfolding ascii squares_from
chars_ascii b zero n l h = refl
chars_ascii b (suc k) n l h =
    and_both (leb (hub_char b n) 127) _
    (ap (λ (x : ℕ). leb x 127) (letter_is b n (range_square n l (omega arith))) ∙ letter_low (has b.white (bit_of n)) (has b.black (bit_of n)) (has b.kings (bit_of n)))
    (chars_ascii b k (n + 1) (omega arith) (omega arith))

side_low : (c : Color) → leb (color_char c) 127 ≡ true
side_low White = refl
side_low Black = refl

pub hub_ascii : (b : Board) → ascii (hub_text b) ≡ true
unfolding ascii hub_text
hub_ascii b = and_both (leb (color_char b.side) 127) _ (side_low b.side) (chars_ascii b 50 1 (omega arith) (omega arith))

hub_from_lem : (k n : ℕ) (b : Board) (p : Parts) → 1 ≤ n → n + k ≤ 51 → hub_from k n p (map (hub_char b) (squares_from k n)) ≡ Ok (hubbed b (map bit_of (squares_from k n)) p)
unfolding hub_from squares_from hubbed marks stepped is_white is_black is_marked
hub_from_lem zero n b p l h = refl
hub_from_lem (suc k) n b p l h = rw (one_letter b n p (range_square n l (omega arith))) (hub_from_lem k (n + 1) b _ (omega arith) (omega arith))

-- the bits of the 50 squares
square_bits : List ℕ
square_bits = map bit_of (squares_from 50 1)

all_tested : below 64 (λ (i : ℕ). iff (elem i square_bits) (on_board i)) ≡ true
unfolding squares.computed below iff elem square_bits squares_from
all_tested = refl

bits_lt : each (λ (i : ℕ). ltb i 64) square_bits ≡ true
unfolding squares.computed each square_bits squares_from
bits_lt = refl

-- the 50 squares, those that q takes
mark_squares : (q : ℕ → Bool) (s : ℕ) → s < 2 ^ 64 → ((i : ℕ) → has s i ≡ true → on_board i ≡ true) → ((i : ℕ) → q i ≡ has s i) → marks q 0 square_bits ≡ s
mark_squares q s h on e =
    ext 64 _ s (marks_lt q 0 square_bits (omega arith) bits_lt) h
    (λ i l. has_marks q 0 square_bits i
    ∙ ap₂ (λ (x y : Bool). x || (y && q i)) (has_zero i) (iff_eq _ _ (below_at 64 (λ (i : ℕ). iff (elem i square_bits) (on_board i)) all_tested i l))
    ∙ ap (λ (x : Bool). on_board i && x) (e i) ∙ go (on_board i) (has s i) (on i))
  where
    go : (x y : Bool) → (y ≡ true → x ≡ true) → (x && y) ≡ y
    go true y f = refl
    go false true f = f refl
    go false false f = refl

module _ (b : Board) (a : Accepted b) where
  black_is : (i : ℕ) → is_black b i ≡ has b.black i
  unfolding is_black
  black_is i = go (has b.white i) (has b.black i) (a.apart i)
    where
      go : (x y : Bool) → (x ≡ true → y ≡ false) → (not x && y) ≡ y
      go true y h = sym (h refl)
      go false y h = refl

  kings_is : (i : ℕ) → is_marked b i ≡ has b.kings i
  unfolding is_marked
  kings_is i = go (has b.white i || has b.black i) (has b.kings i) (a.marked i)
    where
      go : (x y : Bool) → (y ≡ true → x ≡ true) → (x && y) ≡ y
      go true y f = refl
      go false true f = f refl
      go false false f = refl

  pub kings_on : (i : ℕ) → has b.kings i ≡ true → on_board i ≡ true
  kings_on i e = go (has b.white i) (has b.black i) refl refl (a.marked i e)
    where
      go : (x y : Bool) → has b.white i ≡ x → has b.black i ≡ y → (x || y) ≡ true → on_board i ≡ true
      go true y p q r = a.white_on i p
      go false y p q r = a.black_on i (q ∙ r)

  squares_back : hubbed b square_bits (begun b.side) ≡ parts_of b
  unfolding hubbed begun is_white
  squares_back =
      parts_are (mark_squares (is_white b) b.white (omega (arith, a.white_fits)) a.white_on (λ i. refl))
      (mark_squares (is_black b) b.black (omega (arith, a.black_fits)) a.black_on black_is)
      (mark_squares (is_marked b) b.kings (omega (arith, a.kings_fits)) kings_on kings_is)

  hub_side : (c : Color) (s : List ℕ) → hub_parts (color_char c ∷ s) ≡ hub_from 50 1 (begun c) s
  unfolding hub_parts color_from_char_of
  hub_side White s = refl
  hub_side Black s = refl

  -- reading what was written
  pub hub_back : hub_parts (hub_text b) ≡ Ok (parts_of b)
  unfolding hub_text square_bits
  hub_back = hub_side b.side _ ∙ hub_from_lem 50 1 b (begun b.side) (omega arith) (omega arith) ∙ ap Ok squares_back
