-- Reading a written board gives the board: side and lists come apart at the colons, items at the commas, and the
-- members of each set, put one by one, give the set.
use Rattle.std.specs.Prelude.{Err, Ok}
use Prim.Native.Nat.{ℕ, ◌+◌, ◌-◌, ◌^◌}
use mathlib.Core.Path.{◌≡◌, refl, sym, ap, ap₂, ◌∙◌}
use mathlib.Core.List.{List, [], ◌∷◌, map}
use mathlib.Core.Bool.{Bool, true, false, cond, ◌&&◌, not}
use native.Mathlib.Omega.{arith}
use native.Mathlib.Nat.{add-zero}
use lib.Bits.{bit_or}
use Rattle.squares.specs.Sets.{has, members}
use Rattle.squares.specs.Squares.{bit_of, on_board, square_at_bit, contains_of, run}
use Rattle.squares.specs.Pieces.{color_char}
use Rattle.squares.specs.declared.piece.Color.{Color}
use Rattle.squares.specs.declared.piece.Color.TheVariants.{White, Black}
use Rattle.squares.specs.declared.piece.PieceKind.TheVariants.{Man, King}
use Rattle.squares.specs.declared.refusal.Refusal.TheVariants.{BadSquare}
use Rattle.squares.proofs.Bools.{and_left, and_right, and_both}
use Rattle.squares.proofs.Numbers.{bit_square, bit_back}
use Rattle.positions.specs.Boards.{Board, kind_if}
use Rattle.positions.specs.Acceptance.{Accepted}
use Rattle.texts.specs.Bytes.{blank, is, trim_start, keep_end, trim_end, trim, split_on, joined, up_to, after_or_all, starts_with, strip, read_square, digits}
use Rattle.texts.specs.Parts.{added, with_squares, begun}
use Rattle.texts.specs.Fen.{item_text, list_text, fen_text, fen_color_of, end_of, range_of, item_of, read_each, items_of, field_of, fields_of, side_of, fen_fields, body, fen_parts}
use Rattle.texts.specs.declared.parts.Parts.{Parts}
use Rattle.texts.proofs.ListLaws.{each, each_map, each_imp, lacks, lacks_cons, lacks_joined, trim_lacks, trim_end_lacks, split_joined}
use Rattle.texts.proofs.Marks.{marks, always, put_members, mark_kings, each_members}
use Rattle.texts.proofs.Clean.{special, Reader, blanks, quote, dot, comma, colon, Digits, digits_law, item_clean, lacks_of}

-- what reading gathers of a board
abbrev pub parts_of : Board → Parts
parts_of b = record { white = b.white; black = b.black; kings = b.kings; side = b.side }

-- ---- one item
no_strip : (c : ℕ) (s : List ℕ) → starts_with c s ≡ false → strip c s ≡ s
unfolding starts_with strip
no_strip c [] h = refl
no_strip c (b ∷ s) h = rw h

item_some : (c : Color) (p : Parts) (s : List ℕ) (n : ℕ) → starts_with 75 s ≡ false → end_of (up_to 45 s) ≡ Ok n → end_of (after_or_all 45 s) ≡ Ok n
    → item_of c p s ≡ Ok (with_squares c Man (run n (n + 1 - n)) p)
unfolding item_of range_of end_of up_to trim trim_start trim_end read_square
item_some c p [] n h e q = let z : Err BadSquare ≡ Ok n = e in let y : ◌≡◌ {A = ℕ} 0 1 = cc in absurd (omega arith)
item_some c p (x ∷ s) n h e q = rw (h, no_strip 75 (x ∷ s) h, e, q)

item_king : (c : Color) (p : Parts) (n : ℕ) → Digits n → item_of c p (75 ∷ digits n) ≡ Ok (with_squares c King (run n (n + 1 - n)) p)
unfolding item_of starts_with strip range_of
item_king c p n d = rw (d.up_to_lem, d.after_it)

item_law : (c : Color) (p : Parts) (kings n : ℕ) → Digits n
    → item_of c p (item_text kings n) ≡ Ok (with_squares c (kind_if (contains_of kings n)) (run n (n + 1 - n)) p)
unfolding item_text
item_law c p kings n d = go (contains_of kings n)
  where
    go : (t : Bool) → item_of c p (cond t (75 ∷ digits n) (digits n)) ≡ Ok (with_squares c (kind_if t) (run n (n + 1 - n)) p)
    go true = item_king c p n d
    go false = item_some c p (digits n) n d.no_king d.up_to_lem d.after_it

-- one square alone
one_square : (n : ℕ) → run n (n + 1 - n) ≡ 2 ^ bit_of n
unfolding run
one_square n = let q : n + 1 - n ≡ 1 = omega arith in rw q (add-zero (2 ^ bit_of n))

contains_at : (s i : ℕ) → on_board i ≡ true → contains_of s (square_at_bit i) ≡ has s i
unfolding contains_of
contains_at s i h = rw (bit_square i h, bit_back i h)

-- ---- a list
-- p with the pieces of l put on
marked : Color → ℕ → List ℕ → Parts → Parts
marked White kings l p = record { white = marks always p.white l; black = p.black; kings = marks (has kings) p.kings l; side = p.side }
marked Black kings l p = record { white = p.white; black = marks always p.black l; kings = marks (has kings) p.kings l; side = p.side }

pub parts_are : {a b c d e f : ℕ} {s : Color} → a ≡ b → c ≡ d → e ≡ f
    → ◌≡◌ {A = Parts} (record { white = a; black = c; kings = e; side = s }) (record { white = b; black = d; kings = f; side = s })
parts_are p q r = cc

added_if : (t : Bool) (s a : ℕ) → added (kind_if t) s a ≡ cond t (bit_or a s) a
unfolding added
added_if true s a = refl
added_if false s a = refl

marked_put : (c : Color) (kings i : ℕ) (l : List ℕ) (p : Parts) → marked c kings l (with_squares c (kind_if (has kings i)) (2 ^ i) p) ≡ marked c kings (i ∷ l) p
unfolding marked marks with_squares always
marked_put White kings i l p = parts_are refl refl (ap (λ (k : ℕ). marks (has kings) k l) (added_if (has kings i) (2 ^ i) p.kings))
marked_put Black kings i l p = parts_are refl refl (ap (λ (k : ℕ). marks (has kings) k l) (added_if (has kings i) (2 ^ i) p.kings))

marked_step : (c : Color) (kings i : ℕ) (l : List ℕ) (p : Parts) → on_board i ≡ true
    → marked c kings l (with_squares c (kind_if (contains_of kings (square_at_bit i))) (run (square_at_bit i) (square_at_bit i + 1 - square_at_bit i)) p) ≡ marked c kings (i ∷ l) p
marked_step c kings i l p h =
    ap₂ (λ (k : Bool) (s : ℕ). marked c kings l (with_squares c (kind_if k) s p)) (contains_at kings i h) (one_square (square_at_bit i) ∙ ap (λ (j : ℕ). 2 ^ j) (bit_back i h))
    ∙ marked_put c kings i l p

marked_none : (c : Color) (kings : ℕ) (p : Parts) → marked c kings [] p ≡ p
unfolding marked marks
marked_none White kings p = refl
marked_none Black kings p = refl

-- the items of these bits
texts : ℕ → List ℕ → List (List ℕ)
texts kings l = map (item_text kings) (map square_at_bit l)

bit_clean : (kings i : ℕ) → on_board i ≡ true → lacks special (item_text kings (square_at_bit i)) ≡ true
bit_clean kings i h = item_clean kings (square_at_bit i) (digits_law (square_at_bit i) (bit_square i h))

items_law : (c : Color) (kings : ℕ) (l : List ℕ) (p : Parts) → each on_board l ≡ true → items_of c p (texts kings l) ≡ Ok (marked c kings l p)
unfolding read_each each texts
items_law c kings [] p h = ap Ok (sym (marked_none c kings p))
items_law c kings (i ∷ l) p h =
    let o = and_left (on_board i) _ h in
    let n = square_at_bit i in
    let e : item_of c p (trim blank (item_text kings n)) ≡ Ok (with_squares c (kind_if (contains_of kings n)) (run n (n + 1 - n)) p)
    = ap (item_of c p) (trim_lacks blank (item_text kings n) (lacks_of blanks _ (bit_clean kings i o))) ∙ item_law c p kings n (digits_law n (bit_square i o)) in
    rw e (items_law c kings l _ (and_right (on_board i) _ h) ∙ ap Ok (marked_step c kings i l p o))

items_lack : {q : ℕ → Bool} → Reader q → (kings : ℕ) (l : List ℕ) → each on_board l ≡ true → each (lacks q) (texts kings l) ≡ true
unfolding texts
items_lack {q} r kings l h =
    each_map (item_text kings) (lacks q) (map square_at_bit l) (each_map square_at_bit (λ (n : ℕ). lacks q (item_text kings n)) l
    (each_imp on_board (λ (i : ℕ). lacks q (item_text kings (square_at_bit i))) (λ i e. lacks_of r (item_text kings (square_at_bit i)) (bit_clean kings i e)) l h))

is_comma : is 44 44 ≡ true
unfolding is
is_comma = refl

list_law : (c : Color) (kings : ℕ) (l : List ℕ) (p : Parts) → each on_board l ≡ true
    → items_of c p (split_on (is 44) (joined 44 (texts kings l))) ≡ Ok (marked c kings l p)
unfolding read_each split_on joined item_of trim trim_start trim_end texts
list_law c kings [] p h = ap Ok (sym (marked_none c kings p))
list_law c kings (i ∷ l) p h =
    ap (items_of c p) (split_joined (is 44) 44 is_comma (item_text kings (square_at_bit i)) (texts kings l) (items_lack comma kings (i ∷ l) h)) ∙ items_law c kings (i ∷ l) p h

-- ---- the whole
-- the three fields
field_texts : Board → List (List ℕ)
field_texts b = (color_char b.side ∷ []) ∷ (87 ∷ list_text b.kings b.white) ∷ (66 ∷ list_text b.kings b.black) ∷ []

module _ (b : Board) (a : Accepted b) where
  list_lacks : {q : ℕ → Bool} → Reader q → q 44 ≡ false → (s : ℕ) → each on_board (members s) ≡ true → lacks q (list_text b.kings s) ≡ true
  unfolding list_text texts
  list_lacks {q} r e s h = lacks_joined q 44 e (texts b.kings (members s)) (items_lack r b.kings (members s) h)

  white_in : each on_board (members b.white) ≡ true
  white_in = each_members on_board b.white (λ i l e. a.white_on i e)

  black_in : each on_board (members b.black) ≡ true
  black_in = each_members on_board b.black (λ i l e. a.black_on i e)

  white_lacks : {q : ℕ → Bool} → Reader q → q 44 ≡ false → q 87 ≡ false → lacks q (87 ∷ list_text b.kings b.white) ≡ true
  white_lacks {q} r e f = lacks_cons q 87 _ f (list_lacks r e b.white white_in)

  black_lacks : {q : ℕ → Bool} → Reader q → q 44 ≡ false → q 66 ≡ false → lacks q (66 ∷ list_text b.kings b.black) ≡ true
  black_lacks {q} r e f = lacks_cons q 66 _ f (list_lacks r e b.black black_in)

  side_lacks : (c : Color) (q : ℕ → Bool) → q 87 ≡ false → q 66 ≡ false → lacks q (color_char c ∷ []) ≡ true
  unfolding lacks
  side_lacks White q e f = ap (λ (x : Bool). not x && true) e
  side_lacks Black q e f = ap (λ (x : Bool). not x && true) f

  fields_lack : {q : ℕ → Bool} → Reader q → q 44 ≡ false → q 87 ≡ false → q 66 ≡ false → each (lacks q) (field_texts b) ≡ true
  unfolding each field_texts
  fields_lack {q} r e f g =
      and_both (lacks q (color_char b.side ∷ [])) _ (side_lacks b.side q f g)
      (and_both (lacks q (87 ∷ list_text b.kings b.white)) _ (white_lacks r e f)
      (and_both (lacks q (66 ∷ list_text b.kings b.black)) _ (black_lacks r e g) refl))

  pub text_lacks : {q : ℕ → Bool} → Reader q → q 44 ≡ false → q 58 ≡ false → q 87 ≡ false → q 66 ≡ false → lacks q (fen_text b) ≡ true
  unfolding fen_text field_texts
  text_lacks {q} r e d f g = lacks_joined q 58 d (field_texts b) (fields_lack r e f g)

  body_is : body (fen_text b) ≡ fen_text b
  unfolding body is blank
  body_is =
      ap (λ (t : List ℕ). trim_end (is 46) (trim (is 34) t)) (trim_lacks blank (fen_text b) (text_lacks blanks refl refl refl refl))
      ∙ ap (trim_end (is 46)) (trim_lacks (is 34) (fen_text b) (text_lacks quote refl refl refl refl))
      ∙ trim_end_lacks (is 46) (fen_text b) (text_lacks dot refl refl refl refl)

  split_is : split_on (is 58) (fen_text b) ≡ field_texts b
  unfolding fen_text field_texts is
  split_is = split_joined (is 58) 58 refl _ _ (fields_lack colon refl refl refl)

  white_trim : trim blank (87 ∷ list_text b.kings b.white) ≡ 87 ∷ list_text b.kings b.white
  unfolding blank
  white_trim = trim_lacks blank _ (white_lacks blanks refl refl)

  black_trim : trim blank (66 ∷ list_text b.kings b.black) ≡ 66 ∷ list_text b.kings b.black
  unfolding blank
  black_trim = trim_lacks blank _ (black_lacks blanks refl refl)

  white_field : (p : Parts) → field_of p (87 ∷ list_text b.kings b.white) ≡ Ok (marked White b.kings (members b.white) p)
  unfolding field_of fen_color_of list_text texts
  white_field p = list_law White b.kings (members b.white) p white_in

  black_field : (p : Parts) → field_of p (66 ∷ list_text b.kings b.black) ≡ Ok (marked Black b.kings (members b.black) p)
  unfolding field_of fen_color_of list_text texts
  black_field p = list_law Black b.kings (members b.black) p black_in

  both_fields : (p : Parts) → fields_of p ((87 ∷ list_text b.kings b.white) ∷ (66 ∷ list_text b.kings b.black) ∷ [])
      ≡ Ok (marked Black b.kings (members b.black) (marked White b.kings (members b.white) p))
  unfolding read_each
  both_fields p = rw (white_trim, white_field p, black_trim, black_field)

  board_back : marked Black b.kings (members b.black) (marked White b.kings (members b.white) (begun b.side)) ≡ parts_of b
  unfolding marked begun
  board_back =
      parts_are (put_members b.white (omega (arith, a.white_fits))) (put_members b.black (omega (arith, a.black_fits)))
      (mark_kings b.kings b.white b.black (omega (arith, a.kings_fits)) a.marked)

  sided_is : (c : Color) (fs : List (List ℕ)) → fen_fields ((color_char c ∷ []) ∷ fs) ≡ fields_of (begun c) fs
  unfolding fen_fields side_of fen_color_of trim trim_start trim_end keep_end blank
  sided_is White fs = refl
  sided_is Black fs = refl

  -- reading what was written
  pub fen_back : fen_parts (fen_text b) ≡ Ok (parts_of b)
  unfolding fen_parts field_texts
  fen_back =
      ap (λ (t : List ℕ). fen_fields (split_on (is 58) t)) body_is ∙ ap fen_fields split_is ∙ sided_is b.side _
      ∙ both_fields (begun b.side) ∙ ap Ok board_back
