-- Reading a move's text says the move: the squares come apart at the separator, and the taken squares give the set.
use Rattle.std.specs.Prelude.{Ok}
use Prim.Native.Nat.{ℕ, suc, ◌+◌, ◌^◌, ◌<◌, ◌≤◌}
use mathlib.Core.Path.{◌≡◌, refl, sym, ap, ap₂, ◌∙◌}
use mathlib.Core.List.{List, [], ◌∷◌, map}
use mathlib.Core.Bool.{Bool, true, false, cond, not, true≢false, false≢true}
use native.Mathlib.Omega.{arith}
use native.Mathlib.Nat.{add-zero}
use lib.Bits.{bit_or}
use lib.Dec.{eqb}
use lib.ListN.{length}
use borrow.Author.Tests.{eqb-true, eqb-false, eq-eqb, ne_eqb, le-leb}
use Rattle.squares.specs.Sets.{members}
use Rattle.squares.specs.Squares.{is_square, square_at_bit, on_board}
use Rattle.squares.proofs.Bools.{and_left, and_right, and_both}
use Rattle.squares.proofs.Members.{members_cons, members_none}
use Rattle.squares.proofs.Numbers.{bit_square, bit_back, single_is}
use Rattle.positions.specs.Moves.{is_capture, squares_of}
use Rattle.positions.specs.declared.moves.Move.{Move}
use Rattle.positions.proofs.Records.{OnBoard, on_board_lem}
use Rattle.texts.specs.Bytes.{longest_text, readable, blank, is, holds, split_on, joined, digits}
use Rattle.texts.proofs.ListLaws.{each, each_map, each_imp, lacks, lacks_joined, lacks_or, holds_lacks, holds_in, trim_lacks, split_joined}
use Rattle.texts.proofs.Clean.{high, Reader, blanks, dash, cross, above, lacks_of, digits_law, numbers_lack, ascii_lacks}
use Rattle.texts.proofs.Marks.{marks, always, put_members, each_members}
use Rattle.notation.specs.MoveText.{separator_of, named, move_text}
use Rattle.notation.specs.Notation.{at_cut, unsaid, heard_square, heard_squares, well_formed, heard_trimmed, read_move_of}
use Rattle.notation.specs.declared.notation.Said.{Said}
use Rattle.notation.proofs.Chosen.{Says}
use Rattle.notation.proofs.MoveTexts.{move_short}

-- ---- the parts of the text
parts_uncut : (l : List ℕ) → each is_square l ≡ true → each (lacks at_cut) (map digits l) ≡ true
unfolding at_cut
parts_uncut l h =
    each_map digits (lacks at_cut) l
    (each_imp is_square (λ (n : ℕ). lacks at_cut (digits n))
    (λ n e. let d = (digits_law n e).clean in lacks_or (is 45) (is 120) (digits n) (lacks_of dash (digits n) d) (lacks_of cross (digits n) d)) l h)

-- ---- the squares read
said_all : Said → List ℕ → Said
said_all h [] = h
said_all h (n ∷ l) = said_all (heard_square h n) l

squares_law : (h : Said) (l : List ℕ) → each is_square l ≡ true → heard_squares h (map digits l) ≡ Ok (said_all h l)
unfolding heard_squares said_all each
squares_law h [] e = refl
squares_law h (n ∷ l) e = rw (digits_law n (and_left (is_square n) _ e)).read (squares_law (heard_square h n) l (and_right (is_square n) _ e))

-- the last of d and l
unfoldable pub last_of : ℕ → List ℕ → ℕ
last_of d [] = d
last_of d (n ∷ l) = last_of n l

abbrev said : Bool → ℕ → ℕ → ℕ → ℕ → ℕ → Said
said capture first second last count rest =
    record { capture = capture; first = first; second = second; last = last; count = count; rest = rest }

two_squares : (x : Bool) (a b : ℕ) → heard_square (heard_square (unsaid x) a) b ≡ said x a b b 2 0
unfolding heard_square unsaid
two_squares x a b = refl

-- a square from the third on
one_later : (x : Bool) (a b d n s : ℕ) (i : ℕ) → 2 ≤ n → on_board i ≡ true
    → heard_square (said x a b d n s) (square_at_bit i) ≡ said x a b (square_at_bit i) (n + 1) (bit_or s (2 ^ i))
unfolding heard_square
one_later x a b d n s i h e =
    rw (ne_eqb n 0 (λ q. omega arith), ne_eqb n 1 (λ q. omega arith))
    (ap (λ (k : ℕ). said x a b (square_at_bit i) (n + 1) (bit_or s k)) (single_is (square_at_bit i) (bit_square i e) ∙ ap (λ (k : ℕ). 2 ^ k) (bit_back i e)))

later : (x : Bool) (a b d n s : ℕ) (l : List ℕ) → 2 ≤ n → each on_board l ≡ true
    → said_all (said x a b d n s) (map square_at_bit l) ≡ said x a b (last_of d (map square_at_bit l)) (n + length l) (marks always s l)
unfolding said_all last_of marks each always
later x a b d n s [] h e = ap (λ (k : ℕ). said x a b d k s) (sym (add-zero n))
later x a b d n s (i ∷ l) h e =
    ap (λ (q : Said). said_all q (map square_at_bit l)) (one_later x a b d n s i h (and_left (on_board i) _ e))
    ∙ later x a b (square_at_bit i) (n + 1) (bit_or s (2 ^ i)) l (omega arith) (and_right (on_board i) _ e)
    ∙ ap (λ (k : ℕ). said x a b (last_of (square_at_bit i) (map square_at_bit l)) k (marks always (bit_or s (2 ^ i)) l)) (count n (length l))
  where
    count : (n k : ℕ) → n + 1 + k ≡ n + suc k
    count n k = omega arith

-- ---- the whole

-- what a move's text says
unfoldable pub said_of : Move → Said
said_of m =
    said (is_capture m) m.from m.to (last_of m.to (map square_at_bit (members m.captured))) (2 + length (members m.captured)) m.captured

taken_none : (m : Move) → is_capture m ≡ false → members m.captured ≡ []
unfolding is_capture
taken_none m e = go (eqb m.captured 0) refl e
  where
    go : (t : Bool) → eqb m.captured 0 ≡ t → not t ≡ false → members m.captured ≡ []
    go true q f = ap members (eqb-true m.captured 0 q) ∙ members_none
    go false q f = absurd (true≢false f)

taken_some : (m : Move) → m.captured < 2 ^ 64 → is_capture m ≡ true → 0 < length (members m.captured)
unfolding is_capture
taken_some m h e = go (eqb m.captured 0) refl e
  where
    go : (t : Bool) → eqb m.captured 0 ≡ t → not t ≡ true → 0 < length (members m.captured)
    go true q f = absurd (false≢true f)
    go false q f = rw (members_cons m.captured (omega (arith, eqb-false m.captured 0 q)) h) (omega arith)

pub says_move : (m : Move) → squares_of m ≡ true → Says (said_of m) m
unfolding said_of last_of
says_move m e =
    record {
      kind = refl;
      first = refl;
      second = refl;
      many = λ q. omega (arith, taken_some m (on_board_lem m e).fits q);
      set = refl;
      last = λ q. ap (λ (l : List ℕ). last_of m.to (map square_at_bit l)) (taken_none m q);
    }

module _ (m : Move) (o : OnBoard m) where
  taken_on : each on_board (members m.captured) ≡ true
  taken_on = each_members on_board m.captured (λ i l e. o.taken i e)

  all_squares : each is_square (named m) ≡ true
  unfolding each named
  all_squares =
      and_both (is_square m.from) _ o.from
      (and_both (is_square m.to) _ o.to
      (each_map square_at_bit is_square (members m.captured) (each_imp on_board (λ (i : ℕ). is_square (square_at_bit i)) bit_square (members m.captured) taken_on)))

  -- the text with the separator c
  text_by : ℕ → List ℕ
  text_by c = joined c (map digits (named m))

  text_lacks : {p : ℕ → Bool} → Reader p → (c : ℕ) → p c ≡ false → lacks p (text_by c) ≡ true
  unfolding text_by
  text_lacks {p} r c e = lacks_joined p c e (map digits (named m)) (numbers_lack r (named m) all_squares)

  split_is : (c : ℕ) → at_cut c ≡ true → split_on at_cut (text_by c) ≡ map digits (named m)
  unfolding text_by named
  split_is c e = split_joined at_cut c e _ _ (parts_uncut (named m) all_squares)

  -- another byte than the separator is not held
  not_held : (d c : ℕ) → Reader (is d) → is d c ≡ false → holds d (text_by c) ≡ false
  not_held d c r e = holds_lacks d (text_by c) ∙ ap not (text_lacks r c e)

  held : (c : ℕ) → holds c (text_by c) ≡ true
  unfolding text_by named joined
  held c = holds_in c (digits m.from) (joined c (map digits (m.to ∷ map square_at_bit (members m.captured))))

  said_is : (x : Bool) → is_capture m ≡ x → heard_squares (unsaid x) (map digits (named m)) ≡ Ok (said_of m)
  unfolding named said_of said_all
  said_is x e =
      squares_law (unsaid x) (named m) all_squares
      ∙ ap (λ (h : Said). Ok (said_all h (map square_at_bit (members m.captured)))) (two_squares x m.from m.to)
      ∙ ap Ok (later x m.from m.to m.to 2 0 (members m.captured) (omega arith) taken_on)
      ∙ ap₂ (λ (t : Bool) (s : ℕ). Ok (said t m.from m.to (last_of m.to (map square_at_bit (members m.captured))) (2 + length (members m.captured)) s)) (sym e) (put_members m.captured o.fits)

  -- a capture has no -, other text exactly two squares
  well_formed_lem : (d x : Bool) → is_capture m ≡ x → (x ≡ true → d ≡ false) → well_formed d (said_of m) ≡ true
  unfolding well_formed said_of
  well_formed_lem d true e f = rw (e, f refl, le-leb 2 (2 + length (members m.captured)) (omega arith))
  well_formed_lem d false e f = rw e (eq-eqb _ 2 (ap (λ (l : List ℕ). 2 + length l) (taken_none m e)))

  -- with the separator of its kind
  by_separator : (c : ℕ) (d x : Bool) → at_cut c ≡ true → holds 45 (text_by c) ≡ d → holds 120 (text_by c) ≡ x → is_capture m ≡ x
      → (x ≡ true → d ≡ false) → heard_trimmed (text_by c) ≡ Ok (said_of m)
  unfolding heard_trimmed
  by_separator c d x ec ed ex e f = rw (ed, ex, split_is c ec, said_is x e, well_formed_lem d x e f)

  trimmed : heard_trimmed (move_text m) ≡ Ok (said_of m)
  unfolding move_text text_by separator_of is at_cut
  trimmed = go (is_capture m) refl
    where
      go : (t : Bool) → is_capture m ≡ t → heard_trimmed (text_by (cond t 120 45)) ≡ Ok (said_of m)
      go true e = by_separator 120 false true refl (not_held 45 120 dash refl) (held 120) e (λ q. refl)
      go false e = by_separator 45 true false refl (held 45) (not_held 120 45 cross refl) e (λ q. absurd (false≢true q))

  -- both separators are ASCII and no blanks
  move_lacks : {p : ℕ → Bool} → Reader p → p 45 ≡ false → p 120 ≡ false → lacks p (move_text m) ≡ true
  unfolding move_text text_by separator_of
  move_lacks {p} r e f = text_lacks r (separator_of m) (go (is_capture m))
    where
      go : (t : Bool) → p (cond t 120 45) ≡ false
      go true = f
      go false = e

pub move_readable : (limit : ℕ) (m : Move) → 155 ≤ limit → squares_of m ≡ true → readable limit (move_text m) ≡ true
unfolding readable high
move_readable limit m h e =
    and_both _ _ (le-leb (length (move_text m)) limit (omega (arith, h, move_short m e))) (ascii_lacks (move_text m) (move_lacks m (on_board_lem m e) above refl refl))

-- reading what was written
pub move_says : (m : Move) → squares_of m ≡ true → read_move_of (move_text m) ≡ Ok (said_of m)
unfolding read_move_of blank
move_says m e =
    let o = on_board_lem m e in
    rw (move_readable longest_text m (omega arith) e) (ap heard_trimmed (trim_lacks blank (move_text m) (move_lacks m o blanks refl refl)) ∙ trimmed m o)
