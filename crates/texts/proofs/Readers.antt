-- What the reading loops do in one turn: the definition at the whole is the definition at what is left.
use Rattle.std.specs.Prelude.{Err, Ok, Result}
use Prim.Native.Nat.{ℕ, zero, suc, ◌+◌, ◌-◌, ◌≤◌}
use mathlib.Core.Path.{◌≡◌, refl, ap, ap₂, sym, ◌∙◌}
use mathlib.Core.List.{List, [], ◌∷◌, map}
use mathlib.Core.Bool.{Bool, true, false, cond, ◌&&◌, ◌||◌}
use native.Mathlib.Omega.{arith}
use lib.ListN.{length, take, drop, get_or}
use lib.Seq.{take_all}
use Rattle.std.proofs.iter.Yields.{fronts, nat_range_steps}
use Rattle.std.proofs.lemmas.Iterator.{zips, YieldsList, YieldsList-from_zip, YieldsList-from_range, YieldsList-from_slice}
use Rattle.std.specs.Iterator.Adapters.{zip_first, zip_second}
use Rattle.std.specs.Slice.Iter.{iter_rest}
use Rattle.std.specs.declared.iter.Zip.{Zip}
use Rattle.std.specs.declared.ops.Range.{Range}
use Rattle.std.specs.declared.slice.Iter.{Iter}
use lib.Dec.{eqb, leb, eqb-suc-zero, eqb-zero-suc, eqb-suc-suc}
use Rattle.std.specs.List.{zip, range_with_len}
use lib.Bits.{bit_or}
use borrow.Author.Tests.{eqb-true, le-leb}
use Rattle.squares.specs.Squares.{is_square, bit_of, run, single}
use Rattle.squares.specs.declared.refusal.Refusal.{Refusal}
use Rattle.squares.specs.declared.refusal.Refusal.TheVariants.{NoSide, NoColor, NotFifty}
use Rattle.squares.specs.declared.piece.Color.{Color}
use Rattle.squares.specs.declared.piece.Color.TheVariants.{White, Black}
use Rattle.squares.specs.declared.piece.PieceKind.{PieceKind}
use Rattle.positions.specs.Boards.{kind_if}
use Rattle.squares.proofs.Bools.{imp, imp_elim, and_both}
use Rattle.squares.proofs.Below.{below, below_at}
use Rattle.squares.proofs.Numbers.{range_square}
use Rattle.texts.specs.Parts.{and_then, begun, OnSquare}
use Rattle.texts.specs.Bytes.{blank, trim, split_on, starts_with, strip}
use Prim.Native.Char.{code}
use Rattle.texts.specs.Fen.{at_comma, at_colon, body, end_of, fen_color_of, fen_fields, fen_parts, field_of, item_of, items_of, on_color, range_of, read_each, side_of}
use Rattle.texts.specs.Hub.{hub_byte_of, hub_from}
use Rattle.texts.specs.declared.parts.Parts.{Parts}
use Rattle.texts.proofs.TryFolds.{read_all}
use Rattle.texts.proofs.SquareTexts.{read_on_square}

-- ---- a run of squares, one more at its end
next_test : ℕ → ℕ → Bool
next_test lo k = imp (is_square lo && leb (lo + k) 50) (eqb (bit_or (run lo k) (single (lo + k))) (run lo (suc k)))

next_tested : below 51 (λ (lo : ℕ). below 51 (next_test lo)) ≡ true
unfolding below next_test imp is_square bit_of run single
next_tested = refl

pub run_next : (lo k : ℕ) → 1 ≤ lo → lo + k ≤ 50 → bit_or (run lo k) (single (lo + k)) ≡ run lo (suc k)
unfolding next_test
run_next lo k p h =
    eqb-true _ _ (imp_elim (is_square lo && leb (lo + k) 50) _
    (below_at 51 (next_test lo) (below_at 51 (λ (lo : ℕ). below 51 (next_test lo)) next_tested lo (omega arith)) k (omega arith))
    (and_both (is_square lo) _ (range_square lo p (omega arith)) (le-leb (lo + k) 50 h)))

-- ---- FEN
pub end_on_square : (p : Result ℕ Refusal) (s : List ℕ) → p ≡ end_of s → OnSquare p
unfolding end_of
end_on_square p s e = rw e (read_on_square _)

-- the only refusal of the side
color_refused : (b : ℕ) {x : Refusal} → fen_color_of b ≡ Err x → x ≡ NoSide
unfolding fen_color_of
color_refused b {x} e = go (eqb b 87 || eqb b 119) (eqb b 66 || eqb b 98) e
  where
    go : (w k : Bool) → cond w (Ok White) (cond k (Ok Black) (Err NoSide)) ≡ Err x → x ≡ NoSide
    go true k e = cc
    go false true e = cc
    go false false e = cc

pub side_refused : (s : List ℕ) {x : Refusal} → side_of s ≡ Err x → x ≡ NoSide
unfolding side_of
side_refused [] e = cc
side_refused (b ∷ []) e = color_refused b e
side_refused (b ∷ (c ∷ s)) e = cc

-- ---- parts of a text, one after another
pub read_trimmed : (read : Parts → List ℕ → Result Parts Refusal) (p : Parts) (texts : List (List ℕ)) → read_all read p (map (trim blank) texts) ≡ read_each read p texts
unfolding read_all read_each
read_trimmed read p [] = refl
read_trimmed read p (t ∷ texts) = go (read p (trim blank t)) (λ q. read_trimmed read q texts)
  where
    go : (r : Result Parts Refusal) → ((q : Parts) → read_all read q (map (trim blank) texts) ≡ read_each read q texts)
        → and_then r (λ q. read_all read q (map (trim blank) texts)) ≡ and_then r (λ q. read_each read q texts)
    go (Ok q) h = h q
    go (Err e) h = refl

-- a field's items were read, and the fields after the side
pub items_read : (p : Parts) (s : List ℕ) (c : Color) {a : Result Parts Refusal} → 1 ≤ length s → fen_color_of (get_or s 0 0) ≡ Ok c
    → a ≡ read_each (item_of c) p (split_on at_comma (take (length s - 1) (drop 1 s))) → a ≡ field_of p s
unfolding field_of
items_read p [] c l e r = absurd (omega arith)
items_read p (b ∷ s) c l e r = r ∙ ap (λ (t : List ℕ). read_each (item_of c) p (split_on at_comma t)) (take_all (suc (length s) - 1) s (omega arith)) ∙ ap (λ (x : Result Color Refusal). on_color NoColor x (λ c. items_of c p (split_on at_comma s))) (sym e)

module _ (s : List ℕ) {f : List ℕ} {fs : List (List ℕ)} (w : split_on at_colon (body s) ≡ f ∷ fs) where
  pub fields_read : {c : Color} {a : Result Parts Refusal} → side_of (trim blank f) ≡ Ok c → a ≡ read_each field_of (begun c) fs → a ≡ fen_parts s
  unfolding fen_parts fen_fields
  fields_read {c} e r = rw (w, e) r

  pub no_side : {x : Refusal} → side_of (trim blank f) ≡ Err x → Err NoSide ≡ fen_parts s
  unfolding fen_parts fen_fields
  no_side e = rw (w, e) refl

-- ---- Hub
-- these bytes are read for the squares beside them, one after another
abbrev pub read_squares : Parts → List (ℕ × ℕ) → Result Parts Refusal
read_squares = read_all (λ p x. hub_byte_of x.0 x.1 p)

-- the squares are there, and nothing comes after them
abbrev pub all_there : ℕ → List ℕ → Parts → Result Parts Refusal
all_there k s p = cond (eqb (length s) k) (Ok p) (Err NotFifty)

pub hub_read : (k n : ℕ) (p : Parts) (s : List ℕ) → and_then (read_squares p (zip (range_with_len n k) s)) (all_there k s) ≡ hub_from k n p s
unfolding hub_from read_all
hub_read zero n p [] = refl
hub_read zero n p (x ∷ s) = rw eqb-suc-zero refl
hub_read (suc k) n p [] = rw eqb-zero-suc refl
hub_read (suc k) n p (x ∷ s) = go (λ q. hub_read k (n + 1) q s) (hub_byte_of n x p)
  where
    go : ((q : Parts) → and_then (read_squares q (zip (range_with_len (n + 1) k) s)) (all_there k s) ≡ hub_from k (n + 1) q s) → (r : Result Parts Refusal)
        → and_then (and_then r (λ q. read_squares q (zip (range_with_len (n + 1) k) s))) (all_there (suc k) (x ∷ s)) ≡ and_then r (λ q. hub_from k (n + 1) q s)
    go h (Err e) = refl
    go h (Ok q) = ap (λ (b : Bool). and_then (read_squares q (zip (range_with_len (n + 1) k) s)) (λ q. cond b (Ok q) (Err NotFifty))) (eqb-suc-suc (length s) k) ∙ h q

-- the 50 squares, each beside its byte
unfoldable pub numbered : List ℕ → List (ℕ × ℕ)
numbered s = zip (range_with_len 1 50) s

-- r is what was read of all of them
pub hub_numbered : (s : List ℕ) (p : Parts) {r w : Result Parts Refusal} → r ≡ read_squares p (numbered s) → r ≡ w → and_then w (all_there 50 s) ≡ hub_from 50 1 p s
unfolding numbered
hub_numbered s p e q = ap (λ (r : Result Parts Refusal). and_then r (all_there 50 s)) (sym q ∙ e) ∙ hub_read 50 1 p s

-- the code goes over them
pub goes_over : {i : Zip (Range ℕ) (Iter ℕ)} (s : List ℕ) → zip_first i ≡ record { start = 1; end = 51 } → iter_rest (zip_second i) ≡ s
    → YieldsList {B = ℕ × ℕ} (zips nat_range_steps fronts) (λ x. (x.0, x.1.now)) i (numbered s)
unfolding numbered
goes_over s a b = YieldsList-from_zip (YieldsList-from_range 1 51 50 a refl) (YieldsList-from_slice s b)

-- an item that is not empty: what comes after its leading K, read as the pieces that the K says
pub item_read : (c : Color) (p : Parts) (s t : List ℕ) (k : PieceKind) (r : Result Parts Refusal) → 1 ≤ length s → k ≡ kind_if (eqb (get_or s 0 0) (code "K")) → t ≡ strip (code "K") s
    → r ≡ range_of c k p t → r ≡ item_of c p s
unfolding item_of starts_with
item_read c p [] t k r h e f g = absurd (omega arith)
item_read c p (x ∷ s) t k r h e f g = g ∙ ap₂ (λ (k : PieceKind) (t : List ℕ). range_of c k p t) e f
