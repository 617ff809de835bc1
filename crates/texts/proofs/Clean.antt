-- What holds of each square's text, by one computed test over 1 to 50: it reads back, and no byte of it means anything to a reader.
use Rattle.std.specs.Prelude.{Err, Ok, Result}
use Prim.Native.Nat.{ℕ}
use mathlib.Core.Path.{◌≡◌, refl, ap}
use mathlib.Core.List.{List, [], ◌∷◌, map}
use mathlib.Core.Bool.{Bool, true, false, cond, ◌&&◌, ◌||◌, not, false≢true}
use native.Mathlib.Omega.{arith}
use lib.Dec.{eqb, leb}
use borrow.Author.Tests.{eqb-true, not-true}
use Rattle.squares.specs.Squares.{is_square, contains_of}
use Rattle.squares.proofs.Bools.{imp, imp_elim, and_left, and_right}
use Rattle.squares.proofs.Below.{below, below_at}
use Rattle.squares.proofs.Numbers.{square_range}
use Rattle.texts.specs.Bytes.{ascii, blank, is, up_to, after_or_all, starts_with, digits, read_square}
use Rattle.texts.specs.Fen.{end_of, item_text}
use Rattle.texts.specs.Computed.{computed}
use Rattle.texts.proofs.ListLaws.{each, each_map, each_imp, lacks, lacks_imp, lacks_cons}
use Rattle.squares.specs.declared.refusal.Refusal.{Refusal}

unfoldable pub high : ℕ → Bool
high b = not (leb b 127)

-- the bytes that mean something to a reader: blanks " . , : - x and those above 127
unfoldable pub special : ℕ → Bool
special b = blank b || (is 34 b || (is 46 b || (is 44 b || (is 58 b || (is 45 b || (is 120 b || high b))))))

or_l : (x y : Bool) → x ≡ true → (x || y) ≡ true
or_l true y h = refl
or_l false y h = absurd (false≢true h)

or_r : (x y : Bool) → y ≡ true → (x || y) ≡ true
or_r true y h = refl
or_r false y h = h

-- the readers' tests are special
pub data Reader : (ℕ → Bool) → Type 0 where
  blanks : Reader blank
  quote : Reader (is 34)
  dot : Reader (is 46)
  comma : Reader (is 44)
  colon : Reader (is 58)
  dash : Reader (is 45)
  cross : Reader (is 120)
  above : Reader high

reader : {p : ℕ → Bool} → Reader p → (b : ℕ) → p b ≡ true → special b ≡ true
unfolding special
reader blanks b h = or_l (blank b) _ h
reader quote b h = or_r (blank b) _ (or_l (is 34 b) _ h)
reader dot b h = or_r (blank b) _ (or_r (is 34 b) _ (or_l (is 46 b) _ h))
reader comma b h = or_r (blank b) _ (or_r (is 34 b) _ (or_r (is 46 b) _ (or_l (is 44 b) _ h)))
reader colon b h = or_r (blank b) _ (or_r (is 34 b) _ (or_r (is 46 b) _ (or_r (is 44 b) _ (or_l (is 58 b) _ h))))
reader dash b h = or_r (blank b) _ (or_r (is 34 b) _ (or_r (is 46 b) _ (or_r (is 44 b) _ (or_r (is 58 b) _ (or_l (is 45 b) _ h)))))
reader cross b h = or_r (blank b) _ (or_r (is 34 b) _ (or_r (is 46 b) _ (or_r (is 44 b) _ (or_r (is 58 b) _ (or_r (is 45 b) _ (or_l (is 120 b) _ h))))))
reader above b h = or_r (blank b) _ (or_r (is 34 b) _ (or_r (is 46 b) _ (or_r (is 44 b) _ (or_r (is 58 b) _ (or_r (is 45 b) _ (or_r (is 120 b) _ h))))))

-- a text without special bytes lacks what a reader looks for
pub lacks_of : {p : ℕ → Bool} → Reader p → (s : List ℕ) → lacks special s ≡ true → lacks p s ≡ true
lacks_of {p} r s h = lacks_imp p special (reader r) s h

reads : ℕ → Result ℕ Refusal → Bool
reads n (Ok m) = eqb m n
reads n (Err e) = false

reads_is : (n : ℕ) (p : Result ℕ Refusal) → reads n p ≡ true → p ≡ Ok n
unfolding reads
reads_is n (Ok m) h = ap Ok (eqb-true m n h)
reads_is n (Err e) h = absurd (false≢true h)

pub record Digits (n : ℕ) : Type 0 where
  pub up_to_lem : end_of (up_to 45 (digits n)) ≡ Ok n
  pub after_it : end_of (after_or_all 45 (digits n)) ≡ Ok n
  pub read : read_square (digits n) ≡ Ok n
  pub no_king : starts_with 75 (digits n) ≡ false
  pub clean : lacks special (digits n) ≡ true

test : ℕ → Bool
test n =
    reads n (end_of (up_to 45 (digits n))) && (reads n (end_of (after_or_all 45 (digits n))) && (reads n (read_square (digits n))
    && (not (starts_with 75 (digits n)) && lacks special (digits n))))

tested : below 51 (λ (n : ℕ). imp (is_square n) (test n)) ≡ true
unfolding computed below imp test reads lacks special high
tested = refl

pub digits_law : (n : ℕ) → is_square n ≡ true → Digits n
unfolding test
digits_law n h =
    let t : test n ≡ true = imp_elim (is_square n) (test n) (below_at 51 (λ (n : ℕ). imp (is_square n) (test n)) tested n (omega (arith, (square_range n h).1))) h in
    let a = reads n (end_of (up_to 45 (digits n))) in
    let b = reads n (end_of (after_or_all 45 (digits n))) in
    let c = reads n (read_square (digits n)) in
    let d = not (starts_with 75 (digits n)) in
    let t1 = and_right a _ t in
    let t2 = and_right b _ t1 in
    let t3 = and_right c _ t2 in
    record {
      up_to_lem = reads_is n _ (and_left a _ t);
      after_it = reads_is n _ (and_left b _ t1);
      read = reads_is n _ (and_left c _ t2);
      no_king = not-true _ (and_left d _ t3);
      clean = and_right d _ t3;
    }

-- the numbers of squares, one by one
pub numbers_lack : {p : ℕ → Bool} → Reader p → (l : List ℕ) → each is_square l ≡ true → each (lacks p) (map digits l) ≡ true
numbers_lack {p} r l h = each_map digits (lacks p) l (each_imp is_square (λ (n : ℕ). lacks p (digits n)) (λ n e. lacks_of r (digits n) (digits_law n e).clean) l h)

-- an item has no special byte
pub item_clean : (kings n : ℕ) → Digits n → lacks special (item_text kings n) ≡ true
unfolding item_text special is blank high
item_clean kings n d = go (contains_of kings n)
  where
    go : (t : Bool) → lacks special (cond t (75 ∷ digits n) (digits n)) ≡ true
    go true = lacks_cons special _ (digits n) refl d.clean
    go false = d.clean

pub ascii_lacks : (s : List ℕ) → lacks high s ≡ true → ascii s ≡ true
unfolding ascii lacks high
ascii_lacks [] h = refl
ascii_lacks (b ∷ s) h = go (leb b 127) (ascii_lacks s) h
  where
    go : (t : Bool) → (lacks high s ≡ true → ascii s ≡ true) → (not (not t) && lacks high s) ≡ true → (t && ascii s) ≡ true
    go true ih e = ih e
    go false ih e = e
