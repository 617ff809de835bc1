-- Whole lines and the line after them, one after the other.
use Prim.Native.Nat.{ℕ, zero, suc, ◌+◌, ◌≤◌, ◌<◌}
use mathlib.Core.Path.{◌≡◌, refl, ap, sym, ◌∙◌}
use mathlib.Core.List.{List, [], ◌∷◌, ◌++◌}
use mathlib.Core.Bool.{Bool, true, false, cond}
use native.Mathlib.Omega.{arith}
use lib.ListN.{length, take, drop}
use lib.Seq.{take-append-add}
use lib.Dec.{eqb, ltb}
use borrow.Author.Tests.{lt-ltb}
use Rattle.texts.specs.Bytes.{is, index_of, cons_head, parts_at}
use Rattle.line_laws.specs.Lines.{lines_of, whole_of, whole_lines}

-- ---- how many bytes whole lines take
pub whole_cons : (b : ℕ) (s : List ℕ) → 0 < whole_of s → whole_of (b ∷ s) ≡ suc (whole_of s)
unfolding whole_of
whole_cons b s h = rw (lt-ltb 0 (whole_of s) h)

whole_byte : (b : ℕ) (s : List ℕ) → whole_of s ≡ 0 → whole_of (b ∷ s) ≡ cond (eqb b 10) 1 0
unfolding whole_of
whole_byte b s e = rw e

pub whole_nil : whole_of [] ≡ 0
unfolding whole_of
whole_nil = refl

alone_whole : (b : ℕ) → eqb b 10 ≡ true → whole_of (b ∷ []) ≡ 1
unfolding whole_of
alone_whole b e = rw e

-- none, or some
pub data Split (n : ℕ) : Type 0 where
  none : n ≡ 0 → Split n
  some : 0 < n → Split n

pub split : (n : ℕ) → Split n
split zero = none refl
split (suc n) = some (omega arith)

pub whole_le : (s : List ℕ) → whole_of s ≤ length s
unfolding whole_of
whole_le [] = omega arith
whole_le (b ∷ s) = go (ltb 0 (whole_of s)) (eqb b 10) (whole_le s)
  where
    go : (p q : Bool) → whole_of s ≤ length s → cond p (suc (whole_of s)) (cond q 1 0) ≤ suc (length s)
    go true q h = omega arith
    go false true h = omega arith
    go false false h = omega arith

-- a line feed alone
feed_alone : (b : ℕ) → whole_of (b ∷ []) ≡ 1 → eqb b 10 ≡ true
unfolding whole_of
feed_alone b e = go (eqb b 10) e
  where
    go : (q : Bool) → ◌≡◌ {A = ℕ} (cond q 1 0) 1 → q ≡ true
    go true h = refl
    go false h = absurd (omega arith)

tail_whole : (b c : ℕ) (t : List ℕ) → whole_of (b ∷ (c ∷ t)) ≡ suc (suc (length t)) → whole_of (c ∷ t) ≡ suc (length t)
tail_whole b c t e = go (split (whole_of (c ∷ t)))
  where
    last : (q : Bool) → cond q 1 0 ≡ suc (suc (length t)) → ⊥
    last true h = omega arith
    last false h = omega arith

    go : Split (whole_of (c ∷ t)) → whole_of (c ∷ t) ≡ suc (length t)
    go (none z) = absurd (last (eqb b 10) (sym (whole_byte b (c ∷ t) z) ∙ e))
    go (some p) = omega (arith, whole_cons b (c ∷ t) p)

-- nothing after the bytes that are whole changes them
pub whole_append : (t x : List ℕ) → whole_of t ≡ length t → whole_of (t ++ x) ≡ length t + whole_of x
whole_append [] x e = omega arith
whole_append (b ∷ []) x e = go (split (whole_of x))
  where
    go : Split (whole_of x) → whole_of (b ∷ x) ≡ 1 + whole_of x
    go (none z) = whole_byte b x z ∙ ap (λ (q : Bool). cond q 1 0) (feed_alone b e) ∙ omega arith
    go (some p) = whole_cons b x p ∙ omega arith
whole_append (b ∷ (c ∷ t)) x e =
    let i = whole_append (c ∷ t) x (tail_whole b c t e) in
    whole_cons b ((c ∷ t) ++ x) (omega (arith, i)) ∙ omega (arith, i)

-- the whole lines, and the line after them
pub whole_part : (s : List ℕ) → whole_of (take (whole_of s) s) ≡ whole_of s
whole_part [] = ap (λ (k : ℕ). whole_of (take k [])) whole_nil
whole_part (b ∷ s) = go (split (whole_of s)) (whole_part s)
  where
    byte : whole_of s ≡ 0 → (q : Bool) → eqb b 10 ≡ q → whole_of (take (cond q 1 0) (b ∷ s)) ≡ cond q 1 0
    byte z true e = alone_whole b e
    byte z false e = whole_nil

    go : Split (whole_of s) → whole_of (take (whole_of s) s) ≡ whole_of s → whole_of (take (whole_of (b ∷ s)) (b ∷ s)) ≡ whole_of (b ∷ s)
    go (none z) h =
        let e = whole_byte b s z in
        ap (λ (k : ℕ). whole_of (take k (b ∷ s))) e ∙ byte z (eqb b 10) refl ∙ sym e
    go (some p) h =
        let e = whole_cons b s p in
        ap (λ (k : ℕ). whole_of (take k (b ∷ s))) e ∙ whole_cons b (take (whole_of s) s) (omega (arith, h)) ∙ ap suc h ∙ sym e

pub open_part : (s : List ℕ) → whole_of (drop (whole_of s) s) ≡ 0
open_part [] = ap (λ (k : ℕ). whole_of (drop k [])) whole_nil ∙ whole_nil
open_part (b ∷ s) = go (split (whole_of s)) (open_part s)
  where
    byte : whole_of s ≡ 0 → (q : Bool) → eqb b 10 ≡ q → whole_of (drop (cond q 1 0) (b ∷ s)) ≡ 0
    byte z true e = z
    byte z false e = whole_byte b s z ∙ ap (λ (q : Bool). cond q 1 0) e

    go : Split (whole_of s) → whole_of (drop (whole_of s) s) ≡ 0 → whole_of (drop (whole_of (b ∷ s)) (b ∷ s)) ≡ 0
    go (none z) h = ap (λ (k : ℕ). whole_of (drop k (b ∷ s))) (whole_byte b s z) ∙ byte z (eqb b 10) refl
    go (some p) h = ap (λ (k : ℕ). whole_of (drop k (b ∷ s))) (whole_cons b s p) ∙ h

-- no line feed, no whole line
pub none_whole : (s : List ℕ) → whole_of s ≡ 0 → whole_lines s ≡ []
unfolding whole_lines
none_whole s e = rw e

-- ---- the first line
pub no_feed : (s : List ℕ) → index_of (is 10) s ≡ length s → whole_of s ≡ 0
unfolding whole_of index_of is
no_feed [] e = refl
no_feed (b ∷ s) e = go (eqb b 10) e (no_feed s)
  where
    go : (t : Bool) → cond t 0 (suc (index_of (is 10) s)) ≡ suc (length s) → (index_of (is 10) s ≡ length s → whole_of s ≡ 0)
        → cond (ltb 0 (whole_of s)) (suc (whole_of s)) (cond t 1 0) ≡ 0
    go true h i = absurd (omega (arith, h))
    go false h i = rw (i (omega (arith, h)))

first_whole : (s : List ℕ) → index_of (is 10) s < length s → whole_of (take (suc (index_of (is 10) s)) s) ≡ suc (index_of (is 10) s)
unfolding index_of is
first_whole [] h = absurd (omega arith)
first_whole (b ∷ s) h = go (eqb b 10) refl h (first_whole s)
  where
    go : (t : Bool) → eqb b 10 ≡ t → cond t 0 (suc (index_of (is 10) s)) < suc (length s)
        → (index_of (is 10) s < length s → whole_of (take (suc (index_of (is 10) s)) s) ≡ suc (index_of (is 10) s))
        → whole_of (take (suc (cond t 0 (suc (index_of (is 10) s)))) (b ∷ s)) ≡ suc (cond t 0 (suc (index_of (is 10) s)))
    go true e l i = alone_whole b e
    go false e l i = let q = i (omega arith) in whole_cons b (take (suc (index_of (is 10) s)) s) (omega (arith, q)) ∙ ap suc q

lines_cons : (b : ℕ) (s : List ℕ) → lines_of (b ∷ s) ≡ cond (eqb b 10) ([] ∷ lines_of s) (cons_head b (lines_of s))
unfolding parts_at
lines_cons b s = refl

alone_line : (b : ℕ) → eqb b 10 ≡ true → lines_of (b ∷ []) ≡ [] ∷ []
unfolding parts_at
alone_line b e = rw e

onto_line : (b : ℕ) (l : List ℕ) → cons_head b (l ∷ []) ≡ (b ∷ l) ∷ []
unfolding cons_head
onto_line b l = refl

pub first_line : (s : List ℕ) → index_of (is 10) s < length s → lines_of (take (suc (index_of (is 10) s)) s) ≡ take (index_of (is 10) s) s ∷ []
unfolding index_of is
first_line [] h = absurd (omega arith)
first_line (b ∷ s) h = go (eqb b 10) refl h (first_line s)
  where
    go : (t : Bool) → eqb b 10 ≡ t → cond t 0 (suc (index_of (is 10) s)) < suc (length s)
        → (index_of (is 10) s < length s → lines_of (take (suc (index_of (is 10) s)) s) ≡ take (index_of (is 10) s) s ∷ [])
        → lines_of (take (suc (cond t 0 (suc (index_of (is 10) s)))) (b ∷ s)) ≡ take (cond t 0 (suc (index_of (is 10) s))) (b ∷ s) ∷ []
    go true e l i = alone_line b e
    go false e l i =
        let r = take (suc (index_of (is 10) s)) s in
        lines_cons b r ∙ ap (λ (q : Bool). cond q ([] ∷ lines_of r) (cons_head b (lines_of r))) e ∙ ap (cons_head b) (i (omega arith)) ∙ onto_line b (take (index_of (is 10) s) s)

-- the first n + 1 bytes of t are its first line
module _ (t : List ℕ) (n : ℕ) (e : n ≡ index_of (is 10) t) (h : n < length t) where
  pub line_whole : whole_of (take (n + 1) t) ≡ n + 1
  line_whole =
      let k : n + 1 ≡ suc (index_of (is 10) t) = omega (arith, e) in
      ap (λ (m : ℕ). whole_of (take m t)) k ∙ first_whole t (omega (arith, e)) ∙ sym k

-- ---- lines after whole lines
some_line : (c : ℕ) (t : List ℕ) → 0 < length (lines_of (c ∷ t))
unfolding parts_at cons_head
some_line c t = go (eqb c 10) (lines_of t)
  where
    go : (q : Bool) (l : List (List ℕ)) → 0 < length (cond q ([] ∷ l) (cons_head c l))
    go true l = omega arith
    go false [] = omega arith
    go false (f ∷ l) = omega arith

front : (q : Bool) (b : ℕ) (l m : List (List ℕ)) → 0 < length l → cond q ([] ∷ (l ++ m)) (cons_head b (l ++ m)) ≡ cond q ([] ∷ l) (cons_head b l) ++ m
unfolding cons_head
front q b [] m h = absurd (omega arith)
front true b (f ∷ l) m h = refl
front false b (f ∷ l) m h = refl

pub lines_append : (t x : List ℕ) → whole_of t ≡ length t → lines_of (t ++ x) ≡ lines_of t ++ lines_of x
unfolding parts_at
lines_append [] x e = refl
lines_append (b ∷ []) x e = rw (feed_alone b e)
lines_append (b ∷ (c ∷ t)) x e =
    ap (λ (l : List (List ℕ)). cond (eqb b 10) ([] ∷ l) (cons_head b l)) (lines_append (c ∷ t) x (tail_whole b c t e))
    ∙ front (eqb b 10) b (lines_of (c ∷ t)) (lines_of x) (some_line c t)

-- ---- a line that is not whole yet
open_byte : (b : ℕ) (t : List ℕ) → whole_of (b ∷ t) ≡ 0 → (whole_of t ≡ 0) × (eqb b 10 ≡ false)
open_byte b t e = go (split (whole_of t))
  where
    byte : (q : Bool) → ◌≡◌ {A = ℕ} (cond q 1 0) 0 → q ≡ false
    byte true h = absurd (omega arith)
    byte false h = refl

    go : Split (whole_of t) → (whole_of t ≡ 0) × (eqb b 10 ≡ false)
    go (none z) = (z, byte (eqb b 10) (sym (whole_byte b t z) ∙ e))
    go (some p) = absurd (omega (arith, whole_cons b t p))

pub open_take : (n : ℕ) (t : List ℕ) → whole_of t ≡ 0 → whole_of (take n t) ≡ 0
open_take zero t e = whole_nil
open_take (suc n) [] e = whole_nil
open_take (suc n) (b ∷ t) e =
    let o = open_byte b t e in
    whole_byte b (take n t) (open_take n t o.0) ∙ ap (λ (q : Bool). cond q 1 0) o.1

-- the line t before the first of some lines
unfoldable pub onto_head : List ℕ → List (List ℕ) → List (List ℕ)
onto_head t [] = t ∷ []
onto_head t (l ∷ ls) = (t ++ l) ∷ ls

head_byte : (b : ℕ) (l : List (List ℕ)) → cons_head b l ≡ onto_head (b ∷ []) l
unfolding cons_head onto_head
head_byte b [] = refl
head_byte b (f ∷ l) = refl

head_more : (b : ℕ) (t : List ℕ) (l : List (List ℕ)) → cons_head b (onto_head t l) ≡ onto_head (b ∷ t) l
unfolding cons_head onto_head
head_more b t [] = refl
head_more b t (f ∷ l) = refl

pub lines_open : (t x : List ℕ) → whole_of t ≡ 0 → 0 < length t → lines_of (t ++ x) ≡ onto_head t (lines_of x)
lines_open [] x e h = absurd (omega arith)
lines_open (b ∷ []) x e h =
    lines_cons b x ∙ ap (λ (q : Bool). cond q ([] ∷ lines_of x) (cons_head b (lines_of x))) (open_byte b [] e).1 ∙ head_byte b (lines_of x)
lines_open (b ∷ (c ∷ t)) x e h =
    let o = open_byte b (c ∷ t) e in
    let r = lines_of ((c ∷ t) ++ x) in
    lines_cons b ((c ∷ t) ++ x) ∙ ap (λ (q : Bool). cond q ([] ∷ r) (cons_head b r)) o.1
    ∙ ap (cons_head b) (lines_open (c ∷ t) x o.0 (omega arith)) ∙ head_more b (c ∷ t) (lines_of x)

pub open_append : (t x : List ℕ) → whole_of t ≡ 0 → whole_of x ≡ 0 → whole_of (t ++ x) ≡ 0
open_append [] x e z = z
open_append (b ∷ t) x e z =
    let o = open_byte b t e in
    whole_byte b (t ++ x) (open_append t x o.0 z) ∙ ap (λ (q : Bool). cond q 1 0) o.1

before_whole : (t x : List ℕ) → 0 < whole_of x → whole_of (t ++ x) ≡ length t + whole_of x
before_whole [] x h = omega arith
before_whole (b ∷ t) x h = let i = before_whole t x h in whole_cons b (t ++ x) (omega (arith, i)) ∙ omega (arith, i)

pub before_lines : (t x : List ℕ) → 0 < whole_of x → whole_lines (t ++ x) ≡ t ++ whole_lines x
unfolding whole_lines
before_lines t x h = ap (λ (n : ℕ). take n (t ++ x)) (before_whole t x h) ∙ take-append-add t x (whole_of x)
