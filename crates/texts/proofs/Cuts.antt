-- What the byte loops find, place by place: trimming, finding, splitting at a place.
use Prim.Native.Nat.{ℕ, zero, suc, ◌+◌, ◌-◌, ◌≤◌, ◌<◌}
use mathlib.Core.Path.{◌≡◌, refl, ap, sym, subst, ◌∙◌}
use mathlib.Core.List.{List, [], ◌∷◌}
use mathlib.Core.Bool.{Bool, true, false, cond, not, ◌||◌, ◌&&◌}
use native.Mathlib.Omega.{arith}
use native.Mathlib.Numerals.{add-one}
use lib.ListN.{length, take, drop, get_or, length-drop}
use lib.Seq.{take_all, take-length}
use lib.Dec.{leb, ltb, eqb, leb-suc-suc}
use borrow.Author.Tests.{le-leb, lt-leb, lt-ltb, le-ltb, ltb-true, ltb-false}
use Rattle.texts.specs.Bytes.{ascii, is, holds, trim_start, keep_end, trim_end, up_to, after_or, after_first, strip, index_of, IsIndex, IsAfter}
use lib.Pointwise.{pointwise}
use Rattle.std.specs.List.{position_or_len}
use Rattle.std.specs.Option.{unwrap_or}
use Rattle.std.specs.Bool.{MatchBool}
use Rattle.std.specs.Str.{IsAscii, IsNotAscii}
use Rattle.std.proofs.Common.{Bor}
use Rattle.std.specs.Prelude.{None, Some, MatchOption}
use Rattle.std.specs.declared.option.Option.{Option}

-- the part from i on
pub rest : (s : List ℕ) (i : ℕ) → take (length s - i) (drop i s) ≡ drop i s
rest s i = take_all (length s - i) (drop i s) (simp length-drop (omega arith))

-- ---- ASCII
pub all_ascii : (s : List ℕ) → ((i : ℕ) → get_or s i 0 < 128) → true ≡ ascii s
unfolding ascii
all_ascii [] h = refl
all_ascii (b ∷ s) h = let l : b < 128 = h 0 in rw (le-leb b 127 (omega (arith, l))) (all_ascii s (λ i. h (suc i)))

pub some_other : (s : List ℕ) (i : ℕ) → 128 ≤ get_or s i 0 → false ≡ ascii s
unfolding ascii
some_other [] i h = absurd (omega (arith, h))
some_other (b ∷ s) zero h = rw (lt-leb b 127 (omega (arith, h))) refl
some_other (b ∷ s) (suc i) h = go (leb b 127) (some_other s i h)
  where
    go : (t : Bool) → false ≡ ascii s → false ≡ (t && ascii s)
    go true e = e
    go false e = refl

-- by the cases of the library
pub ascii_cases : (r : Bool) (s : List ℕ) → MatchBool r (IsAscii s) (IsNotAscii s) → r ≡ ascii s
ascii_cases true s h = all_ascii s h
ascii_cases false s h = some_other s h.0 h.1

-- ---- trimming
pub start_cut : (p : ℕ → Bool) (s : List ℕ) → 0 < length s → p (get_or s 0 0) ≡ true → trim_start p s ≡ trim_start p (take (length s - 1) (drop 1 s))
unfolding trim_start
start_cut p [] h e = absurd (omega arith)
start_cut p (b ∷ s) h e = rw e (ap (trim_start p) (sym (rest (b ∷ s) 1)))

pub start_keep : (p : ℕ → Bool) (s : List ℕ) → 0 < length s → p (get_or s 0 0) ≡ false → trim_start p s ≡ s
unfolding trim_start
start_keep p [] h e = absurd (omega arith)
start_keep p (b ∷ s) h e = rw e

pub start_end : (p : ℕ → Bool) (s : List ℕ) → length s < 1 → trim_start p s ≡ s
unfolding trim_start
start_end p [] h = refl
start_end p (b ∷ s) h = absurd (omega arith)

pub all_off : (p : ℕ → Bool) (s : List ℕ) → ((k : ℕ) → k < length s → p (get_or s k 0) ≡ true) → [] ≡ trim_end p s
unfolding trim_end keep_end
all_off p [] f = refl
all_off p (b ∷ s) f =
    ap (λ (t : Bool). cond t [] (b ∷ [])) (sym (f 0 (omega arith))) ∙ ap (keep_end p b) (all_off p s (λ k h. f (suc k) (omega (arith, h))))

kept_to : (p : ℕ → Bool) (s : List ℕ) (i : ℕ) → i < length s → p (get_or s i 0) ≡ false → ((k : ℕ) → i < k → k < length s → p (get_or s k 0) ≡ true) → take (suc i) s ≡ trim_end p s
unfolding trim_end keep_end
kept_to p [] i h e f = absurd (omega arith)
kept_to p (b ∷ s) zero h e f =
    ap (λ (t : Bool). cond t [] (b ∷ [])) (sym e) ∙ ap (keep_end p b) (all_off p s (λ k h. f (suc k) (omega arith) (omega (arith, h))))
kept_to p (b ∷ []) (suc i) h e f = absurd (omega (arith, h))
kept_to p (b ∷ (x ∷ s)) (suc i) h e f =
    ap (keep_end p b) (kept_to p (x ∷ s) i (omega (arith, h)) e (λ k l m. f (suc k) (omega (arith, l)) (omega (arith, m))))

-- i is the place of the last byte that stays
pub end_at : (p : ℕ → Bool) (s : List ℕ) (i : ℕ) → i < length s → p (get_or s i 0) ≡ false → ((k : ℕ) → i < k → k < length s → p (get_or s k 0) ≡ true) → take (i + 1) s ≡ trim_end p s
end_at p s i h e f = ap (λ (n : ℕ). take n s) (add-one i) ∙ kept_to p s i h e f

-- ---- finding
position_is : (p : ℕ → Bool) (s : List ℕ) → position_or_len p s ≡ index_of p s
unfolding index_of
position_is p [] = refl
position_is p (b ∷ s) = go (p b) (position_is p s)
  where
    go : (t : Bool) → position_or_len p s ≡ index_of p s → cond (not t) (1 + position_or_len p s) 0 ≡ cond t 0 (suc (index_of p s))
    go true e = refl
    go false e = omega (arith, e)

pub index_le : (p : ℕ → Bool) (s : List ℕ) → index_of p s ≤ length s
unfolding index_of
index_le p [] = omega arith
index_le p (b ∷ s) = go (p b) (index_le p s)
  where
    go : (t : Bool) → index_of p s ≤ length s → cond t 0 (suc (index_of p s)) ≤ suc (length s)
    go true h = omega arith
    go false h = omega arith

-- the place that the standard library's search answers
pub found : (p : ℕ → Bool) (s : List ℕ) (r : Option ℕ) → r ≡ cond (ltb (position_or_len p s) (length s)) (Some (position_or_len p s)) None → IsIndex (index_of p s) (length s) r
found p s r e = subst (λ (x : Option ℕ). IsIndex (index_of p s) (length s) x) (sym e) (go (ltb (position_or_len p s) (length s)) refl)
  where
    go : (t : Bool) → ltb (position_or_len p s) (length s) ≡ t → IsIndex (index_of p s) (length s) (cond t (Some (position_or_len p s)) None)
    go true h = (position_is p s, omega (arith, position_is p s, ltb-true (position_or_len p s) (length s) h))
    go false h = omega (arith, position_is p s, index_le p s, ltb-false (position_or_len p s) (length s) h)

pub or_length : (i n : ℕ) (r : Option ℕ) → IsIndex i n r → (unwrap_or r n ≡ i) × (unwrap_or r n ≤ n)
or_length i n (Some k) h = (h.0, omega (arith, h.0, h.1))
or_length i n None h = (sym h, omega arith)

-- a byte is held where it is found before the end
pub holds_found : (c : ℕ) (s : List ℕ) → ltb (index_of (is c) s) (length s) ≡ holds c s
unfolding holds index_of is
holds_found c [] = refl
holds_found c (b ∷ s) = go (eqb b c) (holds_found c s)
  where
    go : (t : Bool) → ltb (index_of (is c) s) (length s) ≡ holds c s → ltb (cond t 0 (suc (index_of (is c) s))) (suc (length s)) ≡ (t || holds c s)
    go true e = lt-ltb 0 (suc (length s)) (omega arith)
    go false e = leb-suc-suc (suc (index_of (is c) s)) (length s) ∙ e

-- ---- before and after a byte
pub held : (c : ℕ) (s : List ℕ) → index_of (is c) s < length s → holds c s ≡ true
held c s h = sym (holds_found c s) ∙ lt-ltb _ _ h

pub not_held : (c : ℕ) (s : List ℕ) → index_of (is c) s ≡ length s → holds c s ≡ false
not_held c s e = sym (holds_found c s) ∙ le-ltb _ _ (omega (arith, e))

pub up_to_is : (c : ℕ) (s : List ℕ) → up_to c s ≡ take (index_of (is c) s) s
unfolding up_to index_of is
up_to_is c [] = refl
up_to_is c (b ∷ s) = go (eqb b c) (up_to_is c s)
  where
    go : (t : Bool) → up_to c s ≡ take (index_of (is c) s) s → cond t [] (b ∷ up_to c s) ≡ take (cond t 0 (suc (index_of (is c) s))) (b ∷ s)
    go true e = refl
    go false e = ap (λ (x : List ℕ). b ∷ x) e

pub up_to_hit : (c : ℕ) (s : List ℕ) (n : ℕ) → n ≡ index_of (is c) s → take n s ≡ up_to c s
up_to_hit c s n e = ap (λ (k : ℕ). take k s) e ∙ sym (up_to_is c s)

pub up_to_none : (c : ℕ) (s : List ℕ) → index_of (is c) s ≡ length s → s ≡ up_to c s
up_to_none c s e = sym (take-length s) ∙ ap (λ (k : ℕ). take k s) (sym e) ∙ sym (up_to_is c s)

after_in : (t : List ℕ) (c : ℕ) (s : List ℕ) → index_of (is c) s < length s → after_or t c s ≡ drop (suc (index_of (is c) s)) s
unfolding after_or index_of is
after_in t c [] h = absurd (omega arith)
after_in t c (b ∷ s) h = go (eqb b c) (after_in t c s) h
  where
    go : (x : Bool) → (index_of (is c) s < length s → after_or t c s ≡ drop (suc (index_of (is c) s)) s) → cond x 0 (suc (index_of (is c) s)) < suc (length s)
        → cond x s (after_or t c s) ≡ drop (suc (cond x 0 (suc (index_of (is c) s)))) (b ∷ s)
    go true e l = refl
    go false e l = e (omega arith)

pub after_or_hit : (t : List ℕ) (c : ℕ) (s : List ℕ) (n : ℕ) → n ≡ index_of (is c) s → index_of (is c) s < length s
    → take (length s - (n + 1)) (drop (n + 1) s) ≡ after_or t c s
after_or_hit t c s n e h =
    rest s (n + 1) ∙ ap (λ (k : ℕ). drop (k + 1) s) e ∙ ap (λ (k : ℕ). drop k s) (add-one (index_of (is c) s)) ∙ sym (after_in t c s h)

after_out : (t : List ℕ) (c : ℕ) (s : List ℕ) → length s ≤ index_of (is c) s → after_or t c s ≡ t
unfolding after_or index_of is
after_out t c [] h = refl
after_out t c (b ∷ s) h = go (eqb b c) (after_out t c s) h
  where
    go : (x : Bool) → (length s ≤ index_of (is c) s → after_or t c s ≡ t) → suc (length s) ≤ cond x 0 (suc (index_of (is c) s)) → cond x s (after_or t c s) ≡ t
    go true e l = absurd (omega arith)
    go false e l = e (omega arith)

pub after_or_none : (t : List ℕ) (c : ℕ) (s : List ℕ) → index_of (is c) s ≡ length s → t ≡ after_or t c s
after_or_none t c s e = sym (after_out t c s (omega (arith, e)))

-- r, or t in its place, is what comes after the first c
pub after_else : (c : ℕ) (s : List ℕ) (t : Bor (List ℕ)) (r : Option (Bor (List ℕ))) → IsAfter c s r → (unwrap_or r t).now ≡ after_or t.now c s
unfolding after_first
after_else c s t (Some x) h =
    let l = ltb-true _ _ (holds_found c s ∙ h.0) in
    h.1 ∙ after_in [] c s l ∙ sym (after_in t.now c s l)
after_else c s t None h = after_or_none t.now c s (omega (arith, index_le (is c) s, ltb-false _ _ (holds_found c s ∙ h)))

pub after_is : (c : ℕ) (s : List ℕ) → after_first c s ≡ drop (index_of (is c) s + 1) s
unfolding after_first after_or index_of is
after_is c [] = refl
after_is c (b ∷ s) = go (eqb b c) (after_is c s)
  where
    go : (t : Bool) → after_or [] c s ≡ drop (index_of (is c) s + 1) s → cond t s (after_or [] c s) ≡ drop (cond t 0 (suc (index_of (is c) s)) + 1) (b ∷ s)
    go true e = refl
    go false e =
        let q : suc (index_of (is c) s + 1) ≡ suc (index_of (is c) s) + 1 = omega arith in
        e ∙ ap (λ (n : ℕ). drop n (b ∷ s)) q

-- ---- the first byte

-- what is left where the standard library takes the prefix c off
first_same : (c b : ℕ) (s : List ℕ) (t : Bool) → (eqb b c && true) ≡ t → cond (eqb b c) s (b ∷ s) ≡ cond t s (b ∷ s)
first_same c b s t e = go (eqb b c) e
  where
    go : (u : Bool) → (u && true) ≡ t → cond u s (b ∷ s) ≡ cond t s (b ∷ s)
    go true e = ap (λ (x : Bool). cond x s (b ∷ s)) e
    go false e = ap (λ (x : Bool). cond x s (b ∷ s)) e

pub stripped : (c : ℕ) (t : Bor (List ℕ)) (s : List ℕ) → t.now ≡ s → (r : Option (Bor (List ℕ)))
    → MatchOption r (pointwise eqb (take 1 s) (c ∷ []) ≡ false) (λ x. (pointwise eqb (take 1 s) (c ∷ []) ≡ true) × (x.now ≡ drop 1 s) × (length x.now + 1 ≡ length s))
    → (unwrap_or r t).now ≡ strip c s
unfolding strip
stripped c t [] q None h = q
stripped c t (b ∷ s) q None h = q ∙ sym (first_same c b s false h)
stripped c t [] q (Some x) h = absurd (omega (arith, h.2))
stripped c t (b ∷ s) q (Some x) h = h.1 ∙ sym (first_same c b s true h.0)
