-- Pieces of an answer: one byte more, one piece after another, whatever room there is.
use Prim.Native.Nat.{ℕ, suc, ◌+◌, ◌≤◌, ◌<◌, ◌-◌, min}
use mathlib.Core.Path.{◌≡◌, refl, ap, ap₂, sym, ◌∙◌, subst}
use mathlib.Core.Bool.{Bool, true, false}
use mathlib.Core.List.{List, [], ◌∷◌, ◌++◌, append_assoc, append-nil}
use native.Mathlib.Omega.{arith}
use native.Mathlib.Numerals.{add-one}
use lib.ListN.{length, take, drop, get_or, set, length-append, length-take, length-drop, drop_of_length-le, take-append-drop}
use lib.Seq.{take_all, drop-cons, set-append_seam, append_snoc, take-append-le, take_at, take-nil}
use lib.Seq.{drop-drop, take-append-add}
use lib.Dec.{leb}
use borrow.Author.Tests.{leb-true, leb-false}
use borrow.Rule.Slice.PartMut.{put_mid}
use Rattle.std.proofs.lemmas.List.{take_min}
use Rattle.texts.specs.Lent.{written, Holds, Adds}

pub written_length : (t o : List ℕ) → length (written t o) ≡ length o
unfolding written
written_length t o = simp (length-append, length-take, length-drop) (omega arith)

pub holds_length : {o t out : List ℕ} {at : ℕ} → Holds o t out at → length out ≡ length o
holds_length {o} {t} g = ap length g.bytes ∙ written_length t o

-- a byte that has room
set_written : (o t : List ℕ) (b : ℕ) → length t < length o → set (written t o) (length t) b ≡ written (t ++ (b ∷ [])) o
unfolding written
set_written o t b h =
    let n : length (t ++ (b ∷ [])) ≡ suc (length t) = length-append t (b ∷ []) ∙ add-one (length t) in
    rw (n, take_all (length o) t (omega arith), take_all (length o) (t ++ (b ∷ [])) (omega (arith, n)), drop-cons o (length t) 0 h, set-append_seam t (get_or o (length t) 0) (drop (suc (length t)) o) b)
    (sym (append_snoc t b (drop (suc (length t)) o)))

holds_byte : (o t out : List ℕ) (at b : ℕ) → at < length out → Holds o t out at → Holds o (t ++ (b ∷ [])) (set out at b) (at + 1)
holds_byte o t out at b h g =
    let l : length t < length o = omega (arith, holds_length g, g.place) in
    let e : at ≡ length t = omega (arith, g.place) in
    record {
      bytes = ap (λ (x : List ℕ). set x at b) g.bytes ∙ ap (λ (i : ℕ). set (written t o) i b) e ∙ set_written o t b l;
      place = omega (arith, length-append t (b ∷ []));
    }

pub byte_fits : (out : List ℕ) (at b : ℕ) → at < length out → Adds (b ∷ []) out at (set out at b) (at + 1)
byte_fits out at b h = record { held = λ o t g. holds_byte o t out at b h g; beyond = λ k. absurd (omega arith) }

-- a byte that has none
same_written : (o t : List ℕ) (b : ℕ) → length o ≤ length t → written t o ≡ written (t ++ (b ∷ [])) o
unfolding written
same_written o t b h =
    let n : length o ≤ length (t ++ (b ∷ [])) = omega (arith, length-append t (b ∷ [])) in
    rw (take-append-le (length o) t (b ∷ []) h, drop_of_length-le o h, drop_of_length-le o n)

pub byte_out : (out : List ℕ) (at b : ℕ) → length out ≤ at → Adds (b ∷ []) out at out at
byte_out out at b h = record { held = λ o t g. kept o t g; beyond = λ _. (refl, refl) }
  where
    kept : (o t : List ℕ) → Holds o t out at → Holds o (t ++ (b ∷ [])) out at
    kept o t g =
        let l : length o ≤ length t = omega (arith, holds_length g, g.place) in
        record { bytes = g.bytes ∙ same_written o t b l; place = omega (arith, g.place, length-append t (b ∷ [])) }

-- ---- from the start of the lent bytes on
pub start : (o : List ℕ) → Holds o [] o 0
unfolding written
start o = record { bytes = sym (ap (λ (y : List ℕ). y ++ o) (take-nil (length o))); place = omega arith }

pub whole : {s o new : List ℕ} {end : ℕ} → Adds s o 0 new end → (end ≡ min (length s) (length o)) × (new ≡ written s o)
whole {s} {o} a = let h = a.held o [] (start o) in (h.place, h.bytes)

-- what is before the place: the text, as far as there is room
pub part_of : {o t out : List ℕ} {at : ℕ} → Holds o t out at → take at out ≡ take (length o) t
unfolding written
part_of {o} {t} {out} {at} h =
    ap (take at) h.bytes ∙ take_at (take (length o) t) (drop (length t) o) at (length-take (length o) t ∙ omega (arith, h.place))

-- the whole text, where there is room for it
pub record Starts (s new : List ℕ) (end : ℕ) : Type 0 where
  pub text : take end new ≡ s
  pub fits : end ≤ length new

pub starts : {s o new : List ℕ} {end : ℕ} → length s ≤ length o → Adds s o 0 new end → Starts s new end
starts {s} {o} h a =
    let g = a.held o [] (start o) in
    record { text = part_of g ∙ take_all (length o) s h; fits = omega (arith, g.place, holds_length g) }

-- ---- pieces
pub adds_none : (out : List ℕ) (at : ℕ) → Adds [] out at out at
adds_none out at = record { held = λ o t g. subst (λ (x : List ℕ). Holds o x out at) (sym (append-nil t)) g; beyond = λ _. (refl, refl) }

pub adds_then : {s u a b c : List ℕ} {i j k : ℕ} → Adds s a i b j → Adds u b j c k → Adds (s ++ u) a i c k
adds_then {s} {u} {a} {b} {c} {i} {j} {k} x y =
    record {
      held = λ o t g. subst (λ (z : List ℕ). Holds o z c k) (append_assoc t s u) (y.held o (t ++ s) (x.held o t g));
      beyond = λ h. nowhere h;
    }
  where
    nowhere : length a < i → (c ≡ a) × (k ≡ i)
    nowhere h =
        let p = x.beyond h in
        let q = y.beyond (omega (arith, ap length p.0, p.1)) in
        (q.0 ∙ p.0, q.1 ∙ p.1)

-- ---- from a place in the lent bytes on
begun : (o : List ℕ) (i : ℕ) → i ≤ length o → Holds o (take i o) o i
unfolding written
begun o i h =
    let l : length (take i o) ≡ i = length-take i o ∙ omega arith in
    record {
      bytes = sym (ap₂ (λ (x y : List ℕ). x ++ y) (take_all (length o) (take i o) (omega (arith, l))) (ap (λ (k : ℕ). drop k o) l) ∙ take-append-drop i o);
      place = omega (arith, l);
    }

drop_cut : (i k : ℕ) (o : List ℕ) → i ≡ min k (length o) → drop i o ≡ drop k o
drop_cut i k o e = go (leb k (length o)) refl
  where
    go : (t : Bool) → leb k (length o) ≡ t → drop i o ≡ drop k o
    go true h = let q : i ≡ k = omega (arith, e, leb-true k (length o) h) in ap (λ (n : ℕ). drop n o) q
    go false h =
        let l = leb-false k (length o) h in
        drop_of_length-le o (omega (arith, e, l)) ∙ sym (drop_of_length-le o (omega (arith, l)))

part_written : (t o : List ℕ) (i n : ℕ) → i ≤ length o → n ≡ min (length t) (length o - i) → put_mid i (i + n - i) o (take n t) ≡ written (take i o ++ t) o
unfolding written
part_written t o i n h e =
    let l : length (take i o) ≡ i = length-take i o ∙ omega arith in
    let k : i + n - i ≡ n = omega arith in
    let m : n ≡ min (length o - i) (length t) = omega (arith, e) in
    let q : length o ≡ length (take i o) + (length o - i) = omega (arith, l) in
    ap (λ (j : ℕ). take i o ++ (take n t ++ drop j (drop i o))) k
    ∙ ap (λ (y : List ℕ). take i o ++ (take n t ++ y)) (drop-drop n i o ∙ drop_cut (i + n) (length (take i o ++ t)) o (omega (arith, e, l, length-append (take i o) t)))
    ∙ ap (λ (y : List ℕ). take i o ++ (y ++ drop (length (take i o ++ t)) o)) (ap (λ (j : ℕ). take j t) m ∙ take_min (length o - i) t)
    ∙ sym (append_assoc (take i o) (take (length o - i) t) (drop (length (take i o ++ t)) o))
    ∙ ap (λ (y : List ℕ). y ++ drop (length (take i o ++ t)) o) (sym (ap (λ (j : ℕ). take j (take i o ++ t)) q ∙ take-append-add (take i o) t (length o - i)))

-- the text t over the bytes from place i on, as far as there is room
pub part_added : {t o new : List ℕ} {i n end : ℕ} → Adds t o i new end → i ≤ length o → n ≡ min (length t) (length o - i) → (put_mid i (i + n - i) o (take n t) ≡ new) × (i + n ≡ end)
part_added {t} {o} {new} {i} {n} a h e =
    let g = a.held o (take i o) (begun o i h) in
    (part_written t o i n h e ∙ sym g.bytes, omega (arith, h, e, g.place, length-append (take i o) t, length-take i o))
