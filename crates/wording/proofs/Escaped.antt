-- Escapes, place by place; and what undoing wrote.
use Prim.Native.Nat.{ℕ, zero, suc, ◌+◌, ◌-◌, ◌*◌, ◌≤◌, ◌<◌}
use mathlib.Core.Path.{◌≡◌, refl, ap, sym, ◌∙◌, subst}
use mathlib.Core.List.{List, [], ◌∷◌}
use mathlib.Core.Bool.{Bool, true, false, cond, ◌&&◌, ◌||◌, true≢false, false≢true}
use native.Mathlib.Omega.{arith}
use lib.ListN.{length, take, drop, get_or}
use lib.Dec.{eqb, leb}
use denote.Ref.{Bor}
use borrow.Author.Tests.{le-leb, lt-leb, eq-eqb, ne_eqb}
use Rattle.texts.proofs.Cuts.{rest}
use Rattle.texts.proofs.Overs.{over_none, over_lent}
use Rattle.texts.proofs.Pieces.{whole}
use Rattle.texts.specs.Lent.{over}
use Rattle.texts.specs.declared.space.Space.{Space}
use Rattle.wording.specs.Numbers.{digit_of}
use Rattle.wording.specs.Escapes.{Plain, text, broken, high_of, hex_escape, escape_of, Escaped, before, on_escape, undo, plain, is_plain, text_of, undone, Undid}
use Rattle.std.specs.declared.option.Option.{Option}
use Rattle.std.specs.Prelude.{None, Some, is_some, flat_map, option_to_list}
use Rattle.std.specs.List.{list_all, list_any}
use Rattle.wording.specs.Steps.{escaped_first, undo_each}

-- ---- \xHH
pub hex_short : (s : List ℕ) → length s < 2 → Escaped (120 ∷ s) (hex_escape s) None
unfolding hex_escape
hex_short [] h = tt
hex_short (a ∷ []) h = tt
hex_short (a ∷ (b ∷ s)) h = absurd (omega arith)

pub high_bad : (s : List ℕ) → 2 ≤ length s → 16 ≤ high_of (get_or s 0 0) → Escaped (120 ∷ s) (hex_escape s) None
unfolding hex_escape
high_bad [] h k = absurd (omega arith)
high_bad (x ∷ []) h k = absurd (omega arith)
high_bad (x ∷ (y ∷ s)) h k = rw (lt-leb (high_of x) 15 k) tt

pub low_bad : (s : List ℕ) → 2 ≤ length s → high_of (get_or s 0 0) ≤ 15 → 16 ≤ digit_of (get_or s 1 0) → Escaped (120 ∷ s) (hex_escape s) None
unfolding hex_escape
low_bad [] h k l = absurd (omega arith)
low_bad (x ∷ []) h k l = absurd (omega arith)
low_bad (x ∷ (y ∷ s)) h k l = rw (le-leb (high_of x) 15 k, lt-leb (digit_of y) 15 l) tt

pub pair_good : (s : List ℕ) (a b : ℕ) (t : Bor (List ℕ)) → 2 ≤ length s → a ≡ high_of (get_or s 0 0) → a ≤ 15 → b ≡ digit_of (get_or s 1 0) → b ≤ 15
    → t.now ≡ take (length s - 2) (drop 2 s) → Escaped (120 ∷ s) (hex_escape s) (Some (a * 16 + b, t))
unfolding hex_escape
pair_good [] a b t h e k f l g = absurd (omega arith)
pair_good (x ∷ []) a b t h e k f l g = absurd (omega arith)
pair_good (x ∷ (y ∷ s)) a b t h e k f l g = rw (← e, ← f, le-leb a 15 k, le-leb b 15 l) (refl, g ∙ rest (x ∷ (y ∷ s)) 2)

-- ---- an escape
pub escape_none : (s : List ℕ) → length s < 1 → Escaped s (escape_of s) None
unfolding escape_of
escape_none [] e = tt
escape_none (c ∷ s) e = absurd (omega arith)

escape_at : (s : List ℕ) (k : ℕ) → 1 ≤ length s → get_or s 0 0 ≡ k → escape_of s ≡ escape_of (k ∷ drop 1 s)
escape_at [] k h e = absurd (omega arith)
escape_at (c ∷ s) k h e = ap (λ (x : ℕ). escape_of (x ∷ s)) e

pub escape_byte : (s : List ℕ) (k x : ℕ) (t : Bor (List ℕ)) → 1 ≤ length s → get_or s 0 0 ≡ k → escape_of (k ∷ drop 1 s) ≡ Some (x, 1)
    → t.now ≡ take (length s - 1) (drop 1 s) → Escaped s (escape_of s) (Some (x, t))
escape_byte s k x t h e f g = subst (λ (p : Option (ℕ × ℕ)). Escaped s p (Some (x, t))) (sym (escape_at s k h e ∙ f)) (refl, g ∙ rest s 1)

pub escape_hex : (s : List ℕ) (r : Option (ℕ × Bor (List ℕ))) → 1 ≤ length s → get_or s 0 0 ≡ 120
    → Escaped (120 ∷ take (length s - 1) (drop 1 s)) (hex_escape (take (length s - 1) (drop 1 s))) r → Escaped s (escape_of s) r
unfolding escape_of
escape_hex [] r h e f = absurd (omega arith)
escape_hex (c ∷ s) r h e f =
    subst (λ (b : ℕ). Escaped (b ∷ s) (escape_of (b ∷ s)) r) (sym e) (subst (λ (t : List ℕ). Escaped (120 ∷ t) (hex_escape t) r) (rest (c ∷ s) 1) f)

pub escape_other : (s : List ℕ) → 1 ≤ length s → (get_or s 0 0 ≡ 92 → ⊥) → (get_or s 0 0 ≡ 115 → ⊥) → (get_or s 0 0 ≡ 116 → ⊥)
    → (get_or s 0 0 ≡ 110 → ⊥) → (get_or s 0 0 ≡ 114 → ⊥) → (get_or s 0 0 ≡ 120 → ⊥) → Escaped s (escape_of s) None
unfolding escape_of
escape_other [] h a b c d e f = absurd (omega arith)
escape_other (x ∷ s) h a b c d e f = rw (ne_eqb x 92 a, ne_eqb x 115 b, ne_eqb x 116 c, ne_eqb x 110 d, ne_eqb x 114 e, ne_eqb x 120 f) tt

-- an escape has at most k bytes after its backslash
abbrev pub UsedIn : Option (ℕ × ℕ) → ℕ → Type 0
UsedIn (Some e) k = e.1 ≤ k
UsedIn None k = Unit

used_cond : (t : Bool) (p q : Option (ℕ × ℕ)) (k : ℕ) → UsedIn p k → UsedIn q k → UsedIn (cond t p q) k
used_cond true p q k a b = a
used_cond false p q k a b = b

used_hex : (s : List ℕ) → UsedIn (hex_escape s) (suc (length s))
unfolding hex_escape
used_hex [] = tt
used_hex (a ∷ []) = tt
used_hex (a ∷ (b ∷ s)) = used_cond (leb (high_of a) 15 && leb (digit_of b) 15) _ _ _ (omega arith) tt

pub used : (s : List ℕ) → UsedIn (escape_of s) (length s)
unfolding escape_of
used [] = tt
used (c ∷ s) =
    used_cond (eqb c 92) _ _ _ (omega arith)
    (used_cond (eqb c 115) _ _ _ (omega arith)
    (used_cond (eqb c 116) _ _ _ (omega arith)
    (used_cond (eqb c 110) _ _ _ (omega arith)
    (used_cond (eqb c 114) _ _ _ (omega arith) (used_cond (eqb c 120) _ _ _ (used_hex s) tt)))))

-- ---- undoing, byte by byte
each_skip : (n : ℕ) (s : List ℕ) → undo_each n s ≡ undo_each 0 (drop n s)
unfolding undo_each
each_skip zero s = refl
each_skip (suc n) [] = refl
each_skip (suc n) (b ∷ s) = each_skip n s

pub each_end : (s : List ℕ) → length s < 1 → undo_each 0 s ≡ []
unfolding undo_each
each_end [] h = refl
each_end (b ∷ t) h = absurd (omega arith)

-- the first byte is no backslash
pub each_plain : (s : List ℕ) → 1 ≤ length s → (get_or s 0 0 ≡ 92 → ⊥) → undo_each 0 s ≡ Some (get_or s 0 0) ∷ undo_each 0 (take (length s - 1) (drop 1 s))
unfolding undo_each
each_plain [] h e = absurd (omega arith)
each_plain (b ∷ t) h e = go (eqb b 92) (ne_eqb b 92 e) ∙ ap (λ (u : List ℕ). Some b ∷ undo_each 0 u) (sym (rest (b ∷ t) 1))
  where
    go : (q : Bool) → q ≡ false → elim q [ true ↦ escaped_first (escape_of t) (λ n. undo_each n t) | false ↦ Some b ∷ undo_each 0 t ] ≡ Some b ∷ undo_each 0 t
    go true e = absurd (true≢false e)
    go false e = refl

-- it is one: r is the escape after it
first_byte : (u : List ℕ) (p : Option (ℕ × ℕ)) (x : ℕ) (t : Bor (List ℕ)) → Escaped u p (Some (x, t)) → escaped_first p (λ n. undo_each n u) ≡ Some x ∷ undo_each 0 t.now
first_byte u (Some e) x t h =
    ap (λ (y : ℕ). Some y ∷ undo_each e.1 u) (sym h.0) ∙ ap (λ (l : List (Option ℕ)). Some x ∷ l) (each_skip e.1 u ∙ ap (undo_each 0) (sym h.1))
first_byte u None x t h = absurd h

first_broken : (u : List ℕ) (p : Option (ℕ × ℕ)) → Escaped u p None → escaped_first p (λ n. undo_each n u) ≡ None ∷ undo_each 0 []
unfolding undo_each
first_broken u (Some e) h = absurd h
first_broken u None h = refl

module _ (s : List ℕ) (h : 1 ≤ length s) (e : get_or s 0 0 ≡ 92) (r : Option (ℕ × Bor (List ℕ))) (f : Escaped (take (length s - 1) (drop 1 s)) (escape_of (take (length s - 1) (drop 1 s))) r) where
  slash : undo_each 0 s ≡ escaped_first (escape_of (take (length s - 1) (drop 1 s))) (λ n. undo_each n (take (length s - 1) (drop 1 s)))
  unfolding undo_each
  slash = starts s h e
    where
      here : (b : ℕ) (t : List ℕ) (q : Bool) → q ≡ true → elim q [ true ↦ escaped_first (escape_of t) (λ n. undo_each n t) | false ↦ Some b ∷ undo_each 0 t ] ≡ escaped_first (escape_of t) (λ n. undo_each n t)
      here b t true e = refl
      here b t false e = absurd (false≢true e)

      starts : (v : List ℕ) → 1 ≤ length v → get_or v 0 0 ≡ 92 → undo_each 0 v ≡ escaped_first (escape_of (take (length v - 1) (drop 1 v))) (λ n. undo_each n (take (length v - 1) (drop 1 v)))
      starts [] h e = absurd (omega arith)
      starts (b ∷ t) h e = here b t (eqb b 92) (eq-eqb b 92 e) ∙ ap (λ (w : List ℕ). escaped_first (escape_of w) (λ n. undo_each n w)) (sym (rest (b ∷ t) 1))

  pub each_escape : (x : ℕ) (t : Bor (List ℕ)) → r ≡ Some (x, t) → undo_each 0 s ≡ Some x ∷ undo_each 0 t.now
  each_escape x t g = slash ∙ first_byte _ _ x t (subst (λ (q : Option (ℕ × Bor (List ℕ))). Escaped (take (length s - 1) (drop 1 s)) (escape_of (take (length s - 1) (drop 1 s))) q) g f)

  pub each_broken : r ≡ None → undo_each 0 s ≡ None ∷ undo_each 0 []
  each_broken g = slash ∙ first_broken _ _ (subst (λ (q : Option (ℕ × Bor (List ℕ))). Escaped (take (length s - 1) (drop 1 s)) (escape_of (take (length s - 1) (drop 1 s))) q) g f)

pub fewer : {x : Option ℕ} {s t : List (Option ℕ)} → s ≡ x ∷ t → length t < length s
fewer e = omega (arith, ap length e)

-- all of them as the text that the word stands for
gathered : List (Option ℕ) → Plain
gathered [] = text []
gathered (None ∷ l) = broken
gathered (Some b ∷ l) = before b (gathered l)

gathered_escape : (p : Option (ℕ × ℕ)) (k : ℕ → List (Option ℕ)) (u : ℕ → Plain) → ((n : ℕ) → u n ≡ gathered (k n)) → on_escape p (λ x n. before x (u n)) ≡ gathered (escaped_first p k)
unfolding gathered
gathered_escape (Some e) k u h = ap (before e.0) (h e.1)
gathered_escape None k u h = refl

undo_is : (k : ℕ) (s : List ℕ) → undo k s ≡ gathered (undo_each k s)
unfolding undo undo_each gathered
undo_is k [] = refl
undo_is (suc k) (b ∷ s) = undo_is k s
undo_is zero (b ∷ s) = go (λ n. undo_is n s) (eqb b 92)
  where
    go : ((n : ℕ) → undo n s ≡ gathered (undo_each n s)) → (q : Bool) → elim q [ true ↦ on_escape (escape_of s) (λ x n. before x (undo n s)) | false ↦ before b (undo 0 s) ]
        ≡ gathered (elim q [ true ↦ escaped_first (escape_of s) (λ n. undo_each n s) | false ↦ Some b ∷ undo_each 0 s ])
    go h true = gathered_escape (escape_of s) (λ n. undo_each n s) (λ n. undo n s) h
    go h false = ap (before b) (h 0)

before_plain : (b : ℕ) (p : Plain) → is_plain (before b p) ≡ is_plain p
before_plain b (text t) = refl
before_plain b broken = refl

-- the word is plain where each of them is a byte
all_plain : (l : List (Option ℕ)) → list_all is_some l ≡ is_plain (gathered l)
unfolding gathered
all_plain [] = refl
all_plain (None ∷ l) = refl
all_plain (Some b ∷ l) = all_plain l ∙ sym (before_plain b (gathered l))

pub plain_each : (s : List ℕ) → list_all is_some (undo_each 0 s) ≡ is_plain (plain s)
unfolding plain
plain_each s = all_plain (undo_each 0 s) ∙ ap is_plain (sym (undo_is 0 s))

-- where an escape is invalid, nothing was written
undone_none : (s : List ℕ) → is_plain (plain s) ≡ false → undone s ≡ []
unfolding undone
undone_none s q = go (plain s) q
  where
    go : (p : Plain) → is_plain p ≡ false → text_of p ≡ []
    go (text t) e = absurd (true≢false e)
    go broken e = refl

-- a word without a backslash is its own text
bare : (s : List ℕ) → list_any (λ (y : ℕ). eqb y 92) s ≡ false → undo 0 s ≡ text s
unfolding undo
bare [] e = refl
bare (b ∷ s) e = go (bare s) (eqb b 92) e
  where
    go : (list_any (λ (y : ℕ). eqb y 92) s ≡ false → undo 0 s ≡ text s) → (q : Bool) → (q || list_any (λ (y : ℕ). eqb y 92) s) ≡ false
        → elim q [ true ↦ on_escape (escape_of s) (λ x n. before x (undo n s)) | false ↦ before b (undo 0 s) ] ≡ text (b ∷ s)
    go h true e = absurd (true≢false e)
    go h false e = ap (before b) (h e)

pub bare_plain : (s : List ℕ) → list_any (λ (y : ℕ). eqb y 92) s ≡ false → is_plain (plain s) ≡ true
unfolding plain
bare_plain s e = ap is_plain (bare s e)

pub bare_text : (s : List ℕ) → list_any (λ (y : ℕ). eqb y 92) s ≡ false → undone s ≡ s
unfolding undone plain
bare_text s e = ap text_of (bare s e)

pub over_undone_none : (s : List ℕ) (o : Space) → is_plain (plain s) ≡ false → o ≡ over (undone s) o
over_undone_none s o q = sym (over_none o) ∙ sym (ap (λ (t : List ℕ). over t o) (undone_none s q))

-- the bytes that they are
gathered_bytes : (l : List (Option ℕ)) → is_plain (gathered l) ≡ true → text_of (gathered l) ≡ flat_map option_to_list l
unfolding gathered
gathered_bytes [] e = refl
gathered_bytes (None ∷ l) e = absurd (false≢true e)
gathered_bytes (Some b ∷ l) e = go (gathered l) (gathered_bytes l) e
  where
    go : (p : Plain) → (is_plain p ≡ true → text_of p ≡ flat_map option_to_list l) → is_plain (before b p) ≡ true → text_of (before b p) ≡ b ∷ flat_map option_to_list l
    go (text t) h e = ap (λ (u : List ℕ). b ∷ u) (h e)
    go broken h e = absurd (false≢true e)

pub undone_each : (s : List ℕ) → is_plain (plain s) ≡ true → undone s ≡ flat_map option_to_list (undo_each 0 s)
unfolding undone plain
undone_each s e = ap text_of (undo_is 0 s) ∙ gathered_bytes (undo_each 0 s) (sym (ap is_plain (undo_is 0 s)) ∙ e)

-- from the start of lent bytes on
pub undid : (s old : List ℕ) (o out : Space) → o.bytes.now ≡ old → o.at ≡ 0 → out ≡ over (undone s) o → Undid s old out.bytes.now out.at
undid s old o out b z e = let h = whole (over_lent (undone s) old o out b z e) in record { answer = h.0; bytes = h.1 }
