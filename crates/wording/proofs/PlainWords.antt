-- A line's escapes are all valid exactly when those of each of its words are, since no escape contains a space.
use Prim.Native.Nat.{ℕ, zero, suc, ◌≤◌}
use mathlib.Core.Path.{◌≡◌, refl, ap, sym, ◌∙◌}
use mathlib.Core.List.{List, [], ◌∷◌}
use mathlib.Core.Bool.{Bool, true, false, cond, ◌&&◌}
use native.Mathlib.Omega.{arith}
use lib.ListN.{length}
use lib.Dec.{eqb, leb}
use borrow.Author.Tests.{eqb-true}
use Rattle.squares.proofs.Bools.{and_left, and_right}
use Rattle.texts.specs.Bytes.{cons_head, parts_at, up_to, after_or, after_first}
use Rattle.texts.proofs.ListLaws.{each}
use Rattle.wording.specs.Numbers.{digit_of}
use Rattle.wording.specs.Words.{first_word, after_word, word_at}
use Rattle.wording.specs.Escapes.{Plain, text, broken, high_of, hex_escape, escape_of, before, on_escape, undo, plain, is_plain}
use Rattle.std.specs.declared.option.Option.{Option}
use Rattle.std.specs.Prelude.{None, Some}
use Rattle.wording.proofs.Escaped.{UsedIn, used}

-- ---- no byte of an escape is a space, so the first word alone has the same escape
space_high : (a : ℕ) (t : Bool) → eqb a 32 ≡ true → (leb (high_of a) 15 && t) ≡ false
unfolding high_of digit_of
space_high a t e = rw (eqb-true a 32 e)

space_low : (b : ℕ) (t : Bool) → eqb b 32 ≡ true → (t && leb (digit_of b) 15) ≡ false
unfolding digit_of
space_low b true e = rw (eqb-true b 32 e)
space_low b false e = refl

hex_word : (s : List ℕ) → hex_escape (up_to 32 s) ≡ hex_escape s
unfolding hex_escape up_to
hex_word [] = refl
hex_word (a ∷ []) = go (eqb a 32)
  where
    go : (t : Bool) → hex_escape (cond t [] (a ∷ [])) ≡ None
    go true = refl
    go false = refl
hex_word (a ∷ (b ∷ s)) = go (eqb a 32) (eqb b 32) refl refl
  where
    go : (t u : Bool) → eqb a 32 ≡ t → eqb b 32 ≡ u → hex_escape (cond t [] (a ∷ cond u [] (b ∷ up_to 32 s))) ≡ hex_escape (a ∷ (b ∷ s))
    go true u e f = rw (space_high a (leb (digit_of b) 15) e)
    go false true e f = rw (space_low b (leb (high_of a) 15) f)
    go false false e f = refl

escape_word : (s : List ℕ) → escape_of (up_to 32 s) ≡ escape_of s
unfolding escape_of up_to
escape_word [] = refl
escape_word (c ∷ s) = go (eqb c 32) refl
  where
    go : (t : Bool) → eqb c 32 ≡ t → escape_of (cond t [] (c ∷ up_to 32 s)) ≡ escape_of (c ∷ s)
    go true e = rw (eqb-true c 32 e)
    go false e = rw (hex_word s)

-- ---- the first word and what comes after it, where the first k bytes belong to an escape
unfoldable Cut : ℕ → List ℕ → Type 0
Cut k s = is_plain (undo k s) ≡ (is_plain (undo k (up_to 32 s)) && is_plain (undo 0 (after_or [] 32 s)))

cut_before : (b : ℕ) (p q : Plain) (t : Bool) → is_plain p ≡ (is_plain q && t) → is_plain (before b p) ≡ (is_plain (before b q) && t)
cut_before b (text u) (text v) t e = e
cut_before b (text u) broken t e = e
cut_before b broken (text v) t e = e
cut_before b broken broken t e = e

cut_space : (b : ℕ) (s : List ℕ) → eqb b 32 ≡ true → is_plain (undo 0 (b ∷ s)) ≡ is_plain (undo 0 s)
unfolding undo
cut_space b s e = ap (λ (x : ℕ). is_plain (undo 0 (x ∷ s))) (eqb-true b 32 e) ∙ cut_before 32 (undo 0 s) (text []) (is_plain (undo 0 s)) refl

module _ (b : ℕ) (s : List ℕ) (ih : (k : ℕ) → k ≤ length (up_to 32 s) → Cut k s) where
  cut_escape : (x : Option (ℕ × ℕ)) → UsedIn x (length (up_to 32 s))
      → is_plain (on_escape x (λ c n. before c (undo n s))) ≡ (is_plain (on_escape x (λ c n. before c (undo n (up_to 32 s)))) && is_plain (undo 0 (after_or [] 32 s)))
  unfolding Cut
  cut_escape (Some e) h = cut_before e.0 (undo e.1 s) (undo e.1 (up_to 32 s)) _ (ih e.1 h)
  cut_escape None h = refl

  cut_byte : (k : ℕ) → k ≤ suc (length (up_to 32 s)) → is_plain (undo k (b ∷ s)) ≡ (is_plain (undo k (b ∷ up_to 32 s)) && is_plain (undo 0 (after_or [] 32 s)))
  unfolding Cut undo
  cut_byte (suc k) h = ih k (omega arith)
  cut_byte zero h = go (eqb b 92)
    where
      go : (t : Bool)
          → is_plain (elim t [ true ↦ on_escape (escape_of s) (λ x n. before x (undo n s)) | false ↦ before b (undo 0 s) ])
          ≡ (is_plain (elim t [ true ↦ on_escape (escape_of (up_to 32 s)) (λ x n. before x (undo n (up_to 32 s))) | false ↦ before b (undo 0 (up_to 32 s)) ])
          && is_plain (undo 0 (after_or [] 32 s)))
      go true = rw (← escape_word s) (cut_escape (escape_of (up_to 32 s)) (used (up_to 32 s)))
      go false = cut_before b (undo 0 s) (undo 0 (up_to 32 s)) _ (ih 0 (omega arith))

cut : (s : List ℕ) (k : ℕ) → k ≤ length (up_to 32 s) → Cut k s
unfolding Cut undo up_to after_or
cut [] k h = refl
cut (b ∷ s) k h = go (cut s) (eqb b 32) refl k h
  where
    go : ((k : ℕ) → k ≤ length (up_to 32 s) → Cut k s) → (t : Bool) → eqb b 32 ≡ t → (k : ℕ) → k ≤ length (cond t [] (b ∷ up_to 32 s))
        → is_plain (undo k (b ∷ s)) ≡ (is_plain (undo k (cond t [] (b ∷ up_to 32 s))) && is_plain (undo 0 (cond t s (after_or [] 32 s))))
    go ih true e zero l = cut_space b s e
    go ih true e (suc k) l = absurd (omega arith)
    go ih false e k l = cut_byte b s ih k l

-- a line is plain exactly when its first word and what comes after that are plain
pub plain_cut : (s : List ℕ) → is_plain (plain s) ≡ (is_plain (plain (first_word s)) && is_plain (plain (after_word s)))
unfolding Cut plain first_word after_word after_first
plain_cut s = cut s 0 (omega arith)

pub plain_first : (s : List ℕ) → is_plain (plain s) ≡ true → is_plain (plain (first_word s)) ≡ true
plain_first s h = and_left (is_plain (plain (first_word s))) _ (sym (plain_cut s) ∙ h)

pub plain_after : (s : List ℕ) → is_plain (plain s) ≡ true → is_plain (plain (after_word s)) ≡ true
plain_after s h = and_right (is_plain (plain (first_word s))) _ (sym (plain_cut s) ∙ h)

-- each word of a plain line is plain
pub plain_word : (k : ℕ) (s : List ℕ) → is_plain (plain s) ≡ true → is_plain (plain (word_at k s)) ≡ true
unfolding word_at
plain_word zero s h = plain_first s h
plain_word (suc k) s h = plain_word k (after_word s) (plain_after s h)

-- ---- all words
heads : (b : ℕ) (s : List ℕ) → cons_head b (parts_at 32 s) ≡ (b ∷ up_to 32 s) ∷ parts_at 32 (after_or [] 32 s)
unfolding parts_at cons_head up_to after_or
heads b [] = refl
heads b (c ∷ s) = go (eqb c 32) (heads c s)
  where
    go : (t : Bool) → cons_head c (parts_at 32 s) ≡ (c ∷ up_to 32 s) ∷ parts_at 32 (after_or [] 32 s)
        → cons_head b (cond t ([] ∷ parts_at 32 s) (cons_head c (parts_at 32 s))) ≡ (b ∷ cond t [] (c ∷ up_to 32 s)) ∷ parts_at 32 (cond t s (after_or [] 32 s))
    go true e = refl
    go false e = ap (cons_head b) e

abbrev all_plain : List (List ℕ) → Bool
all_plain l = each (λ (w : List ℕ). is_plain (plain w)) l

all_cut : (s : List ℕ) → all_plain (parts_at 32 s) ≡ (is_plain (plain (up_to 32 s)) && all_plain (parts_at 32 (after_or [] 32 s)))
unfolding parts_at up_to after_or each plain undo
all_cut [] = refl
all_cut (b ∷ s) = go (eqb b 32)
  where
    go : (t : Bool) → all_plain (cond t ([] ∷ parts_at 32 s) (cons_head b (parts_at 32 s))) ≡ (is_plain (plain (cond t [] (b ∷ up_to 32 s))) && all_plain (parts_at 32 (cond t s (after_or [] 32 s))))
    go true = refl
    go false = ap all_plain (heads b s)

all_from : (s : List ℕ) → is_plain (plain (after_or [] 32 s)) ≡ all_plain (parts_at 32 (after_or [] 32 s)) → is_plain (plain s) ≡ all_plain (parts_at 32 s)
unfolding first_word after_word after_first
all_from s e = plain_cut s ∙ ap (λ (x : Bool). is_plain (plain (up_to 32 s)) && x) e ∙ sym (all_cut s)

all_after : (s : List ℕ) → is_plain (plain (after_or [] 32 s)) ≡ all_plain (parts_at 32 (after_or [] 32 s))
unfolding parts_at after_or each plain undo
all_after [] = refl
all_after (b ∷ s) = go (eqb b 32) (all_after s)
  where
    go : (t : Bool) → is_plain (plain (after_or [] 32 s)) ≡ all_plain (parts_at 32 (after_or [] 32 s))
        → is_plain (plain (cond t s (after_or [] 32 s))) ≡ all_plain (parts_at 32 (cond t s (after_or [] 32 s)))
    go true e = all_from s e
    go false e = e

-- a line is plain exactly when each of its words is
pub plain_words : (s : List ℕ) → is_plain (plain s) ≡ each (λ (w : List ℕ). is_plain (plain w)) (parts_at 32 s)
plain_words s = all_from s (all_after s)
