-- The words of a line one after another: the first, and those of what comes after it.
use Rattle.std.specs.Prelude.{None, Some, slice_get}
use Rattle.std.specs.declared.option.Option.{Option}
use Rattle.std.specs.Option.{option_map, unwrap_or}
use denote.Ref.{Bor}
use Prim.Native.Nat.{ℕ, zero, suc, ◌<◌}
use mathlib.Core.Path.{◌≡◌, refl, ap, ap₂, sym, ◌∙◌}
use mathlib.Core.List.{List, [], ◌∷◌}
use mathlib.Core.Bool.{Bool, true, false}
use native.Mathlib.Omega.{arith}
use lib.Dec.{eqb}
use lib.ListN.{length}
use Rattle.texts.specs.Bytes.{parts_at, up_to, after_or, after_first, cons_head}
use Rattle.wording.specs.Words.{first_word, after_word, word_at}

after_space : (b : ℕ) (t : List ℕ) → eqb b 32 ≡ true → after_word (b ∷ t) ≡ t
unfolding after_word after_first after_or
after_space b t e = rw e

after_other : (b : ℕ) (t : List ℕ) → eqb b 32 ≡ false → after_word (b ∷ t) ≡ after_word t
unfolding after_word after_first after_or
after_other b t e = rw e

step : (b : ℕ) (t : List ℕ) → cons_head b (parts_at 32 t) ≡ (b ∷ first_word t) ∷ parts_at 32 (after_word t) → (q : Bool) → eqb b 32 ≡ q
    → parts_at 32 (b ∷ t) ≡ first_word (b ∷ t) ∷ parts_at 32 (after_word (b ∷ t))
unfolding parts_at first_word up_to
step b t h true e = rw (after_space b t e, e)
step b t h false e = rw (after_other b t e, e) h

heads : (b : ℕ) (t : List ℕ) → cons_head b (parts_at 32 t) ≡ (b ∷ first_word t) ∷ parts_at 32 (after_word t)
unfolding cons_head parts_at first_word up_to after_word after_first after_or
heads b [] = refl
heads b (c ∷ t) = ap (cons_head b) (step c t (heads c t) (eqb c 32) refl)

words_of_lem : (l : List ℕ) → 0 < length l → parts_at 32 l ≡ first_word l ∷ parts_at 32 (after_word l)
words_of_lem [] h = absurd (omega arith)
words_of_lem (b ∷ t) h = step b t (heads b t) (eqb b 32) refl

module _ (l word after : List ℕ) (w : word ≡ first_word l) (a : after ≡ after_word l) (h : 0 < length l) where
  pub words_first : parts_at 32 l ≡ word ∷ parts_at 32 after
  words_first = words_of_lem l h ∙ sym (ap₂ (λ (x y : List ℕ). x ∷ parts_at 32 y) w a)

  pub fewer : length (parts_at 32 after) < length (parts_at 32 l)
  fewer = omega (arith, ap length words_first)

pub words_none : (l : List ℕ) → length l ≡ 0 → parts_at 32 l ≡ []
unfolding parts_at
words_none [] h = refl
words_none (b ∷ t) h = absurd (omega (arith, h))

-- ---- the word of an index
word_none : (k : ℕ) → word_at k [] ≡ []
unfolding word_at first_word after_word up_to after_first after_or
word_none zero = refl
word_none (suc k) = word_none k

indexed : (k : ℕ) (l : List ℕ) → word_at k l ≡ unwrap_or (slice_get (parts_at 32 l) k) []
unfolding word_at
indexed k [] = word_none k ∙ ap (λ (w : List (List ℕ)). unwrap_or (slice_get w k) []) (sym (words_none [] refl))
indexed zero (b ∷ t) = ap (λ (w : List (List ℕ)). unwrap_or (slice_get w 0) []) (sym (words_of_lem (b ∷ t) (omega arith)))
indexed (suc k) (b ∷ t) =
    indexed k (after_word (b ∷ t)) ∙ ap (λ (w : List (List ℕ)). unwrap_or (slice_get w (suc k)) []) (sym (words_of_lem (b ∷ t) (omega arith)))

-- w is what was found at k, and none where there is no word there
pub word_found : (l : List ℕ) (k : ℕ) (r : Option (Bor (List ℕ))) (none w : Bor (List ℕ)) → option_map (λ (x : Bor (List ℕ)). x.now) r ≡ slice_get (parts_at 32 l) k
    → w ≡ unwrap_or r none → none.now ≡ [] → w.now ≡ word_at k l
word_found l k r none w e f n = ap (λ (x : Bor (List ℕ)). x.now) f ∙ go r e ∙ sym (indexed k l)
  where
    go : (r : Option (Bor (List ℕ))) → option_map (λ (x : Bor (List ℕ)). x.now) r ≡ slice_get (parts_at 32 l) k → (unwrap_or r none).now ≡ unwrap_or (slice_get (parts_at 32 l) k) []
    go None e = n ∙ ap (λ (o : Option (List ℕ)). unwrap_or o []) e
    go (Some x) e = ap (λ (o : Option (List ℕ)). unwrap_or o []) e
