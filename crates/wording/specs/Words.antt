-- The words of a line: every single space ends a word, so two spaces have an empty word between them.
use Rattle.std.specs.Prelude.{ℕ, zero, suc, ◌+◌, List, [], ◌∷◌, Bool, true, false, cond, ◌&&◌, eqb}
use Prim.Native.Char.{code}
use Rattle.texts.specs.Bytes.{up_to, after_first}

-- whether two texts are equal
unfoldable pub same_text : List ℕ → List ℕ → Bool
same_text [] [] = true
same_text [] (b ∷ t) = false
same_text (a ∷ s) [] = false
same_text (a ∷ s) (b ∷ t) = eqb a b && same_text s t

-- what comes before the first space; the whole where there is none
unfoldable pub first_word : List ℕ → List ℕ
first_word s = up_to (code " ") s

-- what comes after it; nothing where there is none
unfoldable pub after_word : List ℕ → List ℕ
after_word s = after_first (code " ") s

-- the word of index k, from 0 on; empty where there are fewer words
unfoldable pub word_at : ℕ → List ℕ → List ℕ
word_at zero s = first_word s
word_at (suc k) s = word_at k (after_word s)

-- how many spaces there are; a line has one word more
unfoldable pub blanks_in : List ℕ → ℕ
blanks_in [] = 0
blanks_in (b ∷ s) = cond (eqb b (code " ")) 1 0 + blanks_in s
