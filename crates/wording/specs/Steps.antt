-- What a `for` gives: the words of a line, `Words` of src/words.rt; the bytes of a word, `Undone` of src/escapes.rt.
use Rattle.std.specs.Prelude.{ℕ, zero, suc, List, [], ◌∷◌, true, false, eqb, Option, None, Some}
use Prim.Native.Char.{code}
use Rattle.texts.specs.Bytes.{parts_at}
use Rattle.wording.specs.Escapes.{escape_of}
use Rattle.wording.specs.declared.words.Words.{Words}
use Rattle.wording.specs.declared.escapes.Undone.{Undone}

-- the words that are left: the parts between single spaces; after a space at the end there is no word
abbrev pub words_left : Words → List (List ℕ)
words_left w = parts_at (code " ") w.0.now

-- the byte of an escape, and those of what comes after it
abbrev pub escaped_first : Option (ℕ × ℕ) → (ℕ → List (Option ℕ)) → List (Option ℕ)
escaped_first (Some e) k = Some e.0 ∷ k e.1
escaped_first None k = None ∷ []

-- the bytes that a word stands for, after its first k bytes, which belong to an escape; nothing comes after an invalid escape
unfoldable pub undo_each : ℕ → List ℕ → List (Option ℕ)
undo_each k [] = []
undo_each (suc k) (b ∷ s) = undo_each k s
undo_each zero (b ∷ s) = elim (eqb b (code "\\")) [ true ↦ escaped_first (escape_of s) (λ n. undo_each n s) | false ↦ Some b ∷ undo_each 0 s ]

-- the bytes that are left
abbrev pub undone_left : Undone → List (Option ℕ)
undone_left w = undo_each 0 w.0.now
