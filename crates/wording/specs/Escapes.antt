-- Escapes: \\ \s \t \n \r stand for a backslash, space, tab, line feed and carriage return, \xHH for any byte.
use Rattle.std.specs.Prelude.{◌≡◌, ℕ, zero, suc, ◌+◌, ◌*◌, min, List, [], ◌∷◌, Bool, true, false, cond, ◌&&◌, drop, length, eqb, leb, None, Some}
use Prim.Native.Char.{code}
use denote.Ref.{Bor}
use Rattle.texts.specs.Lent.{written}
use Rattle.wording.specs.Numbers.{digit_of}
use Rattle.std.specs.declared.option.Option.{Option}

-- the text that a word stands for, or `broken` where one of its escapes is invalid
pub data Plain : Type 0 where
  text : List ℕ → Plain
  broken : Plain

-- the value of the first of two hexadecimal digits; Rust reads a + there as a sign
unfoldable pub high_of : ℕ → ℕ
high_of b = cond (eqb b (code "+")) 0 (digit_of b)

-- the byte of the two digits after \x; such an escape has 3 bytes after its backslash
unfoldable pub hex_escape : List ℕ → Option (ℕ × ℕ)
hex_escape [] = None
hex_escape (a ∷ []) = None
hex_escape (a ∷ (b ∷ s)) = cond (leb (high_of a) 15 && leb (digit_of b) 15) (Some (high_of a * 16 + digit_of b, 3)) None

-- an escape: s is what comes after its backslash. The byte that the escape stands for, and how many bytes the escape has
-- after its backslash; none where the escape is invalid
unfoldable pub escape_of : List ℕ → Option (ℕ × ℕ)
escape_of [] = None
escape_of (c ∷ s) =
    cond (eqb c (code "\\")) (Some (code "\\", 1))
    (cond (eqb c (code "s")) (Some (code " ", 1))
    (cond (eqb c (code "t")) (Some (9, 1))
    (cond (eqb c (code "n")) (Some (10, 1))
    (cond (eqb c (code "r")) (Some (13, 1))
    (cond (eqb c (code "x")) (hex_escape s) None)))))

-- r is the byte of the escape e at the start of s, and what comes after it
abbrev pub Escaped : List ℕ → Option (ℕ × ℕ) → Option (ℕ × Bor (List ℕ)) → Type 0
Escaped s (Some e) (Some r) = (r.0 ≡ e.0) × (r.1.now ≡ drop e.1 s)
Escaped s (Some e) None = ⊥
Escaped s None (Some r) = ⊥
Escaped s None None = Unit

-- a byte before the text of the rest
abbrev pub before : ℕ → Plain → Plain
before b (text t) = text (b ∷ t)
before b broken = broken

-- k goes on with the byte and the length of a valid escape
abbrev pub on_escape : Option (ℕ × ℕ) → (ℕ → ℕ → Plain) → Plain
on_escape (Some e) k = k e.0 e.1
on_escape None k = broken

-- the text that a word stands for, after its first k bytes, which belong to an escape
unfoldable pub undo : ℕ → List ℕ → Plain
undo k [] = text []
undo (suc k) (b ∷ s) = undo k s
undo zero (b ∷ s) =
    elim (eqb b (code "\\"))
    [ true ↦ on_escape (escape_of s) (λ x n. before x (undo n s)) | false ↦ before b (undo 0 s) ]

-- the text that a word stands for
unfoldable pub plain : List ℕ → Plain
plain s = undo 0 s

-- whether every escape in the word is valid
abbrev pub is_plain : Plain → Bool
is_plain (text t) = true
is_plain broken = false

abbrev pub text_of : Plain → List ℕ
text_of (text t) = t
text_of broken = []

-- the text that the word s stands for; the empty text where an escape in it is invalid
unfoldable pub undone : List ℕ → List ℕ
undone s = text_of (plain s)

-- as much of the text of s as fits was written over the start of the lent bytes o, and r is how many bytes that is
pub record Undid (s o out : List ℕ) (r : ℕ) : Type 0 where
  pub answer : r ≡ min (length (undone s)) (length o)
  pub bytes : out ≡ written (undone s) o
