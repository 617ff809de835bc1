-- Texts as lists of bytes: trimming, splitting, joining, and the text of a square (docs/RULES.md, "Square texts").
use denote.Ref.{Bor}
use Rattle.std.specs.Prelude.{◌≡◌, ◌<◌, None, Some, ℕ, suc, ◌+◌, ◌-◌, ◌*◌, ◌/◌, ◌%◌, List, [], ◌∷◌, ◌++◌, Bool, true, false, cond, ◌&&◌, ◌||◌, length, ltb, leb, eqb, Err, Ok, Result}
use Prim.Native.Char.{code}
use Prim.Native.String.{String, [] as []ˢ, ◌∷◌ as ◌∷ˢ◌}
use Rattle.squares.specs.Squares.{is_square}
use Rattle.squares.specs.Refusals.{refusal}
use Rattle.std.specs.declared.option.Option.{Option}
use Rattle.squares.specs.declared.refusal.Refusal.{Refusal}

-- the bytes of an ASCII text
abbrev pub bytes : String → List ℕ
bytes []ˢ = []
bytes (c ∷ˢ s) = code c ∷ bytes s

unfoldable pub ascii : List ℕ → Bool
ascii [] = true
ascii (b ∷ s) = leb b 127 && ascii s

-- how many bytes a FEN, Hub, square or move text may have
abbrev pub longest_text : ℕ
longest_text = 4096

-- at most so many bytes, none above 127; every reader refuses other texts with 1
unfoldable pub readable : ℕ → List ℕ → Bool
readable limit s = leb (length s) limit && ascii s

-- a blank is one of the bytes 9 to 13 and 32
unfoldable pub blank : ℕ → Bool
blank b = (leb 9 b && leb b 13) || eqb b 32

-- the byte c itself
unfoldable pub is : ℕ → ℕ → Bool
is c b = eqb b c

-- whether s contains c
unfoldable pub holds : ℕ → List ℕ → Bool
holds c [] = false
holds c (b ∷ s) = eqb b c || holds c s

-- s without the bytes at its start for which p holds
unfoldable pub trim_start : (ℕ → Bool) → List ℕ → List ℕ
trim_start p [] = []
trim_start p (b ∷ s) = cond (p b) (trim_start p s) (b ∷ s)

-- b, then what trimming left of the bytes after it; where that is nothing and p holds for b, b goes too
unfoldable pub keep_end : (ℕ → Bool) → ℕ → List ℕ → List ℕ
keep_end p b [] = cond (p b) [] (b ∷ [])
keep_end p b (x ∷ s) = b ∷ x ∷ s

-- s without the bytes at its end for which p holds
unfoldable pub trim_end : (ℕ → Bool) → List ℕ → List ℕ
trim_end p [] = []
trim_end p (b ∷ s) = keep_end p b (trim_end p s)

-- both
unfoldable pub trim : (ℕ → Bool) → List ℕ → List ℕ
trim p s = trim_end p (trim_start p s)

-- b at the start of the first part
unfoldable pub cons_head : ℕ → List (List ℕ) → List (List ℕ)
cons_head b [] = (b ∷ []) ∷ []
cons_head b (f ∷ fs) = (b ∷ f) ∷ fs

-- the parts of s between the bytes for which p holds; always one part more than there are such bytes
unfoldable pub split_on : (ℕ → Bool) → List ℕ → List (List ℕ)
split_on p [] = [] ∷ []
split_on p (b ∷ s) = let rest = split_on p s in cond (p b) ([] ∷ rest) (cons_head b rest)

-- the parts of s, each ended by c; the last may lack its c, and after a c at the end there is no further part
unfoldable pub parts_at : ℕ → List ℕ → List (List ℕ)
parts_at c [] = []
parts_at c (b ∷ s) = let rest = parts_at c s in cond (eqb b c) ([] ∷ rest) (cons_head b rest)

-- the parts, with c between each two
unfoldable pub joined : ℕ → List (List ℕ) → List ℕ
joined c [] = []
joined c (p ∷ []) = p
joined c (p ∷ (q ∷ ps)) = p ++ c ∷ joined c (q ∷ ps)

-- what comes before the first c; the whole where there is none
unfoldable pub up_to : ℕ → List ℕ → List ℕ
up_to c [] = []
up_to c (b ∷ s) = cond (eqb b c) [] (b ∷ up_to c s)

-- what comes after the first c of s; t where there is none
unfoldable pub after_or : List ℕ → ℕ → List ℕ → List ℕ
after_or t c [] = t
after_or t c (b ∷ s) = cond (eqb b c) s (after_or t c s)

-- the same; the whole where there is none
unfoldable pub after_or_all : ℕ → List ℕ → List ℕ
after_or_all c s = after_or s c s

-- the same; nothing where there is none
unfoldable pub after_first : ℕ → List ℕ → List ℕ
after_first c s = after_or [] c s

unfoldable pub starts_with : ℕ → List ℕ → Bool
starts_with c [] = false
starts_with c (b ∷ s) = eqb b c

-- s without one c at its start
unfoldable pub strip : ℕ → List ℕ → List ℕ
strip c [] = []
strip c (b ∷ s) = cond (eqb b c) s (b ∷ s)

-- ---- the text of a square
unfoldable pub is_digit : ℕ → Bool
is_digit b = leb (code "0") b && leb b (code "9")

-- the square with this number; refusal: 4
unfoldable pub in_range : ℕ → Result ℕ Refusal
in_range n = cond (is_square n) (Ok n) (Err (refusal 4))

-- the square whose number has these two digits; refusal: 4
unfoldable pub number : ℕ → ℕ → Result ℕ Refusal
number tens ones =
    cond (is_digit tens && is_digit ones) (in_range ((tens - code "0") * 10 + (ones - code "0"))) (Err (refusal 4))

-- one or two digits, no sign, value 1 to 50; one digit is read as if a 0 came before it
unfoldable pub read_square : List ℕ → Result ℕ Refusal
read_square [] = Err (refusal 4)
read_square (b ∷ []) = number (code "0") b
read_square (a ∷ (b ∷ [])) = number a b
read_square (a ∷ (b ∷ (c ∷ s))) = Err (refusal 4)

-- the same as an entry; refusals: 1, 4
unfoldable pub from_str_of : List ℕ → Result ℕ Refusal
from_str_of s = cond (readable longest_text s) (read_square s) (Err (refusal 1))

-- a number below 100 in decimal
unfoldable pub digits : ℕ → List ℕ
digits n = cond (ltb n 10) ((code "0" + n) ∷ []) ((code "0" + n / 10) ∷ (code "0" + n % 10) ∷ [])

-- ---- what the code's helpers find

-- where the test computes p, the text t is what `trims` leaves of s
abbrev pub Trims : (ℕ → Bool → Type 0) → ((ℕ → Bool) → List ℕ → List ℕ) → List ℕ → List ℕ → Type 0
Trims test trims s t = (p : ℕ → Bool) → ((b : ℕ) (r : Bool) → test b r → r ≡ p b) → t ≡ trims p s

-- the index of the first byte for which p holds; the length where there is none
unfoldable pub index_of : (ℕ → Bool) → List ℕ → ℕ
index_of p [] = 0
index_of p (b ∷ s) = cond (p b) 0 (suc (index_of p s))

-- r is the index i, where that is below the length n
abbrev pub IsIndex : ℕ → ℕ → Option ℕ → Type 0
IsIndex i n (Some k) = (k ≡ i) × (i < n)
IsIndex i n None = i ≡ n

-- r is what comes after the first c of s, where s contains c
abbrev pub IsAfter : ℕ → List ℕ → Option (Bor (List ℕ)) → Type 0
IsAfter c s (Some t) = (holds c s ≡ true) × (t.now ≡ after_first c s)
IsAfter c s None = holds c s ≡ false
