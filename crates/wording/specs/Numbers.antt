-- Numbers that are read from words: unsigned, signed and hexadecimal ones as Rust reads them (an optional sign, one
-- digit or more, leading zeros allowed, at most the type's limit), and strict ones, which have exactly one text.
use Rattle.std.specs.Prelude.{◌≡◌, ℕ, ◌+◌, ◌-◌, ◌*◌, ◌^◌, ◌≤◌, ◌<◌, List, [], ◌∷◌, Bool, true, false, cond, ◌&&◌, eqb, leb, ltb, pos, neg_ℤ, None, Some, ℤ}
use Prim.Native.Char.{code}
use Rattle.texts.specs.Bytes.{strip}
use Rattle.std.specs.declared.option.Option.{Option}

-- a number that was read is at most k
abbrev pub AtMost : ℕ → Option ℕ → Type 0
AtMost k (Some n) = n ≤ k
AtMost k None = Unit

-- the value of a hexadecimal digit in either case; 16 where the byte is no digit
unfoldable pub digit_of : ℕ → ℕ
digit_of b =
    cond (leb (code "0") b && leb b (code "9")) (b - code "0")
    (cond (leb (code "A") b && leb b (code "F")) (b - code "A" + 10)
    (cond (leb (code "a") b && leb b (code "f")) (b - code "a" + 10) 16))

-- r is the value v of a digit of this base; there is none where v is no digit of it
abbrev pub IsDigit : ℕ → ℕ → Option ℕ → Type 0
IsDigit base v (Some d) = (d ≡ v) × (d < base)
IsDigit base v None = base ≤ v

-- the number v followed by digits of this base; no value on the way is above the limit
unfoldable pub value_from : ℕ → ℕ → ℕ → List ℕ → Option ℕ
value_from base limit v [] = Some v
value_from base limit v (b ∷ s) =
    let w = v * base + digit_of b in
    cond (ltb (digit_of b) base && leb w limit) (value_from base limit w s) None

-- one digit or more of this base, at most the limit
unfoldable pub number_in : ℕ → ℕ → List ℕ → Option ℕ
number_in base limit [] = None
number_in base limit (b ∷ s) = value_from base limit 0 (b ∷ s)

-- an unsigned number of 32 bits
unfoldable pub unsigned_of : List ℕ → Option ℕ
unsigned_of s = number_in 10 (2 ^ 32 - 1) (strip (code "+") s)

-- whether s starts with a zero and has more bytes
unfoldable pub needless : List ℕ → Bool
needless [] = false
needless (b ∷ []) = false
needless (b ∷ (c ∷ s)) = eqb b (code "0")

-- a number exactly as `decimal` writes it: digits alone, no needless zeros; at most the limit
unfoldable pub given_of : ℕ → List ℕ → Option ℕ
given_of limit s = cond (needless s) None (number_in 10 limit s)

-- s without every 0x at its start
unfoldable pub without_prefix : List ℕ → List ℕ
without_prefix [] = []
without_prefix (a ∷ []) = a ∷ []
without_prefix (a ∷ (b ∷ s)) =
    elim (eqb a (code "0") && eqb b (code "x")) [ true ↦ without_prefix s | false ↦ a ∷ (b ∷ s) ]

-- a set of 64 bits in hexadecimal
unfoldable pub set_of : List ℕ → Option ℕ
set_of s = number_in 16 (2 ^ 64 - 1) (strip (code "+") (without_prefix s))

-- n itself, up to 2 ^ 31 - 1; with its sign changed, down to -2 ^ 31
abbrev pub positive_of : Option ℕ → Option ℤ
positive_of (Some n) = cond (leb n (2 ^ 31 - 1)) (Some (pos n)) None
positive_of None = None

abbrev pub negative_of : Option ℕ → Option ℤ
negative_of (Some n) = cond (leb n (2 ^ 31)) (Some (neg_ℤ (pos n))) None
negative_of None = None

-- a signed number of 32 bits
unfoldable pub signed_of : List ℕ → Option ℤ
signed_of [] = None
signed_of (b ∷ s) =
    cond (eqb b (code "-")) (negative_of (number_in 10 (2 ^ 32 - 1) s))
    (positive_of (number_in 10 (2 ^ 32 - 1) (strip (code "+") (b ∷ s))))
