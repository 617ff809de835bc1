-- The texts of numbers, refusals and bad requests.
use Rattle.std.specs.Prelude.{◌≡◌, ℕ, zero, suc, ◌/◌, List, ◌∷◌, ◌++◌, true, false, ltb, ℤ, pos, negsuc}
use Prim.Native.Char.{code}
use Rattle.io.specs.Digits.{last_digits, IsDigitCount}
use Rattle.squares.specs.Refusals.{number_of, square_of}
use Rattle.squares.specs.declared.refusal.Refusal.{Refusal}
use Rattle.texts.specs.Bytes.{bytes}
use Rattle.texts.specs.Lent.{over}
use Rattle.texts.specs.declared.space.Space.{Space}
use Rattle.wording.specs.declared.output.Flaw.{Flaw}
use Rattle.wording.specs.declared.output.Flaw.TheVariants as flaw

-- ---- numbers

-- how many digits n has in base b, at most f + 1
unfoldable pub places : ℕ → ℕ → ℕ → ℕ
places b zero n = 1
places b (suc f) n = elim (ltb n b) [ true ↦ 1 | false ↦ suc (places b f (n / b)) ]

-- a number of 64 bits in decimal and in hexadecimal, without leading zeros
unfoldable pub decimal : ℕ → List ℕ
decimal n = last_digits 10 (places 10 19 n) n

unfoldable pub hex : ℕ → List ℕ
hex n = last_digits 16 (places 16 15 n) n

-- the 16 hexadecimal digits of a hash
unfoldable pub hash : ℕ → List ℕ
hash n = last_digits 16 16 n

-- the digits of n that were written: at least so many, and no more than n needs
pub record Wide (least n : ℕ) (old new : Space) : Type 0 where
  pub k : ℕ
  pub count : IsDigitCount 16 least n k
  pub written : new ≡ over (last_digits 16 k n) old

unfoldable pub signed : ℤ → List ℕ
signed (pos n) = decimal n
signed (negsuc n) = code "-" ∷ decimal (suc n)

-- ---- refusals and bad requests

-- err, the number of the refusal, its square
unfoldable pub refusal_text : Refusal → List ℕ
refusal_text e = bytes "err " ++ (decimal (number_of e) ++ (code " " ∷ decimal (square_of e)))

-- ! and the number of the refusal
unfoldable pub number_word : Refusal → List ℕ
number_word e = code "!" ∷ decimal (number_of e)

-- what is wrong with a bad request, in one word
unfoldable pub flaw_word : Flaw → List ℕ
flaw_word flaw.Length = bytes "length"
flaw_word flaw.Escape = bytes "escape"
flaw_word flaw.Name = bytes "name"
flaw_word flaw.Words = bytes "words"
flaw_word flaw.Number = bytes "number"
flaw_word flaw.Side = bytes "side"

-- the answer to a bad request
unfoldable pub bad : Flaw → List ℕ
bad f = bytes "bad request: " ++ flaw_word f
