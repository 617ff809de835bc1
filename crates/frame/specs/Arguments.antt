-- Arguments joined by single spaces.
use Rattle.std.specs.Prelude.{ℕ, ◌≤◌, ◌<◌, ◌≡◌, List, ◌∷◌, ◌++◌, length, drop, Option, Some, None, Result, Ok, Err}
use Prim.Native.Char.{code}
use Rattle.texts.specs.Bytes.{joined}
use Rattle.frame.specs.declared.arguments.TooLong.{TooLong}

-- what a word that is not the first adds to the line: a space and its bytes
abbrev pub next_word : List ℕ → List ℕ
next_word w = code " " ∷ w

-- the bytes have room
abbrev pub WordIn : List ℕ → Result (Option ℕ) TooLong → Type 0
WordIn s (Ok (Some n)) = n ≤ length s
WordIn s (Ok None) = Unit
WordIn s (Err e) = Unit

-- the new buffer starts with one or more words joined by single spaces; the bytes after them are those of the old
-- buffer, and there is at least one
pub record Joined (old new : List ℕ) (n : ℕ) : Type 0 where
  pub words : List (List ℕ)
  pub some : 0 < length words
  pub place : n ≡ length (joined (code " ") words)
  pub free : n < length old
  pub bytes : new ≡ joined (code " ") words ++ drop n old

abbrev pub GivenIn : List ℕ → List ℕ → Result (Option ℕ) TooLong → Type 0
GivenIn old new (Ok (Some n)) = Joined old new n
GivenIn old new (Ok None) = new ≡ old
GivenIn old new (Err e) = Unit
