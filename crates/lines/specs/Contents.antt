-- How many bytes of answers there may be, and what a read adds.
use Rattle.std.specs.Prelude.{ℕ, ◌≡◌, List, ◌++◌, length, Option, Result, Ok, Err}
use Rattle.std.specs.Io.KnownBytes.{Consumes, Keeps, IsAtEnd}
use Rattle.frame.specs.declared.output.Failure.{Failure}
use Rattle.frame.specs.declared.output.Failure.TheVariants as failure

abbrev pub output_size : ℕ
output_size = 1572864

-- a read added n bytes, those that it took from the reader; no byte is the end of the input
pub record Grew (left after : Option (List ℕ)) (old new : List ℕ) (n : ℕ) : Type 0 where
  pub piece : List ℕ
  pub grown : new ≡ old ++ piece
  pub count : length piece ≡ n
  pub taken : Consumes left after piece
  pub end : n ≡ 0 → IsAtEnd after

-- a read that failed took nothing; no write failed
abbrev pub ReadTo : Option (List ℕ) → Option (List ℕ) → List ℕ → List ℕ → Result ℕ Failure → Type 0
ReadTo left after old new (Ok n) = Grew left after old new n
ReadTo left after old new (Err failure.Read) = (new ≡ old) × Keeps left after
ReadTo left after old new (Err failure.Write) = ⊥
