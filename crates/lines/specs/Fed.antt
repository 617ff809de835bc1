-- What is written for an input, and for arguments: the bytes that the reader had left before and has left after, and those
-- that the writer held before and holds after, where these are known.
use Rattle.std.specs.Prelude.{ℕ, ◌≡◌, List, ◌++◌, take, IfSome, Option, Some, None, Result, Ok, Err}
use Rattle.std.specs.Io.KnownBytes.{Appends, Consumes, IsAtEnd}
use Rattle.requests.specs.Requests.{answer_of}
use Rattle.line_laws.specs.Lines.{output_of, whole_lines}
use Rattle.line_laws.specs.Runs.{Begins}
use Rattle.frame.specs.declared.arguments.TooLong.{TooLong}
use Rattle.frame.specs.declared.output.Failure.{Failure}
use Rattle.frame.specs.declared.output.Failure.TheVariants as failure
use Rattle.frame.specs.Arguments.{GivenIn}
use Rattle.frame.specs.Output.{Put}
use Rattle.lines.specs.Given.{given_output}

-- a whole run: all of the input was taken, and the output for it was written
pub record Whole (left after old new : Option (List ℕ)) : Type 0 where
  pub input : List ℕ
  pub taken : Consumes left after input
  pub end : IsAtEnd after
  pub written : Appends old new (output_of answer_of input)

-- a read failed: each whole line that was taken has its answer, and the line that was cut has none
pub record ReadFailed (left after old new : Option (List ℕ)) : Type 0 where
  pub input : List ℕ
  pub taken : Consumes left after input
  pub written : Appends old new (output_of answer_of (whole_lines input))

-- a write failed: a beginning of the output for the whole input was written
pub record WriteFailed (left after old new : Option (List ℕ)) : Type 0 where
  pub input : List ℕ
  pub output : List ℕ
  pub taken : Consumes left after input
  pub written : Appends old new output
  pub begins : IfSome after (λ rest. Begins output (output_of answer_of (input ++ rest)))

abbrev pub FedTo : (left after old new : Option (List ℕ)) → Result (Unit {0}) Failure → Type 0
FedTo left after old new (Ok done) = Whole left after old new
FedTo left after old new (Err failure.Read) = ReadFailed left after old new
FedTo left after old new (Err failure.Write) = WriteFailed left after old new

-- for arguments: these are answered, and nothing is read
abbrev pub RanFor : List ℕ → (left after old new : Option (List ℕ)) → Result (Unit {0}) Failure → Result (Option ℕ) TooLong → Type 0
RanFor line left after old new end (Ok (Some n)) = (after ≡ left) × Put old new (given_output (take n line)) end
RanFor line left after old new end (Ok None) = FedTo left after old new end
RanFor line left after old new end (Err e) = (after ≡ left) × Put old new (given_output line) end

-- what the arguments were, and what was written for them or, without arguments, for the input
pub record Ran (before line : List ℕ) (left after old new : Option (List ℕ)) (end : Result (Unit {0}) Failure) : Type 0 where
  pub arguments : Result (Option ℕ) TooLong
  pub given : GivenIn before line arguments
  pub ran : RanFor line left after old new end arguments
