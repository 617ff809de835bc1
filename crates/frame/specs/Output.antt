-- What a writer got, and how a failure is printed.
use Rattle.std.specs.Prelude.{ℕ, List, take, Result, Ok, Err}
use Rattle.std.specs.declared.option.Option.{Option}
use Rattle.std.specs.Io.KnownBytes.{Appends}
use Rattle.texts.specs.Bytes.{bytes}
use Rattle.frame.specs.declared.output.Failure.{Failure}
use Rattle.frame.specs.declared.output.Failure.TheVariants as failure

-- how a failure is printed
abbrev pub failure_text : Failure → List ℕ
failure_text failure.Read = bytes "a read failed"
failure_text failure.Write = bytes "a write failed"

-- what a write of out adds to the bytes that the writer holds, where those are known: all of out; where it failed, a
-- beginning of out. No read failed
abbrev pub Put : Option (List ℕ) → Option (List ℕ) → List ℕ → Result (Unit {0}) Failure → Type 0
Put old new out (Ok done) = Appends old new out
Put old new out (Err failure.Read) = ⊥
Put old new out (Err failure.Write) = (n : ℕ) × Appends old new (take n out)
