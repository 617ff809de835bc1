-- What the writes of a turn came to.
use Rattle.std.specs.Prelude.{ℕ, ◌≤◌, ◌≡◌, List, length, Option, Result, Ok, Err}
use Rattle.std.specs.Io.KnownBytes.{Appends}
use Rattle.requests.specs.Requests.{answer_of}
use Rattle.line_laws.specs.Lines.{whole_of}
use Rattle.line_laws.specs.Runs.{Writes, CutWrites}
use Rattle.frame.specs.declared.output.Failure.{Failure}
use Rattle.frame.specs.declared.output.Failure.TheVariants as failure

-- the answers to all whole lines of s were written, or a write failed
abbrev pub SentOf : List ℕ → Result ℕ Failure → Type 0
SentOf s (Ok n) = (n ≤ length s) × (n ≡ whole_of s)
SentOf s (Err failure.Read) = ⊥
SentOf s (Err failure.Write) = Unit

-- what the writer got, where its bytes are known: the writes of the turn
pub record AllSent (old new : Option (List ℕ)) (s : List ℕ) : Type 0 where
  pub written : List ℕ
  pub writes : Writes answer_of s 0 written
  pub sent : Appends old new written

-- or those up to one that failed, and a beginning of that one
pub record CutSent (old new : Option (List ℕ)) (s : List ℕ) : Type 0 where
  pub written : List ℕ
  pub writes : CutWrites answer_of s 0 written
  pub sent : Appends old new written

abbrev pub SentTo : Option (List ℕ) → Option (List ℕ) → List ℕ → Result ℕ Failure → Type 0
SentTo old new s (Ok n) = AllSent old new s
SentTo old new s (Err e) = CutSent old new s
