-- What the answer of a read means, and what the buffer contains after reads.
use Rattle.std.specs.Prelude.{ℕ, ◌≤◌, ◌<◌, ◌≡◌, List, [], ◌∷◌, ◌++◌, false, length, take, drop, Option, Some, None, Result, Ok, Err}
use Rattle.std.specs.Io.KnownBytes.{Consumes, Keeps, IsAtEnd}
use Rattle.texts.specs.Bytes.{holds}
use Rattle.frame.specs.declared.output.Failure.{Failure}
use Rattle.frame.specs.declared.output.Failure.TheVariants as failure

-- what a read brought, by its answer: an error is a failed read, and nothing else is
abbrev pub came_of : {E : Type 0} → Result ℕ E → Result ℕ Failure
came_of (Ok n) = Ok n
came_of (Err e) = Err failure.Read

-- the bytes have room in the space; where a read fails, no write failed
abbrev pub CameIn : ℕ → Result ℕ Failure → Type 0
CameIn space (Ok n) = n ≤ space
CameIn space (Err failure.Read) = Unit
CameIn space (Err failure.Write) = ⊥

abbrev pub TakenIn : ℕ → Result ℕ Failure → Type 0
TakenIn space r = CameIn space r

-- the first n bytes of the new buffer contain no line feed (10), and the bytes after them are those of the old buffer
pub record LineIn (old new : List ℕ) (n : ℕ) : Type 0 where
  pub fits : n ≤ length new
  pub line : holds 10 (take n new) ≡ false
  pub after : drop n new ≡ drop n old

abbrev pub TakenLine : List ℕ → List ℕ → Result ℕ Failure → Type 0
TakenLine old new (Ok n) = LineIn old new n
TakenLine old new (Err failure.Read) = Unit
TakenLine old new (Err failure.Write) = ⊥

-- ---- the bytes that the reader had left before and has left after, where those are known

-- one read: the first n bytes of the space are what it took; no byte is the end of the input, where nothing is left,
-- unless the space has no byte; a read that failed took nothing
abbrev pub CameFrom : Option (List ℕ) → Option (List ℕ) → List ℕ → Result ℕ Failure → Type 0
CameFrom left after space (Ok n) = Consumes left after (take n space) × (n ≡ 0 → 0 < length space → IsAtEnd after)
CameFrom left after space (Err e) = Keeps left after

-- the read of one byte
abbrev pub SingleFrom : Option (List ℕ) → Option (List ℕ) → Result (Option ℕ) Failure → Type 0
SingleFrom left after (Ok (Some b)) = Consumes left after (b ∷ [])
SingleFrom left after (Ok None) = Keeps left after × IsAtEnd after
SingleFrom left after (Err failure.Read) = Keeps left after
SingleFrom left after (Err failure.Write) = ⊥

-- reads up to the end of the buffer: the first n bytes of the buffer are what was taken, and nothing is left unless the
-- buffer is full; what was taken before a read that failed is in the buffer too
abbrev pub TakenFrom : Option (List ℕ) → Option (List ℕ) → List ℕ → Result ℕ Failure → Type 0
TakenFrom left after buf (Ok n) = Consumes left after (take n buf) × (n < length buf → IsAtEnd after)
TakenFrom left after buf (Err e) = (n : ℕ) × Consumes left after (take n buf)

-- how a line of n bytes ended: a line feed was taken after it, and nothing more; the buffer is full; or nothing is left
pub data LineEnd (left after : Option (List ℕ)) (buf : List ℕ) (n : ℕ) : Type 0 where
  feed : Consumes left after (take n buf ++ (10 ∷ [])) → LineEnd left after buf n
  full : n ≡ length buf → Consumes left after (take n buf) → LineEnd left after buf n
  over : Consumes left after (take n buf) → IsAtEnd after → LineEnd left after buf n

abbrev pub LineFrom : Option (List ℕ) → Option (List ℕ) → List ℕ → Result ℕ Failure → Type 0
LineFrom left after buf (Ok n) = LineEnd left after buf n
LineFrom left after buf (Err e) = (n : ℕ) × Consumes left after (take n buf)
