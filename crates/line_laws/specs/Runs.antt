-- A run of a program: it reads pieces one after the other, and each write is the start of its output buffer after a
-- step. A run stops where a read or a write fails: it does nothing more after that.
use Rattle.std.specs.Prelude.{ℕ, ◌≡◌, List, [], ◌∷◌, ◌++◌, take, drop}
use Rattle.line_laws.specs.Lines.{whole_of, carried_of, last_answer}
use Rattle.line_laws.specs.Steps.{Answered}

-- where a run stops: at a read, at a write of a turn, or at the write of the last answer
pub data Fault : Type 0 where
  read : Fault
  write : Fault
  last : Fault

-- how the input that was read may go on: in any way, but not after its end
abbrev pub Follows : Fault → List ℕ → Type 0
Follows read x = Unit
Follows write x = Unit
Follows last x = x ≡ []

-- t begins with s
pub record Begins (s t : List ℕ) : Type 0 where
  pub later : List ℕ
  pub joined : t ≡ s ++ later

module _ (step : List ℕ → List ℕ) where
  -- ---- the writes of one turn, from a place of the bytes s on

  -- a step, then the writes from where it ended, until no whole line is left
  pub data Writes (s : List ℕ) : ℕ → List ℕ → Type 0 where
    none : {from : ℕ} → whole_of (drop from s) ≡ 0 → Writes s from []
    more : {from to : ℕ} {rest : List ℕ} (put : ℕ) (out : List ℕ) → Answered step s from out to put → Writes s to rest → Writes s from (take put out ++ rest)

  -- the same, where one write fails: it writes at most the first n of its bytes, and nothing is written after it
  pub data CutWrites (s : List ℕ) : ℕ → List ℕ → Type 0 where
    fails : {from to : ℕ} (n put : ℕ) (out : List ℕ) → Answered step s from out to put → CutWrites s from (take n (take put out))
    more : {from to : ℕ} {rest : List ℕ} (put : ℕ) (out : List ℕ) → Answered step s from out to put → CutWrites s to rest → CutWrites s from (take put out ++ rest)

  -- ---- the writes of a run, from the bytes that were carried over and the pieces that it still reads
  module _ (most : ℕ) where
    -- a whole run
    pub data Run : List ℕ → List (List ℕ) → List ℕ → Type 0 where
      end : {carried : List ℕ} (put : ℕ) (out : List ℕ) → take put out ≡ last_answer step carried → Run carried [] (take put out)
      turn : {carried piece written rest : List ℕ} {pieces : List (List ℕ)} (kept : ℕ) (buffer : List ℕ) → Writes (carried ++ piece) 0 written
          → take kept buffer ≡ carried_of most (carried ++ piece) → Run (take kept buffer) pieces rest → Run carried (piece ∷ pieces) (written ++ rest)

    -- a run that stops
    pub data Stopped : Fault → List ℕ → List (List ℕ) → List ℕ → Type 0 where
      -- nothing is written after the read that fails: the line that is not whole yet has no answer
      at_read : {carried : List ℕ} → Stopped read carried [] []
      at_write : {carried piece written : List ℕ} → CutWrites (carried ++ piece) 0 written → Stopped write carried (piece ∷ []) written
      at_last : {carried : List ℕ} (n put : ℕ) (out : List ℕ) → take put out ≡ last_answer step carried → Stopped last carried [] (take n (take put out))
      turn : {f : Fault} {carried piece written rest : List ℕ} {pieces : List (List ℕ)} (kept : ℕ) (buffer : List ℕ) → Writes (carried ++ piece) 0 written
          → take kept buffer ≡ carried_of most (carried ++ piece) → Stopped f (take kept buffer) pieces rest → Stopped f carried (piece ∷ pieces) (written ++ rest)
