-- One step of a turn answers some whole lines, as many as have room.
use Rattle.std.specs.Prelude.{ℕ, ◌-◌, ◌≤◌, ◌≡◌, List, length, take, drop}
use Rattle.line_laws.specs.Lines.{output_of, whole_of}

-- the bytes of s from a place up to another
abbrev pub between : ℕ → ℕ → List ℕ → List ℕ
between from to s = take (to - from) (drop from s)

-- the lines of s between two places were answered: the first `put` bytes of out are their answers, in order
pub record Answered (step : List ℕ → List ℕ) (s : List ℕ) (from : ℕ) (out : List ℕ) (to put : ℕ) : Type 0 where
  pub onward : from ≤ to
  pub inside : to ≤ length s
  -- whole lines, no part of one
  pub whole : whole_of (between from to s) ≡ to - from
  pub fits : put ≤ length out
  pub answers : take put out ≡ output_of step (between from to s)
  -- at least one, where there is one
  pub goes_on : to ≡ from → whole_of (drop from s) ≡ 0
