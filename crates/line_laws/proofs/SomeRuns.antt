-- There is a run for every list of pieces; a read can fail after any of them, and a write at any of its bytes.
use Prim.Native.Nat.{ℕ, ◌+◌, ◌-◌}
use mathlib.Core.Path.{◌≡◌, sym, ap, ◌∙◌}
use mathlib.Core.List.{List, [], ◌∷◌, ◌++◌}
use native.Mathlib.Omega.{arith}
use lib.ListN.{length, take, drop}
use lib.Seq.{take-length}
use Rattle.line_laws.specs.Lines.{output_of, whole_of, whole_lines, open_line, carried_of, last_answer}
use Rattle.line_laws.specs.Steps.{Answered}
use Rattle.line_laws.specs.Runs as runs
use Rattle.line_laws.specs.Runs.{Writes, Run, Stopped}
use Rattle.line_laws.proofs.LineLaws.{whole_le, whole_part, open_part, open_take}

-- what is carried over is a part of a line
pub carried_open : (most : ℕ) (s : List ℕ) → whole_of (carried_of most s) ≡ 0
unfolding carried_of open_line
carried_open most s = open_take (most + 1) (drop (whole_of s) s) (open_part s)

module _ (step : List ℕ → List ℕ) where
  -- every turn can be one step
  step_all : (s : List ℕ) → Answered step s 0 (output_of step (whole_lines s)) (whole_of s) (length (output_of step (whole_lines s)))
  unfolding whole_lines
  step_all s =
      let z : whole_of s - 0 ≡ whole_of s = omega arith in
      record {
        onward = omega arith;
        inside = whole_le s;
        whole = ap (λ (n : ℕ). whole_of (take n s)) z ∙ whole_part s ∙ sym z;
        fits = omega arith;
        answers = take-length (output_of step (whole_lines s)) ∙ ap (λ (n : ℕ). output_of step (take n s)) (sym z);
        goes_on = λ e. e;
      }

  writes_all : (s : List ℕ) → Writes step s 0 (take (length (output_of step (whole_lines s))) (output_of step (whole_lines s)) ++ [])
  writes_all s = let a = output_of step (whole_lines s) in runs.Writes.more (length a) a (step_all s) (runs.none (open_part s))

  module _ (most : ℕ) where
    -- there is a run for every list of pieces
    pub run_some : (carried : List ℕ) (pieces : List (List ℕ)) → (written : List ℕ) × Run step most carried pieces written
    run_some carried [] = let a = last_answer step carried in (take (length a) a, runs.end (length a) a (take-length a))
    run_some carried (piece ∷ pieces) =
        let s = carried ++ piece in
        let c = carried_of most s in
        let a = output_of step (whole_lines s) in
        let r = run_some (take (length c) c) pieces in
        ((take (length a) a ++ []) ++ r.0, runs.Run.turn (length c) c (writes_all s) (take-length c) r.1)

    -- a read can fail after any pieces, and a write at any of its bytes
    pub read_stops : (carried : List ℕ) (pieces : List (List ℕ)) → (written : List ℕ) × Stopped step most runs.read carried pieces written
    read_stops carried [] = ([], runs.at_read)
    read_stops carried (piece ∷ pieces) =
        let s = carried ++ piece in
        let c = carried_of most s in
        let a = output_of step (whole_lines s) in
        let r = read_stops (take (length c) c) pieces in
        ((take (length a) a ++ []) ++ r.0, runs.Stopped.turn (length c) c (writes_all s) (take-length c) r.1)

    pub write_stops : (n : ℕ) (carried piece : List ℕ) (pieces : List (List ℕ)) → (written : List ℕ) × Stopped step most runs.write carried (piece ∷ pieces) written
    write_stops n carried piece [] =
        let s = carried ++ piece in
        let a = output_of step (whole_lines s) in
        (take n (take (length a) a), runs.at_write (runs.fails n (length a) a (step_all s)))
    write_stops n carried piece (next ∷ pieces) =
        let s = carried ++ piece in
        let c = carried_of most s in
        let a = output_of step (whole_lines s) in
        let r = write_stops n (take (length c) c) next pieces in
        ((take (length a) a ++ []) ++ r.0, runs.Stopped.turn (length c) c (writes_all s) (take-length c) r.1)
