-- However the input is cut into pieces, and wherever a step ends for lack of room, the output for the whole input is
-- written. What a run has written when a read or a write fails is a beginning of that output.
use Prim.Native.Nat.{ℕ, ◌+◌, ◌-◌}
use mathlib.Core.Path.{◌≡◌, refl, ap, sym, ◌∙◌}
use mathlib.Core.List.{List, [], ◌∷◌, ◌++◌, append_assoc, append-nil}
use native.Mathlib.Omega.{arith}
use lib.ListN.{length, take, drop, take-append-drop, length-drop}
use lib.Seq.{drop-drop, length-take-le, take-append-add}
use Rattle.line_laws.specs.Lines.{output_of, whole_of, whole_lines, open_line, carried_of, last_answer, turns_output, together, Cut}
use Rattle.line_laws.specs.Steps.{between, Answered}
use Rattle.line_laws.specs.Runs as runs
use Rattle.line_laws.specs.Runs.{Writes, Run, Fault, CutWrites, Stopped, Follows, Begins}
use Rattle.line_laws.proofs.LineLaws.{whole_le, whole_append, whole_part, open_part, none_whole}
use Rattle.line_laws.proofs.SomeRuns.{carried_open}
use Rattle.line_laws.proofs.OutputLaws.{output_nil, output_append, open_output, kept_output, kept_whole}

whole_length : (s : List ℕ) → whole_of (whole_lines s) ≡ length (whole_lines s)
unfolding whole_lines
whole_length s = whole_part s ∙ sym (length-take-le (whole_of s) s (whole_le s))

-- ---- beginnings
begins_take : (n : ℕ) (l : List ℕ) → Begins (take n l) l
begins_take n l = record { later = drop n l; joined = sym (take-append-drop n l) }

begins_onto : {s t : List ℕ} (p : List ℕ) → Begins s t → Begins (p ++ s) (p ++ t)
begins_onto {s} {t} p b = record { later = b.later; joined = ap (λ (x : List ℕ). p ++ x) b.joined ∙ sym (append_assoc p s b.later) }

begins_more : {s t : List ℕ} (x : List ℕ) → Begins s t → Begins s (t ++ x)
begins_more {s} {t} x b = record { later = b.later ++ x; joined = ap (λ (y : List ℕ). y ++ x) b.joined ∙ append_assoc s b.later x }

begins_as : {s t u : List ℕ} → t ≡ u → Begins s t → Begins s u
begins_as e b = record { later = b.later; joined = sym e ∙ b.joined }

-- a piece before what follows
joined_turn : (carried piece rest x : List ℕ) → (carried ++ piece) ++ (rest ++ x) ≡ carried ++ ((piece ++ rest) ++ x)
joined_turn carried piece rest x = append_assoc carried piece (rest ++ x) ∙ ap (λ (y : List ℕ). carried ++ y) (sym (append_assoc piece rest x))

module _ (step : List ℕ → List ℕ) where
  last_output : (c : List ℕ) → whole_of c ≡ 0 → last_answer step c ≡ output_of step (c ++ [])
  unfolding last_answer
  last_output [] e = sym (output_nil step)
  last_output (b ∷ c) e = sym (open_output step (b ∷ c) e (omega arith))

  -- ---- the steps of a turn
  module _ (s : List ℕ) where
    parted : {from to put : ℕ} {out : List ℕ} → Answered step s from out to put → drop from s ≡ between from to s ++ drop to s
    parted {from} {to} a =
        let k : from + (to - from) ≡ to = omega (arith, a.onward) in
        sym (take-append-drop (to - from) (drop from s)) ∙ ap (λ (r : List ℕ). between from to s ++ r) (drop-drop (to - from) from s ∙ ap (λ (n : ℕ). drop n s) k)

    part_length : {from to put : ℕ} {out : List ℕ} → Answered step s from out to put → length (between from to s) ≡ to - from
    part_length {from} {to} a = length-take-le (to - from) (drop from s) (omega (arith, a.inside, length-drop from s))

    step_lines : {from to put : ℕ} {out : List ℕ} → Answered step s from out to put → whole_lines (drop from s) ≡ between from to s ++ whole_lines (drop to s)
    unfolding whole_lines
    step_lines {from} {to} a =
        let p = between from to s in
        let r = drop to s in
        ap (λ (x : List ℕ). take (whole_of x) x) (parted a)
        ∙ ap (λ (n : ℕ). take n (p ++ r)) (whole_append p r (a.whole ∙ sym (part_length a)))
        ∙ take-append-add p r (whole_of r)

    -- what a step puts first, and what is left
    step_output : {from to put : ℕ} {out : List ℕ} → Answered step s from out to put → output_of step (whole_lines (drop from s)) ≡ take put out ++ output_of step (whole_lines (drop to s))
    step_output {from} {to} {put} {out} a =
        ap (output_of step) (step_lines a)
        ∙ output_append step (between from to s) (whole_lines (drop to s)) (a.whole ∙ sym (part_length a))
        ∙ ap (λ (x : List ℕ). x ++ output_of step (whole_lines (drop to s))) (sym a.answers)

    pub writes_law : {from : ℕ} {written : List ℕ} → Writes step s from written → written ≡ output_of step (whole_lines (drop from s))
    writes_law {from} (runs.none e) = sym (ap (output_of step) (none_whole (drop from s) e) ∙ output_nil step)
    writes_law (runs.Writes.more put out a w) = ap (λ (x : List ℕ). take put out ++ x) (writes_law w) ∙ sym (step_output a)

  cut_law : (s : List ℕ) {from : ℕ} {written : List ℕ} → CutWrites step s from written → Begins written (output_of step (whole_lines (drop from s)))
  cut_law s (runs.fails {to = to} n put out a) = begins_as (sym (step_output s a)) (begins_more (output_of step (whole_lines (drop to s))) (begins_take n (take put out)))
  cut_law s (runs.CutWrites.more put out a w) = begins_as (sym (step_output s a)) (begins_onto (take put out) (cut_law s w))

  -- ---- the runs
  module _ (most : ℕ) where
    run_turns : {carried : List ℕ} {pieces : List (List ℕ)} {written : List ℕ} → Run step most carried pieces written → written ≡ turns_output step most carried pieces
    unfolding turns_output
    run_turns (runs.end put out e) = e
    run_turns (runs.Run.turn {carried} {piece} {written} {rest} {pieces} kept buffer w e r) =
        let s = carried ++ piece in
        ap (λ (x : List ℕ). x ++ rest) (writes_law s w)
        ∙ ap (λ (x : List ℕ). output_of step (whole_lines s) ++ x) (run_turns r ∙ ap (λ (x : List ℕ). turns_output step most x pieces) e)

    -- ---- what the runs write, where a line that is too long has the answer of its first bytes
    module _ (cut : Cut step most) where
      carried_output : (s x : List ℕ) → output_of step (carried_of most s ++ x) ≡ output_of step (open_line s ++ x)
      unfolding carried_of open_line
      carried_output s x = kept_output step most cut (drop (whole_of s) s) x (open_part s)

      -- a turn leaves out no answer, and gives none twice
      turn_output : (s x : List ℕ) → output_of step (whole_lines s) ++ output_of step (carried_of most s ++ x) ≡ output_of step (s ++ x)
      unfolding whole_lines open_line
      turn_output s x =
          ap (λ (o : List ℕ). output_of step (whole_lines s) ++ o) (carried_output s x)
          ∙ sym (output_append step (whole_lines s) (open_line s ++ x) (whole_length s))
          ∙ ap (output_of step) (sym (append_assoc (whole_lines s) (open_line s) x) ∙ ap (λ (o : List ℕ). o ++ x) (take-append-drop (whole_of s) s))

      turns_from : (carried : List ℕ) (pieces : List (List ℕ)) → whole_of carried ≡ 0 → turns_output step most carried pieces ≡ output_of step (carried ++ together pieces)
      unfolding turns_output together
      turns_from carried [] e = last_output carried e
      turns_from carried (piece ∷ pieces) e =
          let s = carried ++ piece in
          ap (λ (o : List ℕ). output_of step (whole_lines s) ++ o) (turns_from (carried_of most s) pieces (carried_open most s))
          ∙ turn_output s (together pieces)
          ∙ ap (output_of step) (append_assoc carried piece (together pieces))

      -- what the turns write, one after the other, is the output for the whole input
      pub turns_law : (pieces : List (List ℕ)) → turns_output step most [] pieces ≡ output_of step (together pieces)
      unfolding whole_of
      turns_law pieces = turns_from [] pieces refl

      -- for every list of pieces: each line of the input is answered once and in order, however the input is cut
      pub run_law : {pieces : List (List ℕ)} {written : List ℕ} → Run step most [] pieces written → written ≡ output_of step (together pieces)
      run_law {pieces} r = run_turns r ∙ turns_law pieces

      stop_from : {f : Fault} {carried : List ℕ} {pieces : List (List ℕ)} {written : List ℕ} → Stopped step most f carried pieces written → whole_of carried ≡ 0
          → (x : List ℕ) → Follows f x → Begins written (output_of step (carried ++ (together pieces ++ x)))
      unfolding together
      stop_from {carried = carried} runs.at_read e x h = record { later = output_of step (carried ++ x); joined = refl }
      stop_from (runs.at_write {carried} {piece} w) e x h =
          let s = carried ++ piece in
          begins_as (turn_output s x ∙ ap (output_of step) (joined_turn carried piece [] x)) (begins_more (output_of step (carried_of most s ++ x)) (cut_law s w))
      stop_from {carried = carried} (runs.at_last n put out a) e x h =
          begins_as (a ∙ last_output carried e ∙ ap (λ (y : List ℕ). output_of step (carried ++ y)) (sym h)) (begins_take n (take put out))
      stop_from (runs.Stopped.turn {carried = carried} {piece = piece} {written = written} {rest = rest} {pieces = pieces} kept buffer w a r) e x h =
          let s = carried ++ piece in
          let y = together pieces ++ x in
          begins_as
          (ap (λ (o : List ℕ). o ++ output_of step (take kept buffer ++ y)) (writes_law s w)
          ∙ ap (λ (c : List ℕ). output_of step (whole_lines s) ++ output_of step (c ++ y)) a
          ∙ turn_output s y ∙ ap (output_of step) (joined_turn carried piece (together pieces) x))
          (begins_onto written (stop_from r (ap whole_of a ∙ carried_open most s) x h))

      -- what was written is a beginning of the output for the input that was read, however that input goes on
      pub stop_law : {f : Fault} {pieces : List (List ℕ)} {written : List ℕ} → Stopped step most f [] pieces written
          → (x : List ℕ) → Follows f x → Begins written (output_of step (together pieces ++ x))
      unfolding whole_of
      stop_law r x h = stop_from r refl x h

      -- a turn before whole lines
      turn_whole : (s x : List ℕ) → output_of step (whole_lines s) ++ output_of step (whole_lines (carried_of most s ++ x)) ≡ output_of step (whole_lines (s ++ x))
      unfolding whole_lines open_line carried_of
      turn_whole s x =
          let w = whole_lines s in
          let z = open_line s ++ x in
          ap (λ (o : List ℕ). output_of step w ++ o) (kept_whole step most cut (open_line s) x (open_part s))
          ∙ sym (output_append step w (whole_lines z) (whole_length s))
          ∙ ap (output_of step)
          (sym (ap (λ (n : ℕ). take n (w ++ z)) (whole_append w z (whole_length s)) ∙ take-append-add w z (whole_of z))
          ∙ ap whole_lines (sym (append_assoc w (open_line s) x) ∙ ap (λ (o : List ℕ). o ++ x) (take-append-drop (whole_of s) s)))

      read_from : {carried : List ℕ} {pieces : List (List ℕ)} {written : List ℕ} → Stopped step most runs.read carried pieces written → whole_of carried ≡ 0
          → written ≡ output_of step (whole_lines (carried ++ together pieces))
      unfolding together
      read_from {carried} runs.at_read e = sym (ap (output_of step) (none_whole (carried ++ []) (ap whole_of (append-nil carried) ∙ e)) ∙ output_nil step)
      read_from (runs.Stopped.turn {carried = carried} {piece = piece} {written = written} {rest = rest} {pieces = pieces} kept buffer w a r) e =
          let s = carried ++ piece in
          ap (λ (o : List ℕ). o ++ rest) (writes_law s w)
          ∙ ap (λ (o : List ℕ). output_of step (whole_lines s) ++ o) (read_from r (ap whole_of a ∙ carried_open most s) ∙ ap (λ (c : List ℕ). output_of step (whole_lines (c ++ together pieces))) a)
          ∙ turn_whole s (together pieces)
          ∙ ap (λ (o : List ℕ). output_of step (whole_lines o)) (append_assoc carried piece (together pieces))

      -- where a read fails, each whole line that was read has its answer, and the line that was cut has none
      pub read_stop_law : {pieces : List (List ℕ)} {written : List ℕ} → Stopped step most runs.read [] pieces written → written ≡ output_of step (whole_lines (together pieces))
      unfolding whole_of
      read_stop_law r = read_from r refl
