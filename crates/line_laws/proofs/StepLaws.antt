-- One line more is answered, until there is none or no room; and the steps of a turn add up.
use Prim.Native.Nat.{ℕ, ◌+◌, ◌-◌, ◌≤◌, ◌<◌}
use mathlib.Core.Path.{◌≡◌, ap, sym, ◌∙◌}
use mathlib.Core.List.{List, [], ◌∷◌, ◌++◌}
use native.Mathlib.Omega.{arith}
use lib.ListN.{length, take, drop, length-drop, take-append-drop}
use lib.Seq.{drop-drop, take-add, length-take-le}
use Rattle.texts.specs.Bytes.{is, index_of}
use Rattle.line_laws.specs.Lines.{output_of, whole_of}
use Rattle.line_laws.specs.Steps.{between, Answered}
use Rattle.line_laws.proofs.LineLaws.{whole_nil, whole_append, no_feed, line_whole}
use Rattle.line_laws.proofs.OutputLaws.{line_output, output_nil, output_append}

nothing_between : (from : ℕ) (s : List ℕ) → between from from s ≡ []
nothing_between from s = let z : from - from ≡ 0 = omega arith in ap (λ (k : ℕ). take k (drop from s)) z

module _ (step : List ℕ → List ℕ) where
  -- the lines so far were answered
  pub record Answering (s : List ℕ) (from : ℕ) (out : List ℕ) (at put : ℕ) : Type 0 where
    pub onward : from ≤ at
    pub inside : at ≤ length s
    pub whole : whole_of (between from at s) ≡ at - from
    pub fits : put ≤ length out
    pub answers : take put out ≡ output_of step (between from at s)

  pub start : (s : List ℕ) (from : ℕ) (out : List ℕ) → from ≤ length s → Answering s from out from 0
  start s from out h =
      record {
        onward = omega arith;
        inside = h;
        whole = ap whole_of (nothing_between from s) ∙ whole_nil ∙ omega arith;
        fits = omega arith;
        answers = sym (ap (output_of step) (nothing_between from s) ∙ output_nil step);
      }

  module _ (s : List ℕ) (from : ℕ) (out : List ℕ) (at put : ℕ) (g : Answering s from out at put) where
    so_far : length (between from at s) ≡ at - from
    so_far = length-take-le (at - from) (drop from s) (omega (arith, g.inside, length-drop from s))

    after : drop (at - from) (drop from s) ≡ drop at s
    after = let k : from + (at - from) ≡ at = omega (arith, g.onward) in drop-drop (at - from) from s ∙ ap (λ (n : ℕ). drop n s) k

    ends : (at ≡ from → whole_of (drop from s) ≡ 0) → Answered step s from out at put
    ends o = record { onward = g.onward; inside = g.inside; whole = g.whole; fits = g.fits; answers = g.answers; goes_on = o }

    -- there is no room for the next answer: so a line was answered
    pub full : (room : ℕ) → room ≤ length out → length out - put < room → Answered step s from out at put
    full room h l = ends (λ e. absurd (none e))
      where
        none : at ≡ from → ⊥
        none e =
            let z : take put out ≡ [] = g.answers ∙ ap (λ (k : ℕ). output_of step (between from k s)) e ∙ ap (output_of step) (nothing_between from s) ∙ output_nil step in
            omega (arith, ap length z, length-take-le put out g.fits)

    -- t is what comes after the lines so far
    module _ (t : List ℕ) (q : t ≡ drop at s) (n : ℕ) (e : n ≡ index_of (is 10) t) where
      pub finished : n ≡ length t → Answered step s from out at put
      finished l = ends (λ k. ap (λ (m : ℕ). whole_of (drop m s)) (sym k) ∙ ap whole_of (sym q) ∙ no_feed t (sym e ∙ l))

      more : between from (at + n + 1) s ≡ between from at s ++ take (n + 1) t
      more =
          let k : at + n + 1 - from ≡ (at - from) + (n + 1) = omega (arith, g.onward) in
          ap (λ (m : ℕ). take m (drop from s)) k ∙ take-add (at - from) (n + 1) (drop from s)
          ∙ ap (λ (x : List ℕ). between from at s ++ take (n + 1) x) (after ∙ sym q)

      pub answered : (new : List ℕ) (r : ℕ) → n < length t → r ≤ length new → take r new ≡ take put out ++ (step (take n t) ++ (10 ∷ []))
          → Answering s from new (at + n + 1) r
      answered new r h f a =
          let w : whole_of (between from at s) ≡ length (between from at s) = g.whole ∙ sym so_far in
          record {
            onward = omega (arith, g.onward);
            inside = omega (arith, g.inside, ap length q, length-drop at s);
            whole = ap whole_of more ∙ whole_append (between from at s) (take (n + 1) t) w ∙ omega (arith, so_far, line_whole t n e h, g.onward);
            fits = f;
            answers =
                a ∙ ap (λ (x : List ℕ). x ++ (step (take n t) ++ (10 ∷ []))) g.answers
                ∙ ap (λ (x : List ℕ). output_of step (between from at s) ++ x) (sym (line_output step t n e h))
                ∙ sym (output_append step (between from at s) (take (n + 1) t) w) ∙ ap (output_of step) (sym more);
          }

  -- ---- from step to step

  -- whole lines up to a place, and from there on
  pub onward_whole : {s out : List ℕ} {from to put : ℕ} → whole_of (take from s) ≡ from → Answered step s from out to put → whole_of (take to s) ≡ to
  onward_whole {s} {out} {from} {to} {put} w a =
      let k : to ≡ from + (to - from) = omega (arith, a.onward) in
      let l : length (take from s) ≡ from = length-take-le from s (omega (arith, a.onward, a.inside)) in
      ap (λ (n : ℕ). whole_of (take n s)) k ∙ ap whole_of (take-add from (to - from) s)
      ∙ whole_append (take from s) (between from to s) (w ∙ sym l) ∙ omega (arith, l, a.whole, a.onward)

  -- a step that answers no line: all whole lines were answered before it
  pub all_whole : {s out : List ℕ} {from to put : ℕ} → whole_of (take from s) ≡ from → Answered step s from out to put → to ≤ from → from ≡ whole_of s
  all_whole {s} {out} {from} {to} {put} w a h =
      let l : length (take from s) ≡ from = length-take-le from s (omega (arith, a.onward, a.inside)) in
      let e : to ≡ from = omega (arith, a.onward) in
      let z = a.goes_on e in
      sym (ap whole_of (sym (take-append-drop from s)) ∙ whole_append (take from s) (drop from s) (w ∙ sym l) ∙ omega (arith, l, z))
