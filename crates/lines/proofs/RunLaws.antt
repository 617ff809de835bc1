-- The laws on lines for the program dame: `answer_of` is its answer to a line, `longest` the most bytes of a line.
use Prim.Native.Nat.{ℕ, suc, ◌+◌, ◌<◌}
use mathlib.Core.Path.{◌≡◌, refl, ap, sym, ◌∙◌}
use mathlib.Core.List.{List, [], ◌∷◌, ◌++◌}
use mathlib.Core.Bool.{Bool, true, false, ◌&&◌, true≢false}
use native.Mathlib.Omega.{arith}
use lib.ListN.{length, take}
use lib.Seq.{take_all, length-take-le}
use lib.Dec.{eqb, leb}
use borrow.Author.Tests.{lt-ltb, leb-true, leb-false}
use Rattle.texts.specs.Bytes.{bytes, holds}
use Rattle.wording.specs.Words.{same_text}
use Rattle.requests.specs.Requests.{longest, answer_of}
use Rattle.line_laws.specs.Lines.{output_of, whole_lines, turns_output, together, Cut}
use Rattle.line_laws.specs.Runs.{Run, Fault, Stopped, Follows, Begins}
use Rattle.line_laws.specs.Runs as runs
use Rattle.line_laws.proofs.OutputLaws.{one_line}
use Rattle.line_laws.proofs.RunLaws as laws
use Rattle.line_laws.proofs.SomeRuns as some
use Rattle.lines.specs.Given.{given_output}
use Rattle.lines.proofs.Contents.{given_line}

-- all lines that are too long have one answer
pub long_same : (l m : List ℕ) → longest < length l → longest < length m → answer_of l ≡ answer_of m
unfolding answer_of
long_same l m g h = rw (lt-ltb longest (length l) g, lt-ltb longest (length m) h)

-- so the first longest + 1 bytes of such a line answer for all of it
pub answer_cut : Cut answer_of longest
answer_cut l = go (leb (length l) (longest + 1)) refl
  where
    go : (q : Bool) → leb (length l) (longest + 1) ≡ q → answer_of (take (longest + 1) l) ≡ answer_of l
    go true q = ap answer_of (take_all (longest + 1) l (leb-true (length l) (longest + 1) q))
    go false q =
        let h = leb-false (length l) (longest + 1) q in
        let k : length (take (longest + 1) l) ≡ longest + 1 = length-take-le (longest + 1) l (omega arith) in
        long_same (take (longest + 1) l) l (omega (arith, k)) (omega arith)

-- what the turns write, one after the other, is the output for the whole input
pub turns_law : (pieces : List (List ℕ)) → turns_output answer_of longest [] pieces ≡ output_of answer_of (together pieces)
turns_law pieces = laws.turns_law answer_of longest answer_cut pieces

-- for every list of pieces: each line of the input is answered once and in order, however the input is cut
pub run_law : {pieces : List (List ℕ)} {written : List ℕ} → Run answer_of longest [] pieces written → written ≡ output_of answer_of (together pieces)
run_law r = laws.run_law answer_of longest answer_cut r

-- there is a run for every list of pieces
pub run_some : (carried : List ℕ) (pieces : List (List ℕ)) → (written : List ℕ) × Run answer_of longest carried pieces written
run_some carried pieces = some.run_some answer_of longest carried pieces

-- what a run that stops has written is a beginning of the output for the input that it read, however that input goes on
pub stop_law : {f : Fault} {pieces : List (List ℕ)} {written : List ℕ} → Stopped answer_of longest f [] pieces written
    → (x : List ℕ) → Follows f x → Begins written (output_of answer_of (together pieces ++ x))
stop_law r x h = laws.stop_law answer_of longest answer_cut r x h

-- where a read fails, each whole line that was read has its answer, and the line that was cut has none
pub read_stop_law : {pieces : List (List ℕ)} {written : List ℕ} → Stopped answer_of longest runs.read [] pieces written
    → written ≡ output_of answer_of (whole_lines (together pieces))
read_stop_law r = laws.read_stop_law answer_of longest answer_cut r

-- a read can fail after any pieces, and a write at any of its bytes
pub read_stops : (carried : List ℕ) (pieces : List (List ℕ)) → (written : List ℕ) × Stopped answer_of longest runs.read carried pieces written
read_stops carried pieces = some.read_stops answer_of longest carried pieces

pub write_stops : (n : ℕ) (carried piece : List ℕ) (pieces : List (List ℕ)) → (written : List ℕ) × Stopped answer_of longest runs.write carried (piece ∷ pieces) written
write_stops n carried piece pieces = some.write_stops answer_of longest n carried piece pieces

-- ---- the arguments, given as one line

-- what is written for them is what is written for an input of that line alone
pub given_law : (line : List ℕ) → holds 10 line ≡ false → same_text line (bytes "--help") ≡ false → given_output line ≡ output_of answer_of (line ++ (10 ∷ []))
given_law line h e = sym (given_line line e) ∙ sym (one_line answer_of line h)

-- for all lines that are too long the same is written
same_length : (s t : List ℕ) → same_text s t ≡ true → length s ≡ length t
unfolding same_text
same_length [] [] e = refl
same_length [] (b ∷ t) e = absurd (true≢false (sym e))
same_length (a ∷ s) [] e = absurd (true≢false (sym e))
same_length (a ∷ s) (b ∷ t) e = go (eqb a b) e (λ (g : same_text s t ≡ true). same_length s t g)
  where
    go : (q : Bool) → (q && same_text s t) ≡ true → (same_text s t ≡ true → length s ≡ length t) → suc (length s) ≡ suc (length t)
    go true g i = ap suc (i g)
    go false g i = absurd (true≢false (sym g))

long_given : (l : List ℕ) → longest < length l → given_output l ≡ answer_of l ++ (10 ∷ [])
long_given l h = go (same_text l (bytes "--help")) refl
  where
    go : (q : Bool) → same_text l (bytes "--help") ≡ q → given_output l ≡ answer_of l ++ (10 ∷ [])
    go true e = let n : length l ≡ 6 = same_length l (bytes "--help") e in absurd (omega (arith, n))
    go false e = sym (given_line l e)

pub given_long : (l m : List ℕ) → longest < length l → longest < length m → given_output l ≡ given_output m
given_long l m g h = long_given l g ∙ ap (λ (x : List ℕ). x ++ (10 ∷ [])) (long_same l m g h) ∙ sym (long_given m h)
