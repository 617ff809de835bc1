-- What was written so far in a turn and in a run, where the bytes of the reader and the writer are known. Each fact says
-- how any writes that follow go on from there.
use Prim.Native.Nat.{ℕ, ◌+◌, ◌-◌, ◌≤◌}
use mathlib.Core.Path.{◌≡◌, refl, ap, sym, ◌∙◌, subst}
use mathlib.Core.List.{List, [], ◌∷◌, ◌++◌, append_assoc, append-nil}
use native.Mathlib.Omega.{arith}
use lib.ListN.{length, take, drop, length-drop}
use lib.Seq.{drop-drop, take-length}
use Rattle.std.specs.Prelude.{None, Some, IfSome, Option, Result, Ok, Err}
use Rattle.std.specs.Io.KnownBytes.{Appends, Consumes, Keeps, IsAtEnd}
use Rattle.std.proofs.KnownBytes.{Appends-nil, Appends-trans, Consumes-nil, Consumes-trans, Consumes-kept}
use Rattle.requests.specs.Requests.{longest, answer_of}
use Rattle.line_laws.specs.Lines.{output_of, whole_of, whole_lines, carried_of, last_answer, together}
use Rattle.line_laws.specs.Steps.{between, Answered}
use Rattle.line_laws.specs.Runs.{Writes, CutWrites, Run, Fault, Stopped, Begins}
use Rattle.line_laws.specs.Runs as runs
use Rattle.line_laws.proofs.LineLaws.{whole_nil}
use Rattle.line_laws.proofs.StepLaws.{all_whole, onward_whole}
use Rattle.frame.specs.Output.{Put}
use Rattle.frame.specs.declared.output.Failure.{Failure}
use Rattle.frame.specs.declared.output.Failure.TheVariants as failure
use Rattle.lines.specs.Contents.{Grew, ReadTo}
use Rattle.lines.specs.Steps.{SentOf, AllSent, CutSent}
use Rattle.lines.specs.Fed.{FedTo}
use Rattle.lines.proofs.RunLaws.{run_law, stop_law, read_stop_law}

-- ---- the writes of a turn: left is what comes after the lines of s whose answers were written
pub record Writing (a b : Option (List ℕ)) (s left : List ℕ) : Type 0 where
  pub at : ℕ
  pub here : left ≡ drop at s
  pub inside : at ≤ length s
  pub lines : whole_of (take at s) ≡ at
  pub written : List ℕ
  pub sent : Appends a b written
  pub whole : (v : List ℕ) → Writes answer_of s at v → Writes answer_of s 0 (written ++ v)
  pub cut : (v : List ℕ) → CutWrites answer_of s at v → CutWrites answer_of s 0 (written ++ v)

pub none_written : (a : Option (List ℕ)) (s : List ℕ) → Writing a a s s
none_written a s =
    record {
      at = 0;
      here = refl;
      inside = omega arith;
      lines = whole_nil;
      written = [];
      sent = Appends-nil a;
      whole = λ v w. w;
      cut = λ v w. w;
    }

module _ {a b : Option (List ℕ)} {s left : List ℕ} (j : Writing a b s left) where
  -- lines from the start of left on are lines of s from its place on
  moved : {out : List ℕ} {to put : ℕ} → Answered answer_of left 0 out to put → Answered answer_of s j.at out (j.at + to) put
  moved {out} {to} {put} q =
      let y : to - 0 ≡ to = omega arith in
      let z : j.at + to - j.at ≡ to = omega arith in
      let e : between j.at (j.at + to) s ≡ between 0 to left =
      ap (λ (k : ℕ). take k (drop j.at s)) z ∙ ap (take to) (sym j.here) ∙ ap (λ (k : ℕ). take k left) (sym y) in
      record {
        onward = omega arith;
        inside = omega (arith, j.inside, q.inside, ap length j.here, length-drop j.at s);
        whole = ap whole_of e ∙ q.whole ∙ omega arith;
        fits = q.fits;
        answers = q.answers ∙ ap (output_of answer_of) (sym e);
        goes_on = λ o. ap whole_of (sym j.here) ∙ q.goes_on (omega (arith, o));
      }

  left_length : length left ≡ length s - j.at
  left_length = ap length j.here ∙ length-drop j.at s

  -- a step that answers no line
  module _ {out : List ℕ} {to put : ℕ} (q : Answered answer_of left 0 out to put) (e : to ≡ 0) where
    pub all_written : AllSent a b s
    all_written =
        record {
          written = j.written;
          writes = subst (λ (l : List ℕ). Writes answer_of s 0 l) (append-nil j.written) (j.whole [] (runs.none ((moved q).goes_on (omega (arith, e)))));
          sent = j.sent;
        }

    pub all_lines : length s - length left ≡ whole_of s
    all_lines = omega (arith, left_length, j.inside, all_whole answer_of j.lines (moved q) (omega (arith, e)))

  -- the writer gets what a step put, or a beginning of it
  module _ (c : Option (List ℕ)) {out : List ℕ} {to : ℕ} (q : Answered answer_of left 0 out to (length out)) where
    pub step_written : (next : List ℕ) → next ≡ drop to left → Appends b c out → Writing a c s next
    step_written next e more =
        let t = take (length out) out in
        let m = moved q in
        record {
          at = j.at + to;
          here = e ∙ ap (drop to) j.here ∙ drop-drop to j.at s;
          inside = m.inside;
          lines = onward_whole answer_of j.lines m;
          written = j.written ++ t;
          sent = Appends-trans a b c j.written t j.sent (subst (Appends b c) (sym (take-length out)) more);
          whole = λ v w. subst (λ (l : List ℕ). Writes answer_of s 0 l) (sym (append_assoc j.written t v)) (j.whole (t ++ v) (runs.Writes.more (length out) out m w));
          cut = λ v w. subst (λ (l : List ℕ). CutWrites answer_of s 0 l) (sym (append_assoc j.written t v)) (j.cut (t ++ v) (runs.CutWrites.more (length out) out m w));
        }

    pub step_cut : (e : Failure) → Put b c out (Err e) → CutSent a c s
    step_cut failure.Read h = absurd h
    step_cut failure.Write (n, more) =
        let t = take n (take (length out) out) in
        let e : take n out ≡ t = ap (take n) (sym (take-length out)) in
        record {
          written = j.written ++ t;
          writes = j.cut t (runs.fails n (length out) out (moved q));
          sent = Appends-trans a b c j.written t j.sent (subst (Appends b c) e more);
        }

-- ---- the turns of a run, up to what was carried over
pub record Feeding (left after old new : Option (List ℕ)) (carried : List ℕ) : Type 0 where
  pub pieces : List (List ℕ)
  pub written : List ℕ
  pub taken : Consumes left after (together pieces)
  pub sent : Appends old new written
  pub run : (ps : List (List ℕ)) (v : List ℕ) → Run answer_of longest carried ps v → Run answer_of longest [] (pieces ++ ps) (written ++ v)
  pub stop : (f : Fault) (ps : List (List ℕ)) (v : List ℕ) → Stopped answer_of longest f carried ps v → Stopped answer_of longest f [] (pieces ++ ps) (written ++ v)

pub none_fed : (left old : Option (List ℕ)) → Feeding left left old old []
unfolding together
none_fed left old =
    record {
      pieces = [];
      written = [];
      taken = Consumes-nil left;
      sent = Appends-nil old;
      run = λ ps v r. r;
      stop = λ f ps v r. r;
    }

together_more : (ps : List (List ℕ)) (p : List ℕ) → together (ps ++ (p ∷ [])) ≡ together ps ++ p
unfolding together
together_more [] p = append-nil p
together_more (q ∷ ps) p = ap (λ (x : List ℕ). q ++ x) (together_more ps p) ∙ sym (append_assoc q (together ps) p)

no_bytes : (p : List ℕ) → length p ≡ 0 → p ≡ []
no_bytes [] e = refl
no_bytes (q ∷ p) e = absurd (omega arith)

-- nothing was taken
kept_by : (a b : Option (List ℕ)) (p : List ℕ) → length p ≡ 0 → Consumes a b p → Keeps a b
kept_by None b p e h = tt
kept_by (Some x) None p e h = absurd h
kept_by (Some x) (Some y) [] e h = sym h
kept_by (Some x) (Some y) (q ∷ p) e h = absurd (omega arith)

-- what may follow what was taken
rest_any : (a : Option (List ℕ)) (P : List ℕ → Type 0) → ((x : List ℕ) → P x) → IfSome a P
rest_any None P h = tt
rest_any (Some x) P h = h x

rest_end : (a : Option (List ℕ)) (P : List ℕ → Type 0) → IsAtEnd a → P [] → IfSome a P
rest_end None P e h = tt
rest_end (Some x) P e h = subst P (sym e) h

module _ {left mid old now : Option (List ℕ)} {carried : List ℕ} (j : Feeding left mid old now carried) where
  -- nothing more is read
  same : together (j.pieces ++ []) ≡ together j.pieces
  same = ap together (append-nil j.pieces)

  -- ---- the end of the input
  fed_whole : (after new : Option (List ℕ)) → Keeps mid after → IsAtEnd after → Appends now new (last_answer answer_of carried) → FedTo left after old new (Ok tt)
  fed_whole after new kept end more =
      let l = last_answer answer_of carried in
      let t = take (length l) l in
      let e : t ≡ l = take-length l in
      record {
        input = together j.pieces;
        taken = Consumes-kept left mid after (together j.pieces) j.taken kept;
        end = end;
        written =
            subst (Appends old new) (run_law (j.run [] t (runs.end (length l) l e)) ∙ ap (output_of answer_of) same)
            (Appends-trans old now new j.written t j.sent (subst (Appends now new) (sym e) more));
      }

  fed_cut : (after new : Option (List ℕ)) → Keeps mid after → IsAtEnd after → (n : ℕ) → Appends now new (take n (last_answer answer_of carried))
      → FedTo left after old new (Err failure.Write)
  fed_cut after new kept end n more =
      let l = last_answer answer_of carried in
      let t = take n (take (length l) l) in
      let e : t ≡ take n l = ap (take n) (take-length l) in
      record {
        input = together j.pieces;
        output = j.written ++ t;
        taken = Consumes-kept left mid after (together j.pieces) j.taken kept;
        written = Appends-trans old now new j.written t j.sent (subst (Appends now new) (sym e) more);
        begins =
            rest_end after (λ (x : List ℕ). Begins (j.written ++ t) (output_of answer_of (together j.pieces ++ x))) end
            (subst (λ (p : List ℕ). Begins (j.written ++ t) (output_of answer_of (p ++ []))) same (stop_law (j.stop runs.last [] t (runs.at_last n (length l) l (take-length l))) [] refl));
      }

  fed_end : (after new : Option (List ℕ)) (r : Result (Unit {0}) Failure) → Keeps mid after → IsAtEnd after → Put now new (last_answer answer_of carried) r → FedTo left after old new r
  fed_end after new (Ok done) kept end h = fed_whole after new kept end h
  fed_end after new (Err failure.Read) kept end h = absurd h
  fed_end after new (Err failure.Write) kept end h = fed_cut after new kept end h.0 h.1

  pub fed_last : (after new : Option (List ℕ)) (s line : List ℕ) (n : ℕ) (r : Result (Unit {0}) Failure) → s ≡ line → Grew mid after carried line n → n ≡ 0
      → Put now new (last_answer answer_of s) r → FedTo left after old new r
  fed_last after new s line n r q g z h =
      let none : length g.piece ≡ 0 = g.count ∙ z in
      let e : s ≡ carried = q ∙ g.grown ∙ ap (λ (p : List ℕ). carried ++ p) (no_bytes g.piece none) ∙ append-nil carried in
      fed_end after new r (kept_by mid after g.piece none g.taken) (g.end z) (subst (λ (x : List ℕ). Put now new (last_answer answer_of x) r) e h)

  -- ---- a read that fails
  pub fed_read : (after : Option (List ℕ)) → Keeps mid after → FedTo left after old now (Err failure.Read)
  fed_read after kept =
      record {
        input = together j.pieces;
        taken = Consumes-kept left mid after (together j.pieces) j.taken kept;
        written =
            subst (Appends old now)
            (sym (append-nil j.written) ∙ read_stop_law (j.stop runs.read [] [] runs.at_read) ∙ ap (λ (p : List ℕ). output_of answer_of (whole_lines p)) same)
            j.sent;
      }

  pub fed_failed : (after : Option (List ℕ)) (new : List ℕ) (e : Failure) → ReadTo mid after carried new (Err e) → FedTo left after old now (Err e)
  fed_failed after new failure.Read h = fed_read after h.1
  fed_failed after new failure.Write h = absurd h

  -- ---- a piece more
  module _ (after new : Option (List ℕ)) (piece : List ℕ) (read : Consumes mid after piece) (w : List ℕ) (more : Appends now new w) where
    taken_more : Consumes left after (together (j.pieces ++ (piece ∷ [])))
    taken_more = subst (Consumes left after) (sym (together_more j.pieces piece)) (Consumes-trans left mid after (together j.pieces) piece j.taken read)

    sent_more : Appends old new (j.written ++ w)
    sent_more = Appends-trans old now new j.written w j.sent more

    pub fed_write : CutWrites answer_of (carried ++ piece) 0 w → FedTo left after old new (Err failure.Write)
    fed_write cut =
        record {
          input = together (j.pieces ++ (piece ∷ []));
          output = j.written ++ w;
          taken = taken_more;
          written = sent_more;
          begins =
              rest_any after (λ (x : List ℕ). Begins (j.written ++ w) (output_of answer_of (together (j.pieces ++ (piece ∷ [])) ++ x)))
              (λ x. stop_law (j.stop runs.write (piece ∷ []) w (runs.at_write cut)) x tt);
        }

    pub fed_turn : Writes answer_of (carried ++ piece) 0 w → (kept : ℕ) (buffer : List ℕ) → take kept buffer ≡ carried_of longest (carried ++ piece)
        → Feeding left after old new (take kept buffer)
    fed_turn whole kept buffer e =
        let joined : (ps : List (List ℕ)) → j.pieces ++ (piece ∷ ps) ≡ (j.pieces ++ (piece ∷ [])) ++ ps = λ ps. sym (append_assoc j.pieces (piece ∷ []) ps) in
        record {
          pieces = j.pieces ++ (piece ∷ []);
          written = j.written ++ w;
          taken = taken_more;
          sent = sent_more;
          run = λ ps v r.
              subst (λ (l : List ℕ). Run answer_of longest [] ((j.pieces ++ (piece ∷ [])) ++ ps) l) (sym (append_assoc j.written w v))
              (subst (λ (l : List (List ℕ)). Run answer_of longest [] l (j.written ++ (w ++ v))) (joined ps)
              (j.run (piece ∷ ps) (w ++ v) (runs.Run.turn kept buffer whole e r)));
          stop = λ f ps v r.
              subst (λ (l : List ℕ). Stopped answer_of longest f [] ((j.pieces ++ (piece ∷ [])) ++ ps) l) (sym (append_assoc j.written w v))
              (subst (λ (l : List (List ℕ)). Stopped answer_of longest f [] l (j.written ++ (w ++ v))) (joined ps)
              (j.stop f (piece ∷ ps) (w ++ v) (runs.Stopped.turn kept buffer whole e r)));
        }

-- ---- a turn: a piece was read after the bytes that were carried over, and the whole lines of s, the bytes then, are answered
module _ {left mid old now : Option (List ℕ)} {carried : List ℕ} (j : Feeding left mid old now carried) {after : Option (List ℕ)} (then : Option (List ℕ))
    {new : List ℕ} {n : ℕ} (g : Grew mid after carried new n) (s : List ℕ) (q : s ≡ new) where
  pub turn_more : AllSent now then s → (last : List ℕ) → last ≡ carried_of longest new → Feeding left after old then last
  turn_more w last e =
      let k = take-length last in
      subst (Feeding left after old then) k
      (fed_turn j after then g.piece g.taken w.written w.sent (subst (λ (x : List ℕ). Writes answer_of x 0 w.written) (q ∙ g.grown) w.writes) (length last) last
      (k ∙ e ∙ ap (carried_of longest) g.grown))

  pub turn_cut : (e : Failure) → SentOf s (Err e) → CutSent now then s → FedTo left after old then (Err e)
  turn_cut failure.Read h w = absurd h
  turn_cut failure.Write h w =
      fed_write j after then g.piece g.taken w.written w.sent (subst (λ (x : List ℕ). CutWrites answer_of x 0 w.written) (q ∙ g.grown) w.writes)

-- the steps of a turn
pub ruleset write_steps = (none_written, step_written)
