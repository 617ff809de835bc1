-- What the buffers contain: an answer after those before it, the help, and the start of a line that was carried over.
use Prim.Native.Nat.{ℕ, zero, suc, ◌+◌, ◌-◌, ◌≤◌, ◌<◌, min}
use mathlib.Core.Path.{◌≡◌, refl, ap, sym, ◌∙◌, subst}
use mathlib.Core.List.{List, [], ◌∷◌, ◌++◌, append_assoc}
use mathlib.Core.Bool.{Bool, true, false, true≢false}
use native.Mathlib.Omega.{arith}
use lib.Dec.{leb}
use lib.ListN.{length, take, drop, set, length-append, length-drop, take-append-drop}
use lib.Seq.{drop-drop, take-length, take_all, take_at, take-suc-set, take-append-add, take-append-le, drop-append-le, length-take-le, paste, take-paste}
use borrow.Author.Tests.{leb-true, leb-false, ltb-true, ltb-false}
use borrow.Rule.Slice.PartMut.{put_mid, post_of, same_len_mid}
use Rattle.texts.proofs.Cuts.{rest, holds_found, index_le, up_to_is, after_is}
use Rattle.texts.specs.Bytes.{bytes, is, holds, up_to, after_first, index_of}
use Rattle.texts.specs.Lent.{written}
use Rattle.wording.specs.Words.{same_text}
use Rattle.texts.proofs.Pieces.{written_length, starts}
use Rattle.requests.specs.Requests.{help_text, longest, answer_room, answer_of}
use Rattle.request_laws.proofs.Room.{answer_short}
use Rattle.line_laws.specs.Lines.{whole_of, open_line, carried_of, last_answer}
use Rattle.line_laws.specs.Steps.{Answered}
use Rattle.line_laws.proofs.LineLaws.{whole_le}
use Rattle.line_laws.proofs.StepLaws.{Answering, start, answered, finished, full}
use Rattle.std.specs.Prelude.{Option, IsTrue, ◌↔◌}
use Rattle.std.specs.Io.KnownBytes.{Consumes, IsAtEnd}
use Rattle.lines.specs.Contents.{output_size, Grew}
use Rattle.lines.specs.Given.{given_output}

-- how many bytes are seen of a buffer of m bytes
pub seen : (bytes now : List ℕ) (count m : ℕ) → length bytes ≡ m → count ≤ m → take count bytes ≡ now → length now ≡ count
seen bytes now count m long h v = sym (ap length v) ∙ length-take-le count bytes (omega (arith, long))

-- without room for an answer, some are there
pub some_put : (q : Bool) (n : ℕ) → IsTrue q ↔ (n + answer_room ≤ output_size) → q ≡ false → 0 < n
some_put q zero h f = absurd (true≢false (sym (h.1 (omega arith)) ∙ f))
some_put q (suc n) h f = omega arith

-- ---- a part is put into a buffer of m bytes, from the place at on
module _ (buf part : List ℕ) (at m : ℕ) (long : length buf ≡ m) where
  lent : length (take (m - at) (drop at buf)) ≡ m - at
  lent =
      ap (λ (k : ℕ). length (take (k - at) (drop at buf))) (sym long)
      ∙ ap length (rest buf at) ∙ length-drop at buf ∙ ap (λ (k : ℕ). k - at) long

  pub put_part : (n : ℕ) → at ≤ m → n ≤ length part → take (at + n) (put_mid at (m - at) buf part) ≡ take at buf ++ take n part
  put_part n h fits =
      let post = post_of at (m - at) buf in
      ap (λ (k : ℕ). take (k + n) (put_mid at (m - at) buf part)) (sym (length-take-le at buf (omega (arith, long))))
      ∙ take-append-add (take at buf) (part ++ post) n
      ∙ ap (λ (l : List ℕ). take at buf ++ l) (take-append-le n part post fits)

-- ---- a text t and a line feed, put at the place at of out
module _ (out t part : List ℕ) (at n m : ℕ) (long : length out ≡ m) (fits : at + suc (length t) ≤ m) (e : n ≡ min (length t) (length (take (m - at) (drop at out))))
    (p : part ≡ written t (take (m - at) (drop at out))) where
  room : length (take (m - at) (drop at out)) ≡ m - at
  room = lent out part at m long

  pub put_all : n ≡ length t
  put_all = omega (arith, e, room)

  put_length : length (put_mid at (m - at) out part) ≡ length out
  put_length = same_len_mid at (m - at) out part (ap length p ∙ written_length t (take (m - at) (drop at out)))

  -- what follows the text
  after : List ℕ
  after = drop (length t) (take (m - at) (drop at out)) ++ post_of at (m - at) out

  put_is : put_mid at (m - at) out part ≡ (take at out ++ t) ++ after
  unfolding written after
  put_is =
      let k = take (m - at) (drop at out) in
      let w : part ≡ t ++ drop (length t) k = p ∙ ap (λ (x : List ℕ). x ++ drop (length t) k) (take_all (length k) t (omega (arith, room))) in
      ap (λ (x : List ℕ). take at out ++ (x ++ post_of at (m - at) out)) w
      ∙ ap (λ (x : List ℕ). take at out ++ x) (append_assoc t (drop (length t) k) (post_of at (m - at) out))
      ∙ sym (append_assoc (take at out) t (drop (length t) k ++ post_of at (m - at) out))

  pub put_answer : take (at + (n + 1)) (set (put_mid at (m - at) out part) (at + n) 10) ≡ take at out ++ (t ++ (10 ∷ []))
  put_answer =
      let x = put_mid at (m - at) out part in
      let k : at + (n + 1) ≡ suc (at + n) = omega arith in
      let l : length (take at out ++ t) ≡ at + n = length-append (take at out) t ∙ omega (arith, put_all, length-take-le at out (omega (arith, long))) in
      ap (λ (j : ℕ). take j (set x (at + n) 10)) k
      ∙ take-suc-set x (at + n) 10 (omega (arith, put_all, put_length, long))
      ∙ ap (λ (y : List ℕ). y ++ (10 ∷ [])) (ap (take (at + n)) put_is ∙ take_at (take at out ++ t) after (at + n) l)
      ∙ append_assoc (take at out) t (10 ∷ [])

-- what shows that an answer has room, and where it is
pub ruleset answer_rules = (seen, put_all, put_answer, answer_short)

-- ---- the lines of s, answered one after another: left is what comes after those that were answered
pub lines_none : (s new : List ℕ) → new ≡ [] → Answering answer_of s 0 new (length s - length s) (length new)
lines_none s new e =
    let z : length s - length s ≡ 0 = omega arith in
    subst (λ (k : ℕ). Answering answer_of s 0 new k (length new)) (sym z)
    (subst (λ (n : ℕ). Answering answer_of s 0 new 0 n) (sym (ap length e)) (start answer_of s 0 new (omega arith)))

pub all_left : (s : List ℕ) → s ≡ drop (length s - length s) s
all_left s = let z : length s - length s ≡ 0 = omega arith in sym (ap (λ (k : ℕ). drop k s) z)

-- left contains a line feed, and after is what comes after it
module _ (left after : List ℕ) (h : holds 10 left ≡ true) (r : after ≡ after_first 10 left) where
  feed_inside : index_of (is 10) left < length left
  feed_inside = ltb-true _ _ (holds_found 10 left ∙ h)

  after_drop : after ≡ drop (index_of (is 10) left + 1) left
  after_drop = r ∙ after_is 10 left

  after_length : length after ≡ length left - (index_of (is 10) left + 1)
  after_length = ap length after_drop ∙ length-drop (index_of (is 10) left + 1) left

  pub left_shorter : length after < length left
  left_shorter = omega (arith, after_length, feed_inside)

  module _ (s : List ℕ) (q : left ≡ drop (length s - length left) s) where
    next_place : length s - length after ≡ (length s - length left) + index_of (is 10) left + 1
    next_place = omega (arith, after_length, feed_inside, ap length q, length-drop (length s - length left) s)

    pub next_left : after ≡ drop (length s - length after) s
    next_left =
        let n = index_of (is 10) left + 1 in
        let k : (length s - length left) + n ≡ length s - length after = omega (arith, next_place) in
        after_drop ∙ ap (drop n) q ∙ drop-drop n (length s - length left) s ∙ ap (λ (k : ℕ). drop k s) k

    pub lines_next : (line old new : List ℕ) → Answering answer_of s 0 old (length s - length left) (length old)
        → line ≡ up_to 10 left → new ≡ old ++ (answer_of line ++ (10 ∷ []))
        → Answering answer_of s 0 new (length s - length after) (length new)
    lines_next line old new g e a =
        let at = length s - length left in
        let n = index_of (is 10) left in
        let f : take (length new) new ≡ take (length old) old ++ (answer_of (take n left) ++ (10 ∷ [])) =
        take-length new ∙ a ∙ ap (λ (x : List ℕ). x ++ (answer_of line ++ (10 ∷ []))) (sym (take-length old))
        ∙ ap (λ (x : List ℕ). take (length old) old ++ (answer_of x ++ (10 ∷ []))) (e ∙ up_to_is 10 left) in
        subst (λ (k : ℕ). Answering answer_of s 0 new k (length new)) (sym next_place)
        (answered answer_of s 0 old at (length old) g left q n refl new (length new) feed_inside (omega arith) f)

-- no line feed is left
pub lines_end : (s left out : List ℕ) → left ≡ drop (length s - length left) s
    → Answering answer_of s 0 out (length s - length left) (length out) → holds 10 left ≡ false
    → Answered answer_of s 0 out (length s - length left) (length out)
lines_end s left out q g h =
    let l = ltb-false (index_of (is 10) left) (length left) (holds_found 10 left ∙ h) in
    finished answer_of s 0 out (length s - length left) (length out) g left q (index_of (is 10) left) refl (omega (arith, l, index_le (is 10) left))

-- what shows which lines were answered
pub ruleset line_rules = (lines_none, all_left, left_shorter, lines_end, full, some_put)

-- ---- a read into the buffer after the bytes that were carried over
module _ (buf part now : List ℕ) (count m : ℕ) (long : length buf ≡ m) (h : count < m) (v : take count buf ≡ now)
    (e : length part ≡ length (take (m - count) (drop count buf))) where
  pub came_more : {left after : Option (List ℕ)} (n : ℕ) → n ≤ length part → Consumes left after (take n part) × (n ≡ 0 → 0 < length part → IsAtEnd after)
      → Grew left after now (take (count + n) (put_mid count (m - count) buf part)) n
  came_more n fits came =
      record {
        piece = take n part;
        grown = put_part buf part count m long n (omega arith) fits ∙ ap (λ (l : List ℕ). l ++ take n part) v;
        count = length-take-le n part fits;
        taken = came.0;
        end = λ z. came.1 z (omega (arith, e, lent buf part count m long));
      }

-- what shows what a read added
pub ruleset read_rules = (seen, came_more)

-- ---- the last line
pub last_none : (l : List ℕ) → length l ≡ 0 → [] ≡ last_answer answer_of l
unfolding last_answer
last_none [] e = refl
last_none (b ∷ l) e = absurd (omega arith)

pub last_some : (l : List ℕ) → (length l ≡ 0 → ⊥) → answer_of l ++ (10 ∷ []) ≡ last_answer answer_of l
unfolding last_answer
last_some [] e = absurd (e refl)
last_some (b ∷ l) e = refl

-- ---- the line of arguments
pub help_short : length help_text ≤ answer_room
unfolding help_text
help_short = leb-true (length help_text) answer_room refl

pub given_help : (l : List ℕ) → same_text l (bytes "--help") ≡ true → help_text ≡ given_output l
unfolding given_output
given_help l e = rw e

pub given_line : (l : List ℕ) → same_text l (bytes "--help") ≡ false → answer_of l ++ (10 ∷ []) ≡ given_output l
unfolding given_output
given_line l e = rw e

-- what decides what is written for arguments
pub ruleset given_rules = (given_help, given_line, help_short, starts)

-- ---- the line that is carried over
take_min : (n : ℕ) (l : List ℕ) → take (min n (length l)) l ≡ take n l
take_min n l = go (leb n (length l)) refl
  where
    go : (q : Bool) → leb n (length l) ≡ q → take (min n (length l)) l ≡ take n l
    go true q = let k : min n (length l) ≡ n = omega (arith, leb-true n (length l) q) in ap (λ (m : ℕ). take m l) k
    go false q =
        let h = leb-false n (length l) q in
        take_all (min n (length l)) l (omega arith) ∙ sym (take_all n l (omega arith))

module _ (buf new now : List ℕ) (used full r : ℕ) (v : take full buf ≡ now) (in-buf : full ≤ length buf) (e : used ≡ whole_of now)
    (k : r ≡ min (full - used) (longest + 1)) where
  low : used ≤ full
  low = omega (arith, e, whole_le now, ap length v, length-take-le full buf in-buf)

  kept_length : length (drop used (take full buf)) ≡ full - used
  kept_length = length-drop used (take full buf) ∙ ap (λ (n : ℕ). n - used) (length-take-le full buf in-buf)

  kept_part : drop used buf ≡ drop used (take full buf) ++ drop full buf
  kept_part =
      ap (drop used) (sym (take-append-drop full buf))
      ∙ drop-append-le used (take full buf) (drop full buf) (omega (arith, low, length-take-le full buf in-buf))

  -- by the first bytes of the new buffer
  pub first_carried : take (used + r - used) new ≡ take (used + r - used) (drop used buf) → take r new ≡ carried_of longest now
  unfolding carried_of open_line
  first_carried m =
      let z : used + r - used ≡ r = omega arith in
      let d = drop used (take full buf) in
      let j : r ≡ min (longest + 1) (length d) = omega (arith, k, kept_length) in
      ap (λ (n : ℕ). take n new) (sym z) ∙ m ∙ ap (λ (n : ℕ). take n (drop used buf)) z
      ∙ ap (take r) kept_part ∙ take-append-le r d (drop full buf) (omega (arith, k, low, kept_length))
      ∙ ap (λ (n : ℕ). take n d) j ∙ take_min (longest + 1) d
      ∙ ap (take (longest + 1)) (ap (drop used) v ∙ ap (λ (n : ℕ). drop n now) e)

  -- by the copy of them
  pub carried : new ≡ paste buf 0 (drop used buf) (used + r - used) → take r new ≡ carried_of longest now
  carried m =
      let n = used + r - used in
      let o : 0 + n ≡ n = omega arith in
      first_carried
      (ap (take n) m ∙ ap (λ (i : ℕ). take i (paste buf 0 (drop used buf) n)) (sym o)
      ∙ take-paste buf 0 (drop used buf) n (omega arith) (omega (arith, k, low, length-drop used buf)))

-- what shows what is carried over
pub ruleset carry_rules = (seen, whole_le, carried)
