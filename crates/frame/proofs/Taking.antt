-- One more read, or one more byte of a line.
use Prim.Native.Nat.{ℕ, ◌+◌, ◌-◌, ◌≤◌, ◌<◌}
use mathlib.Core.Path.{◌≡◌, refl, ap, sym, ◌∙◌, subst}
use mathlib.Core.List.{List, [], ◌∷◌, ◌++◌}
use mathlib.Core.Bool.{Bool, true, false, ◌||◌}
use native.Mathlib.Omega.{arith}
use native.Mathlib.Numerals.{add-one}
use Rattle.std.specs.declared.option.Option.{Option}
use Rattle.std.proofs.KnownBytes.{Consumes-nil, Consumes-trans}
use Rattle.std.specs.Io.KnownBytes.{Consumes}
use Rattle.std.specs.Io.{ReadsAtMost}
use lib.Dec.{eqb}
use lib.ListN.{length, take, drop, set, length-set, length-drop}
use lib.Seq.{drop-drop, take-suc-set, drop-set-lt, take-append-add, take-append-le, length-take-le}
use borrow.Author.Tests.{ne_eqb}
use borrow.Rule.Slice.PartMut.{put_mid, post_of, same_len_mid}
use Rattle.texts.specs.Bytes.{holds}
use Rattle.texts.proofs.Cuts.{rest}
use Rattle.frame.specs.Input.{LineIn, CameIn, came_of}
use Rattle.frame.specs.declared.output.Failure.{Failure}
use Rattle.frame.specs.declared.output.Failure.TheVariants as failure
use Rattle.std.specs.Prelude.{Result, Ok, Err}

-- ---- one read
fits : {E : Type 0} (got : Result ℕ E) (space : List ℕ) → ReadsAtMost got space → CameIn (length space) (came_of got)
fits (Ok n) space h = h.0
fits (Err e) space h = tt

pub came_in : {E : Type 0} (got : Result ℕ E) (space : List ℕ) (r : Result ℕ Failure) → ReadsAtMost got space → r ≡ came_of got → CameIn (length space) r
came_in got space r h e = subst (λ (x : Result ℕ Failure). CameIn (length space) x) (sym e) (fits got space h)

-- a read into the part of a buffer from a place on
module _ (buf part : List ℕ) (n : ℕ) (h : n < length buf) (e : length part ≡ length (take (length buf - n) (drop n buf))) where
  pub part_length : length part ≡ length buf - n
  part_length = e ∙ ap length (rest buf n) ∙ length-drop n buf

  pub same_buffer : length (put_mid n (length buf - n) buf part) ≡ length buf
  same_buffer = same_len_mid n (length buf - n) buf part e

  pub part_fits : (k : ℕ) → k ≤ length part → n + k ≤ length buf
  part_fits k c = omega (arith, c, part_length)

-- ---- a line, byte by byte
pub line_start : (o : List ℕ) → LineIn o o 0
unfolding holds
line_start o = record { fits = omega arith; line = refl; after = refl }

-- a byte more that is no line feed
lacks_more : (s : List ℕ) (b : ℕ) → holds 10 s ≡ false → eqb b 10 ≡ false → holds 10 (s ++ (b ∷ [])) ≡ false
unfolding holds
lacks_more [] b h e = rw e
lacks_more (a ∷ s) b h e = go (eqb a 10) h (λ (g : holds 10 s ≡ false). lacks_more s b g e)
  where
    go : (q : Bool) → (q || holds 10 s) ≡ false → (holds 10 s ≡ false → holds 10 (s ++ (b ∷ [])) ≡ false) → (q || holds 10 (s ++ (b ∷ []))) ≡ false
    go true g i = g
    go false g i = i g

pub line_next : {o new : List ℕ} {n : ℕ} (b : ℕ) → LineIn o new n → n < length new → (b ≡ 10 → ⊥) → LineIn o (set new n b) (n + 1)
line_next {o} {new} {n} b l h e =
    record {
      fits = omega (arith, length-set new n b);
      line =
          ap (λ (k : ℕ). holds 10 (take k (set new n b))) (add-one n) ∙ ap (holds 10) (take-suc-set new n b h)
          ∙ lacks_more (take n new) b l.line (ne_eqb b 10 e);
      after = drop-set-lt (n + 1) new n b (omega arith) ∙ sym (drop-drop 1 n new) ∙ ap (drop 1) l.after ∙ drop-drop 1 n o;
    }

-- ---- what was taken so far, where the bytes of the reader are known
pub none_taken : (a : Option (List ℕ)) (buf : List ℕ) → Consumes a a (take 0 buf)
none_taken a buf = Consumes-nil a

module _ (a b c : Option (List ℕ)) (buf : List ℕ) (n : ℕ) (before : Consumes a b (take n buf)) where
  -- a read into the part of the buffer from n on
  module _ (part : List ℕ) (h : n ≤ length buf) where
    pub taken_more : (k : ℕ) → k ≤ length part → Consumes b c (take k part) → Consumes a c (take (n + k) (put_mid n (length buf - n) buf part))
    taken_more k fits more =
        let post = post_of n (length buf - n) buf in
        let e : take (n + k) (put_mid n (length buf - n) buf part) ≡ take n buf ++ take k part =
        ap (λ (m : ℕ). take (m + k) (put_mid n (length buf - n) buf part)) (sym (length-take-le n buf h))
        ∙ take-append-add (take n buf) (part ++ post) k
        ∙ ap (λ (l : List ℕ). take n buf ++ l) (take-append-le k part post fits) in
        subst (Consumes a c) (sym e) (Consumes-trans a b c (take n buf) (take k part) before more)

  -- a byte more
  pub byte_more : (x : ℕ) → n < length buf → Consumes b c (x ∷ []) → Consumes a c (take (n + 1) (set buf n x))
  byte_more x h more =
      let e : take (n + 1) (set buf n x) ≡ take n buf ++ (x ∷ []) = ap (λ (k : ℕ). take k (set buf n x)) (add-one n) ∙ take-suc-set buf n x h in
      subst (Consumes a c) (sym e) (Consumes-trans a b c (take n buf) (x ∷ []) before more)

-- read by read
pub ruleset by_reads = (part_fits, same_buffer, taken_more)
