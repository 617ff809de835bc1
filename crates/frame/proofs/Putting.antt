-- What a writer got so far, where its bytes are known.
use Prim.Native.Nat.{ℕ, ◌+◌, ◌-◌}
use mathlib.Core.Path.{◌≡◌, refl, ap, sym, ◌∙◌, subst}
use mathlib.Core.List.{List, [], ◌∷◌, ◌++◌, append_assoc, append-nil}
use native.Mathlib.Omega.{arith}
use lib.ListN.{length, take, drop, take-append-drop}
use lib.Seq.{take_at, take-append-add}
use Rattle.std.specs.Prelude.{Option, Result, Ok, Err}
use Rattle.std.specs.Io.KnownBytes.{Appends, WriteAppends}
use Rattle.std.proofs.KnownBytes.{Appends-nil, Appends-kept, Appends-trans}
use Rattle.texts.proofs.Cuts.{rest}

-- the writer got all of out but the bytes that are left
pub record Putting (a b : Option (List ℕ)) (out left : List ℕ) : Type 0 where
  pub put : List ℕ
  pub whole : out ≡ put ++ left
  pub sent : Appends a b put

pub none_put : (a : Option (List ℕ)) (out : List ℕ) → Putting a a out out
none_put a out = record { put = []; whole = refl; sent = Appends-nil a }

no_bytes : (l : List ℕ) → length l ≡ 0 → l ≡ []
no_bytes [] e = refl
no_bytes (b ∷ l) e = absurd (omega arith)

module _ {a b : Option (List ℕ)} {out left : List ℕ} (j : Putting a b out left) where
  pub put_more : (c : Option (List ℕ)) (n : ℕ) → Appends b c (take n left) → Putting a c out (take (length left - n) (drop n left))
  put_more c n more =
      record {
        put = j.put ++ take n left;
        whole =
            j.whole ∙ ap (λ (l : List ℕ). j.put ++ l) (sym (take-append-drop n left)) ∙ sym (append_assoc j.put (take n left) (drop n left))
            ∙ ap (λ (l : List ℕ). (j.put ++ take n left) ++ l) (sym (rest left n));
        sent = Appends-trans a b c j.put (take n left) j.sent more;
      }

  pub all_put : length left ≡ 0 → Appends a b out
  all_put e = subst (Appends a b) (sym (j.whole ∙ ap (λ (l : List ℕ). j.put ++ l) (no_bytes left e) ∙ append-nil j.put)) j.sent

  -- after any write, also one that failed, a beginning of out was written
  pub some_put : {E : Type 0} (c : Option (List ℕ)) (r : Result ℕ E) → WriteAppends b c r left → (n : ℕ) × Appends a c (take n out)
  some_put c (Ok n) more =
      let e : take (length j.put + n) out ≡ j.put ++ take n left = ap (take (length j.put + n)) j.whole ∙ take-append-add j.put left n in
      (length j.put + n, subst (Appends a c) (sym e) (Appends-trans a b c j.put (take n left) j.sent more))
  some_put c (Err f) kept =
      let e : take (length j.put) out ≡ j.put = ap (take (length j.put)) j.whole ∙ take_at j.put left (length j.put) refl in
      (length j.put, subst (Appends a c) (sym e) (Appends-kept a b c j.put j.sent kept))

-- write by write
pub ruleset by_writes = (none_put, put_more, all_put)
