-- The table of the requests: the lines of the help text name the requests (`found`); the rows of the code, looked up and
-- printed.
use Rattle.std.specs.Prelude.{None, Some, option_map}
use Rattle.std.specs.declared.option.Option.{Option}
use Rattle.std.proofs.Common.{Bor}
use Rattle.std.specs.List.{zip, find}
use Prim.Native.Nat.{ℕ, ◌+◌, ◌<◌, ◌≤◌}
use mathlib.Core.Path.{◌≡◌, refl, ap, sym, ◌∙◌}
use mathlib.Core.List.{List, [], ◌∷◌, ◌++◌, map}
use mathlib.Core.Bool.{Bool, true, false, cond}
use lib.ListN.{length, get_or, drop}
use Rattle.std.proofs.iter.Yields.{fronts}
use Rattle.std.proofs.lemmas.Iterator.{YieldsList}
use Rattle.std.specs.declared.slice.Iter.{Iter}
use Rattle.std.proofs.lemmas.List.{at_drop_more, at_drop_all}
use Rattle.wording.specs.Words.{same_text, first_word}
use Rattle.texts.proofs.Overs.{over_moved, over_none}
use Rattle.texts.specs.Bytes as bytes
use Rattle.texts.specs.Bytes.{is, split_on, up_to}
use Rattle.texts.specs.Lent.{over}
use Rattle.texts.specs.declared.space.Space.{Space}
use Rattle.requests.specs.Requests.{Row, requests, help_text, request_of}
use Rattle.requests.specs.declared.requests.Request.{Request}

-- ---- what the first row that passes asks
module _ {A : Type 0} (test : A → Bool) (asks : A → Request) where
  abbrev pub first_asked : List A → Option Request
  first_asked [] = None
  first_asked (r ∷ rs) = cond (test r) (Some (asks r)) (first_asked rs)

  pub finds : (rs : List A) → option_map asks (find test rs) ≡ first_asked rs
  finds [] = refl
  finds (r ∷ rs) = go (finds rs) (test r)
    where
      go : option_map asks (find test rs) ≡ first_asked rs → (b : Bool) → option_map asks (cond b (Some r) (find test rs)) ≡ cond b (Some (asks r)) (first_asked rs)
      go h true = refl
      go h false = h

-- ---- the lines of the help text, each beside what it asks
unfoldable pub rows : List (Request × List ℕ)
rows = zip (map (λ (r : Row). r.asks) requests) (split_on (is 10) help_text)

-- a row has this name
abbrev pub has_name : List ℕ → Request × List ℕ → Bool
has_name name row = same_text name (first_word row.1)

pub found : (name : List ℕ) → option_map (λ r. r.0) (find (has_name name) rows) ≡ request_of name
unfolding request_of rows help_text first_word up_to bytes.split_on bytes.cons_head is same_text
found name = finds (has_name name) (λ r. r.0) rows

-- ---- the rows of the code: the name, the arguments and what is asked
abbrev pub CodeRow : Type 0
CodeRow = Bor (List ℕ) × Bor (List ℕ) × Request

abbrev pub is_named : List ℕ → CodeRow → Bool
is_named name row = same_text name row.0.now

-- i goes over the rows, o is the row that is found, and r what it asks
pub found_asks : (name : List ℕ) {i : Iter CodeRow} {rs : List CodeRow} (o : Option (Bor CodeRow)) {r : Option Request}
    → YieldsList fronts (λ x. x.now) i rs → option_map (λ x. x.now) o ≡ find (is_named name) rs → r ≡ option_map (λ x. x.now.2) o
    → r ≡ first_asked (is_named name) (λ x. x.2) rs
found_asks name {rs = rs} o y e q = q ∙ go o ∙ ap (option_map (λ (x : CodeRow). x.2)) e ∙ finds (is_named name) (λ x. x.2) rs
  where
    go : (o : Option (Bor CodeRow)) → option_map (λ x. x.now.2) o ≡ option_map (λ (x : CodeRow). x.2) (option_map (λ x. x.now) o)
    go None = refl
    go (Some x) = refl

-- the rows as the help prints them
abbrev pub lines_of : List CodeRow → List ℕ
lines_of [] = []
lines_of (r ∷ rs) = r.0.now ++ (32 ∷ (r.1.now ++ (10 ∷ lines_of rs)))

-- the row of index i is put: w is the space after the lines of all rows
pub row_next : (rs : List CodeRow) (i : ℕ) (r : CodeRow) (w a b c d e : Space) → i < length rs → over (lines_of (drop i rs)) a ≡ w
    → b ≡ over (get_or rs i r).0.now a → c ≡ over (32 ∷ []) b → d ≡ over (get_or rs i r).1.now c → e ≡ over (10 ∷ []) d → over (lines_of (drop (i + 1) rs)) e ≡ w
row_next rs i r w a b c d e l h p q s t =
    let row = get_or rs i r in
    let all : over (lines_of (row ∷ drop (i + 1) rs)) a ≡ w = sym (at_drop_more (λ (rs : List CodeRow). over (lines_of rs) a) rs i r l) ∙ h in
    over_moved (10 ∷ []) _ w d e (over_moved row.1.now _ w c d (over_moved (32 ∷ []) _ w b c (over_moved row.0.now _ w a b all p) q) s) t

-- no row is left
pub row_last : (rs : List CodeRow) (i : ℕ) (w a : Space) → length rs ≤ i → over (lines_of (drop i rs)) a ≡ w → a ≡ w
row_last rs i w a l h = sym (over_none a) ∙ sym (at_drop_all (λ (rs : List CodeRow). over (lines_of rs) a) rs i l) ∙ h
