-- What a record is in each of its cases, and that it leaves the board of the search alone.
use Rattle.std.specs.Prelude.{Option, Some, None}
use mathlib.Core.Path.{◌≡◌, refl, sym, ap, ◌∙◌}
use mathlib.Core.Bool.{Bool, true, false, cond, ◌||◌}
use mathlib.Core.List.{List, [], ◌∷◌, foldl}
use Prim.Native.Nat.{ℕ, ◌≤◌, ◌<◌}
use lib.Dec.{eqb, ltb}
use borrow.Author.Tests.{le-ltb, lt-ltb}
use Rattle.squares.specs.Sets.{size}
use Rattle.positions.specs.declared.moves.Move.{Move}
use Rattle.captures.specs.declared.movegen.Captures.{Captures}
use Rattle.captures.specs.Lists.{listed}
use Rattle.captures.specs.Record.{Ending, moves_in, move_of, cleared_by, appended, no_room, anew_by, more_at, more_by, record_of, note_of}

module _ {N : ℕ} where
  -- the two ways in which a sequence that ends on `to` is recorded
  abbrev pub anew_of : Captures N → ℕ → ℕ → Captures N
  anew_of s to c = anew_by s (move_of s to c)

  abbrev pub more_of : Captures N → ℕ → ℕ → Captures N
  more_of s to c = more_by s (move_of s to c)

  -- ---- the cases
  module _ (s : Captures N) (to c n : ℕ) (e : n ≡ size c) where
    pub record_few : (eqb n 0 || ltb n s.best) ≡ true → s ≡ record_of s to c
    unfolding record_of
    record_few t = sym (rw (← e, t) refl)

    module _ (t : (eqb n 0 || ltb n s.best) ≡ false) where
      pub record_anew : s.best < n → more_by (cleared_by s n) (move_of s to c) ≡ record_of s to c
      unfolding record_of
      record_anew h = ap (λ (b : ℕ). more_by (cleared_by s b) (move_of s to c)) e ∙ sym (rw (← e, t, lt-ltb s.best n h) refl)

      pub record_there : n ≤ s.best → listed (moves_in s) (move_of s to c) ≡ true → s ≡ record_of s to c
      unfolding record_of
      record_there h there = sym (rw (← e, t, le-ltb s.best n h, there) refl)

      pub record_more : n ≤ s.best → listed (moves_in s) (move_of s to c) ≡ false → more_by s (move_of s to c) ≡ record_of s to c
      unfolding record_of
      record_more h new = sym (rw (← e, t, le-ltb s.best n h, new) refl)

  -- ---- the board of the search
  -- the board of a search is not changed by it
  pub record Kept (a b : Captures N) : Type 0 where
    pub them : b.them ≡ a.them
    pub empty : b.empty ≡ a.empty
    pub from : b.from ≡ a.from

  pub kept_refl : (a : Captures N) → Kept a a
  kept_refl a = record { them = refl; empty = refl; from = refl }

  pub kept_trans : {a b c : Captures N} → Kept a b → Kept b c → Kept a c
  kept_trans p q = record { them = q.them ∙ p.them; empty = q.empty ∙ p.empty; from = q.from ∙ p.from }

  pub kept_sym : {a b : Captures N} → Kept a b → Kept b a
  kept_sym p = record { them = sym p.them; empty = sym p.empty; from = sym p.from }

  -- what holds in each case holds of a record
  pub by_cases : (P : Captures N → Type 0) (s : Captures N) (to c : ℕ) → P s → P (anew_of s to c) → P (more_of s to c) → P (record_of s to c)
  unfolding record_of
  by_cases P s to c same anew more = go (eqb (size c) 0 || ltb (size c) s.best) (ltb s.best (size c)) (listed (moves_in s) (move_of s to c))
    where
      go : (p q r : Bool) → P (cond p s (cond q (anew_of s to c) (cond r s (more_of s to c))))
      go true q r = same
      go false true r = anew
      go false false true = same
      go false false false = more

  more_kept : (s : Captures N) (m : Move) → Kept s (more_by s m)
  unfolding more_by
  more_kept s m = at s.len
    where
      go : (n : ℕ) (b : Bool) → Kept s (cond b (appended s n m) (no_room s))
      go n true = record { them = refl; empty = refl; from = refl }
      go n false = record { them = refl; empty = refl; from = refl }

      at : (o : Option ℕ) → Kept s (more_at s m o)
      at None = kept_refl s
      at (Some n) = go n (ltb n N)

  pub record_kept : (s : Captures N) (to c : ℕ) → Kept s (record_of s to c)
  record_kept s to c =
      let m = more_kept (cleared_by s (size c)) (move_of s to c) in
      by_cases (Kept s) s to c (kept_refl s) (record { them = m.them; empty = m.empty; from = m.from }) (more_kept s (move_of s to c))

  pub fold_kept : (l : List Ending) (s : Captures N) → Kept s (foldl note_of s l)
  fold_kept [] s = kept_refl s
  fold_kept (e ∷ l) s = kept_trans (record_kept s e.to e.taken) (fold_kept l (note_of s e))
