-- The board of a search of `Captures` stays through a walk: what it came to is a fold of records.
use mathlib.Core.Path.{◌≡◌, subst}
use mathlib.Core.Bool.{Bool}
use mathlib.Core.List.{List, foldl, flat_map}
use Prim.Native.Nat.{ℕ}
use native.Mathlib.Omega.{arith}
use Rattle.squares.specs.Sets.{size, without}
use Rattle.squares.specs.Directions.{direction_at}
use Rattle.captures.specs.declared.movegen.Captures.{Captures}
use Rattle.captures.specs.Rays.{far, landings}
use Rattle.captures.specs.Walks.{up_to}
use Rattle.captures.specs.Record.{Ending, note_of}
use Rattle.captures.specs.Men.{Man}
use Rattle.captures.specs.Kings.{King}
use Rattle.captures.proofs.Recorded.{Kept, kept_trans, kept_sym, fold_kept}
use Rattle.captures.proofs.Men as men
use Rattle.captures.proofs.Kings as kings

module _ {N : ℕ} where
  folded : {a b : Captures N} (l : List Ending) → b ≡ foldl note_of a l → Kept a b
  folded {a} l e = rw e (fold_kept l a)

  both : {a b : Captures N} (k l : List Ending) → foldl note_of a k ≡ foldl note_of b l → Kept a b
  both {a} {b} k l e = kept_trans (subst (Kept a) e (fold_kept k a)) (kept_sym (fold_kept l b))

  pub man_kept : (them empty : ℕ) (s₀ : Captures N) (at c d : ℕ) (s : Captures N) (e : Bool) → men.Walked note_of them empty s₀ at c d s e → Kept s₀ s
  man_kept them empty s₀ at c d s e w = folded (up_to (men.branch them empty at c (size (without them c))) d) (w.found (size (without them c)) (omega arith))

  pub king_kept : (them empty : ℕ) (s₀ : Captures N) (at c : ℕ) (skip : ℕ → Bool) (d : ℕ) (s : Captures N) (e : Bool) → kings.Walked note_of them empty s₀ at c skip d s e → Kept s₀ s
  king_kept them empty s₀ at c skip d s e w = folded (up_to (kings.branch them empty at c skip (size (without them c))) d) (w.found (size (without them c)) (omega arith))

  pub ray_kept : (them empty c d o n : ℕ) (s₂ s : Captures N) (e₂ e : Bool) (left : List ℕ) → kings.Rayed note_of them empty c d o n s₂ s e₂ e left → Kept s₂ s
  ray_kept them empty c d o n s₂ s e₂ e left w =
      let on = flat_map (kings.onward them empty c d o n (size (without them c))) in
      both (on (landings far (direction_at d) empty n)) (on left) (w.same (size (without them c)) (omega arith))

  -- a search on from s is one on the board of s₀
  pub man_on : (s₀ s : Captures N) (at c : ℕ) (r : Captures N) → Kept s₀ s → Man note_of s.them s.empty s at c r → Man note_of s₀.them s₀.empty s at c r
  man_on s₀ s at c r k m = rw (← k.them, ← k.empty) m

  pub king_on : (s₀ s : Captures N) (at c : ℕ) (skip : ℕ → Bool) (r : Captures N) → Kept s₀ s → King note_of s.them s.empty s at c skip r → King note_of s₀.them s₀.empty s at c skip r
  king_on s₀ s at c skip r k m = rw (← k.them, ← k.empty) m
