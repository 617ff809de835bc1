-- A chain over the bits of a set, each as a set of its own, gives 2 to the power of each member, rising.
use Rattle.std.specs.Prelude.{Some, None}
use Rattle.std.proofs.lemmas.Iterator.{YieldsList}
use Rattle.std.proofs.lemmas.Iterator.Splits.{YieldsList-from_shown_while}
use mathlib.Core.Path.{◌≡◌, sym, ap, ap₂, ◌∙◌, subst}
use mathlib.Core.List.{List, ◌∷◌, map}
use Prim.Native.Nat.{ℕ, ◌^◌, ◌<◌}
use native.Mathlib.Omega.{arith}
use lib.ListN.{length}
use Rattle.squares.specs.Sets.{members}
use Rattle.squares.specs.Steps.{single_steps}
use Rattle.squares.specs.declared.bitboard.Singles.{Singles}
use Rattle.squares.proofs.Loops.{cleared}
use Rattle.squares.proofs.Members.{members_cons, members_none}

-- the members of m, each as a set of one bit
abbrev pub ones_of : ℕ → List ℕ
ones_of m = map (λ i. 2 ^ i) (members m)

pub singles_all : (s : Singles) (m : ℕ) → s.0 ≡ m → m < 2 ^ 64 → YieldsList single_steps (λ x. x) s (ones_of m)
singles_all s m e h =
    subst (λ (k : ℕ). YieldsList single_steps (λ x. x) s (ones_of k)) e
    (YieldsList-from_shown_while single_steps (λ x. x) (λ r. ones_of r.0) (λ r. r.0 < 2 ^ 64) none some s (rw e h))
  where
    none : (r t : Singles) → r.0 < 2 ^ 64 → single_steps r None t → length (ones_of r.0) ≡ 0
    none r t l z = ap (λ (k : ℕ). length (ones_of k)) z.0 ∙ ap (λ (is : List ℕ). length (map (λ i. 2 ^ i) is)) members_none

    some : (r : Singles) (x : ℕ) (t : Singles) → r.0 < 2 ^ 64 → single_steps r (Some x) t → (t.0 < 2 ^ 64) × (ones_of r.0 ≡ x ∷ ones_of t.0)
    some r x t l g = (
      omega (arith, cleared r.0 g.0, g.2),
      ap (map (λ i. 2 ^ i)) (members_cons r.0 g.0 l) ∙ ap₂ (λ (y k : ℕ). y ∷ ones_of k) (sym g.1) (sym g.2),
    )
