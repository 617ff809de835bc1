-- The number of squares that a ray gives fits.
use Rattle.std.specs.Prelude.{Option}
use Rattle.std.specs.Iterator.{Yields}
use Rattle.std.specs.Iterator.Runs.{EachRunFrom, Trigger, YieldsRun}
use Rattle.std.proofs.lemmas.Iterator.{YieldsList}
use Rattle.std.proofs.lemmas.Iterator.Adapters.{at_most_from_yields_List}
use mathlib.Core.List.{List}
use mathlib.Core.Path.{subst}
use Prim.Native.Nat.{◌+◌, ◌^◌, ◌<◌}
use native.Mathlib.Omega.{arith}
use lib.ListN.{length}

-- the length of the list that an iterator gives bounds its count
pub count_fits : {S A B : Type 0} {steps : S → Option A → S → Type 0} {v : A → B} {s : S} {all : List B} → YieldsList steps v s all → length all < 2 ^ 64
    → EachRunFrom steps s (λ p. Trigger (2 ^ 64) → 0 + p.len < 2 ^ 64)
unfolding YieldsRun
count_fits {steps = steps} {s = s} {all} road few = λ p _ from _.
    omega (arith, few, p.long, (at_most_from_yields_List {n = length all} road (omega arith)).runs p.items p.gave.0.0 (subst (λ t. Yields steps t p.items p.gave.0.0) from p.gave.0.1))
