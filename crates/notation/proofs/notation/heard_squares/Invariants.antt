-- One square a turn: what is left is heard as all is.
use mathlib.Core.Path.{◌≡◌}
use mathlib.Core.Bool.{cond}
use Prim.Native.Nat.{ℕ}
use lib.ListN.{length, drop}
use Rattle.texts.specs.Bytes.{is, split_on}
use Rattle.notation.specs.Notation.{heard_squares, unsaid}
use Rattle.notation.proofs.notation.heard_squares.Given as goal

abbrev pub invariant-loop-part : goal.invariant-loop-part
invariant-loop-part l =
    let all = split_on (is (cond l.capture 120 45)) l.s in
    (◌≡◌ {A = ℕ} l.h.count (length l.yielded)) × (heard_squares l.h (drop (length l.yielded) all) ≡ heard_squares (unsaid l.capture) all)
