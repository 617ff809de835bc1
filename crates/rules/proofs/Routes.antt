-- A route has as many landings as pieces are taken, and ends on the move's last square.
use mathlib.Core.Path.{◌≡◌, refl, sym, ap, ◌∙◌}
use Prim.Native.Nat.{ℕ, ◌+◌}
use mathlib.Core.List.{List, [], ◌∷◌, ◌++◌}
use lib.ListN.{length, length-append}
use Rattle.squares.specs.declared.piece.PieceKind.{PieceKind}
use Rattle.squares.specs.Sets.{size}
use Rattle.squares.specs.Squares.{square_at_bit}
use Rattle.squares.proofs.Sizes.{size_bit, size_add}
use Rattle.positions.specs.Boards.{Board}
use Rattle.rules.specs.Ordered.{last}
use Rattle.rules.specs.Rules.{Sequence, first, then, route, Fair}
use Rattle.rules.proofs.Jumps.{jump_target}
use Rattle.rules.proofs.Paths.{over_lt}

last_snoc : (i : ℕ) (l : List ℕ) (x : ℕ) → last i (l ++ (x ∷ [])) ≡ x
unfolding last
last_snoc i [] x = refl
last_snoc i (y ∷ l) x = last_snoc y l x

pub route_last : {b : Board} {k : PieceKind} {f i t : ℕ} (s : Sequence b k f i t) (j : ℕ) → last j (route s) ≡ square_at_bit i
unfolding route last
route_last (first {l = l} h) j = refl
route_last (then {l = l} s h) j = last_snoc j (route s) (square_at_bit l)

module _ (b : Board) (fair : Fair b) where
  pub route_number : {k : PieceKind} {f i t : ℕ} (s : Sequence b k f i t) → length (route s) ≡ size t
  unfolding route
  route_number (first {o = o} h) = sym (size_bit o (over_lt b fair h))
  route_number (then {taken = t} {o = o} {l = l} s h) =
      length-append (route s) (square_at_bit l ∷ []) ∙ ap (λ (n : ℕ). n + 1) (route_number s) ∙ sym (size_add t o (over_lt b fair h) (jump_target h).untaken)
