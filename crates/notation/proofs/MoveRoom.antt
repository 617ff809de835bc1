-- How much lent space is enough: 155 bytes for every move (first, last and fifty taken squares), 5 for its short text.
use Rattle.std.specs.Prelude.{Ok}
use Prim.Native.Nat.{ℕ, ◌≤◌}
use mathlib.Core.Path.{◌≡◌}
use mathlib.Core.List.{List}
use mathlib.Core.Bool.{true}
use native.Mathlib.Omega.{arith}
use lib.ListN.{length}
use borrow.Author.Tests.{le-leb}
use Rattle.positions.specs.Moves.{squares_of}
use Rattle.positions.specs.declared.moves.Move.{Move}
use Rattle.texts.specs.Lent.{emit_of}
use Rattle.notation.specs.MoveText.{move_text, short_text, to_hub_of, display_of}
use Rattle.notation.proofs.MoveTexts.{move_short, short_short}

pub to_hub_room : (m : Move) (out : List ℕ) → squares_of m ≡ true → 155 ≤ length out → to_hub_of m out ≡ Ok (length (move_text m))
unfolding to_hub_of emit_of
to_hub_room m out e h = rw (e, le-leb (length (move_text m)) (length out) (omega (arith, move_short m e)))

pub display_room : (m : Move) (out : List ℕ) → squares_of m ≡ true → 5 ≤ length out → display_of m out ≡ Ok (length (short_text m))
unfolding display_of emit_of
display_room m out e h = rw (e, le-leb (length (short_text m)) (length out) (omega (arith, short_short m)))
