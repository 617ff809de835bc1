-- The refusals of the writers, in the numbers and the order of docs/REFUSALS.md: FEN 12, 18, 19; Hub 12, 19; and those of a square's
-- text: 1, 4. The orders of the readers, FEN 1, then 2 to 4 in reading order, 7, 8, and Hub 1, 2, 5, 6, 7, 8, are those of reading
-- itself (specs/Fen.antt, specs/Hub.antt).
use mathlib.Core.Path.{◌≡◌, refl}
use mathlib.Core.Bool.{not}
use mathlib.Core.List.{List, [], ◌∷◌}
use Prim.Native.Nat.{ℕ}
use lib.Dec.{leb}
use lib.ListN.{length}
use Rattle.squares.specs.Told.{told, result, when, in_order}
use Rattle.squares.proofs.Orders.{refused_unless, none_left}
use Rattle.positions.specs.Acceptance.{sound}
use Rattle.positions.specs.Boards.{board_of}
use Rattle.positions.specs.declared.position.Position.{Position}
use Rattle.texts.specs.Bytes.{longest_text, readable, read_square, from_str_of}
use Rattle.texts.specs.Fen.{fen_text, fen_of}
use Rattle.texts.specs.Hub.{hub_text, hub_of}
use Rattle.texts.specs.Lent.{emit_of}

pub fen_told : (p : Position) (out : List ℕ)
    → told (fen_of p out)
    ≡ in_order
    (when 12 (not (sound p)) ∷ when 18 (not (leb (length (fen_text (board_of p))) 200)) ∷ when 19 (not (leb (length (fen_text (board_of p))) (length out))) ∷ [])
    (result (length (fen_text (board_of p))))
unfolding fen_of emit_of
fen_told p out =
    refused_unless told 12 0 (sound p) _ _ _ _ refl
    (refused_unless told 18 0 (leb (length (fen_text (board_of p))) 200) _ _ _ _ refl
    (refused_unless told 19 0 (leb (length (fen_text (board_of p))) (length out)) _ _ _ _ refl (none_left _)))

pub hub_told : (p : Position) (out : List ℕ)
    → told (hub_of p out)
    ≡ in_order (when 12 (not (sound p)) ∷ when 19 (not (leb (length (hub_text (board_of p))) (length out))) ∷ []) (result (length (hub_text (board_of p))))
unfolding hub_of emit_of
hub_told p out =
    refused_unless told 12 0 (sound p) _ _ _ _ refl
    (refused_unless told 19 0 (leb (length (hub_text (board_of p))) (length out)) _ _ _ _ refl (none_left _))

-- 1, then 4 or the square
pub from_str_told : (s : List ℕ) → told (from_str_of s) ≡ in_order (when 1 (not (readable longest_text s)) ∷ []) (told (read_square s))
unfolding from_str_of
from_str_told s = refused_unless told 1 0 (readable longest_text s) _ _ _ _ refl (none_left _)
