-- What the entries answer, in the numbers and order of docs/REFUSALS.md: parts 11, 7, 8; the piece on a square 11; flip 12.
use Rattle.std.specs.Prelude.{None, Ok}
use mathlib.Core.Path.{◌≡◌, refl}
use mathlib.Core.Bool.{not, cond, ◌&&◌}
use mathlib.Core.List.{[], ◌∷◌}
use Prim.Native.Nat.{ℕ}
use lib.Bits.{bit_and, bit_or}
use lib.Dec.{eqb}
use Rattle.squares.specs.Squares.{is_square, contains_of, squares_only, first_of}
use Rattle.squares.specs.Told.{told, told_if_any, result, when, when_at, in_order}
use Rattle.squares.proofs.Orders.{refused_unless, none_left}
use Rattle.squares.specs.declared.piece.Color.{Color}
use Rattle.squares.specs.declared.piece.Color.TheVariants.{White, Black}
use Rattle.positions.specs.Acceptance.{misplaced, sound, place_of, from_parts_of}
use Rattle.positions.specs.Boards.{Board, board, board_of, standing_of, piece_at_of}
use Rattle.positions.specs.Flip.{flip, flipped_of}
use Rattle.positions.specs.Hash.{position_of}
use Rattle.positions.specs.declared.position.Position.{Position}

-- the kings kept are those on pieces; 7 and 8 come with the lowest square
pub from_parts_told : (white black kings : ℕ) (side : Color)
    → told (from_parts_of white black kings side)
    ≡ (let kept = bit_and kings (bit_or white black) in
    in_order
    (when 11 (not (squares_only white && (squares_only black && squares_only kings)))
    ∷ when_at 7 (first_of (bit_and white black)) (not (eqb (bit_and white black) 0))
    ∷ when_at 8 (first_of (misplaced white black kept)) (not (eqb (misplaced white black kept) 0))
    ∷ [])
    (result (position_of (board white black kept side))))
unfolding from_parts_of place_of
from_parts_told white black kings side =
    refused_unless told 11 0 (squares_only white && (squares_only black && squares_only kings)) _ _ _ _ refl
    (refused_unless told 7 (first_of (bit_and white black)) (eqb (bit_and white black) 0) _ _ _ _ refl
    (refused_unless told 8 (first_of (misplaced white black (bit_and kings (bit_or white black)))) (eqb (misplaced white black (bit_and kings (bit_or white black))) 0) _ _ _ _ refl (none_left _)))

pub flipped_told : (p : Position) → told (flipped_of p) ≡ in_order (when 12 (not (sound p)) ∷ []) (result (position_of (flip (board_of p))))
unfolding flipped_of
flipped_told p = refused_unless told 12 0 (sound p) _ _ _ _ refl (none_left _)

-- 11, then the piece of the colour that has the square, or none
pub piece_at_told : (b : Board) (n : ℕ)
    → told_if_any (piece_at_of b n)
    ≡ (let king = contains_of b.kings n in
    in_order (when 11 (not (is_square n)) ∷ [])
    (told_if_any (cond (contains_of b.white n) (standing_of White king) (cond (contains_of b.black n) (standing_of Black king) (Ok None)))))
unfolding piece_at_of
piece_at_told b n = refused_unless told_if_any 11 0 (is_square n) _ _ _ _ refl (none_left _)
