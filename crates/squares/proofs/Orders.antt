-- An order of refusals, test by test; and what the entries of this crate answer, in the numbers and order of docs/REFUSALS.md.
use Rattle.std.specs.Prelude.{Err, Ok, Result}
use Rattle.std.proofs.Common.{◌≡◌, ℕ, Bool, true, false, cond, not, ◌||◌, eqb, List, [], ◌∷◌, refl}
use Prim.Native.Char.{code}
use Rattle.squares.specs.Pieces.{color_from_char_of, piece_from_char_of}
use Rattle.squares.specs.Refusals.{refusal}
use Rattle.squares.specs.Squares.{is_square, squares_only, of_square, from_bits_of}
use Rattle.squares.specs.Told.{told, Told, Refusing, result, when, when_at, in_order}
use Rattle.squares.specs.declared.piece.Color.{Color}
use Rattle.squares.specs.declared.piece.Color.TheVariants.{White, Black}
use Rattle.squares.specs.declared.piece.PieceKind.{PieceKind}
use Rattle.squares.specs.declared.piece.PieceKind.TheVariants.{Man, King}
use Rattle.squares.specs.declared.piece.Piece.{Piece}
use Rattle.squares.specs.declared.refusal.Refusal.{Refusal}

-- ---- one refusal before the others

module _ {A B : Type 0} (told : A → Told B) (n square : ℕ) (t : Bool) (a r : A) (rest : List Refusing) (after : Told B) where
  -- r, which has this number and square, where t does not hold, else a
  pub refused_unless : told r ≡ record { number = n; square = square; value = [] } → told a ≡ in_order rest after
      → told (cond t a r) ≡ in_order (when_at n square (not t) ∷ rest) after
  unfolding in_order
  refused_unless h k = go t
    where
      go : (t : Bool) → told (cond t a r) ≡ in_order (when_at n square (not t) ∷ rest) after
      go true = k
      go false = h

  -- r where t holds, else a
  pub refused_where : told r ≡ record { number = n; square = square; value = [] } → told a ≡ in_order rest after
      → told (cond t r a) ≡ in_order (when_at n square t ∷ rest) after
  unfolding in_order
  refused_where h k = go t
    where
      go : (t : Bool) → told (cond t r a) ≡ in_order (when_at n square t ∷ rest) after
      go true = h
      go false = k

-- no refusal is left
pub none_left : {B : Type 0} (x : Told B) → x ≡ in_order [] x
unfolding in_order
none_left x = refl

-- ---- the entries of this crate

-- a number's square, bit, row or file: 11
pub of_square_told : (n x : ℕ) → told (of_square n x) ≡ in_order (when 11 (not (is_square n)) ∷ []) (result x)
unfolding of_square
of_square_told n x = refused_unless told 11 0 (is_square n) _ _ _ _ refl (none_left _)

-- a set: 11
pub from_bits_told : (s : ℕ) → told (from_bits_of s) ≡ in_order (when 11 (not (squares_only s)) ∷ []) (result s)
unfolding from_bits_of
from_bits_told s = refused_unless told 11 0 (squares_only s) _ _ _ _ refl (none_left _)

-- a side's letter: 2
pub color_told : (c : ℕ)
    → told (color_from_char_of c)
    ≡ in_order (when 2 (not (eqb c (code "W") || eqb c (code "B"))) ∷ []) (result (cond (eqb c (code "W")) White Black))
unfolding color_from_char_of in_order
color_told c = go (eqb c (code "W")) (eqb c (code "B"))
  where
    go : (w b : Bool)
        → told (cond w (Ok White) (cond b (Ok Black) (Err (refusal 2))))
        ≡ in_order (when 2 (not (w || b)) ∷ []) (result (cond w White Black))
    go true b = refl
    go false true = refl
    go false false = refl

-- a piece's letter: 5
pub piece_told : (c : ℕ)
    → told (piece_from_char_of c)
    ≡ (let w = eqb c (code "w") in
    let b = eqb c (code "b") in
    let W = eqb c (code "W") in
    in_order (when 5 (not (w || (b || (W || eqb c (code "B"))))) ∷ [])
    (result (record { color = cond w White (cond b Black (cond W White Black)); kind = cond (w || b) Man King })))
unfolding piece_from_char_of in_order
piece_told c = go (eqb c (code "w")) (eqb c (code "b")) (eqb c (code "W")) (eqb c (code "B"))
  where
    known_as : Color → PieceKind → Result Piece Refusal
    known_as color kind = Ok (record { color = color; kind = kind })

    go : (w b W B : Bool)
        → told (cond w (known_as White Man) (cond b (known_as Black Man) (cond W (known_as White King) (cond B (known_as Black King) (Err (refusal 5))))))
        ≡ in_order (when 5 (not (w || (b || (W || B)))) ∷ []) (result (record { color = cond w White (cond b Black (cond W White Black)); kind = cond (w || b) Man King }))
    go true b W B = refl
    go false true W B = refl
    go false false true B = refl
    go false false false true = refl
    go false false false false = refl
