-- What a fair board gives: bounds of its sets, colours apart, where the empty squares and the pieces of a kind are.
use mathlib.Core.Path.{◌≡◌, sym, ap, ◌∙◌}
use Prim.Native.Nat.{ℕ, ◌^◌, ◌<◌}
use native.Mathlib.Nat.{sub-le, lt_of_le_of_lt}
use native.Mathlib.Omega.{arith}
use mathlib.Core.Bool.{true, false, false≢true}
use mathlib.Core.List.{Memᴰ as Member}
use mathlib.Core.Logic.{◌⊎◌, inl, inr}
use lib.Bits.{bit_and, bit_or, or_lt}
use lib.Pow.{pow-lt}
use Rattle.squares.specs.declared.piece.Color.{Color}
use Rattle.squares.specs.declared.piece.Color.TheVariants.{White, Black}
use Rattle.squares.specs.declared.piece.PieceKind.{PieceKind}
use Rattle.squares.specs.declared.piece.PieceKind.TheVariants.{Man, King}
use Rattle.squares.specs.Pieces.{other}
use Rattle.squares.specs.Sets.{has, without, members}
use Rattle.squares.specs.Squares.{all, on_board}
use Rattle.squares.proofs.Bools.{and_left, and_right, or_none, not_so}
use Rattle.squares.proofs.Members.{in_members}
use Rattle.squares.proofs.Numbers.{all_lt, all_lt64, on_lt, has_all}
use Rattle.squares.proofs.Pointwise.{has_and, has_or}
use Rattle.positions.specs.Boards.{Board, colored, of_kind, own, enemy, pieces, empty}
use Rattle.rules.specs.Rules.{space, Fair}
use Rattle.squares.proofs.Cases.{of_without, of_or, of_bit}

pub wide : (s : ℕ) → s < 2 ^ 54 → s < 2 ^ 64
wide s h = omega arith

pub empty_lt : (b : Board) → empty b < 2 ^ 54
unfolding empty without
empty_lt b = lt_of_le_of_lt (sub-le all (bit_and all (bit_or b.white b.black))) all_lt

module _ (b : Board) (fair : Fair b) where
  colored_lt : (c : Color) → colored c b < 2 ^ 54
  colored_lt White = fair.white_fits
  colored_lt Black = fair.black_fits

  pub own_lt : own b < 2 ^ 54
  own_lt = colored_lt b.side

  pub enemy_lt : enemy b < 2 ^ 54
  enemy_lt = colored_lt (other b.side)

  colored_on : (c : Color) (i : ℕ) → has (colored c b) i ≡ true → on_board i ≡ true
  colored_on White i h = fair.white_on i h
  colored_on Black i h = fair.black_on i h

  pub own_on : (i : ℕ) → has (own b) i ≡ true → on_board i ≡ true
  own_on i h = colored_on b.side i h

  pub enemy_on : (i : ℕ) → has (enemy b) i ≡ true → on_board i ≡ true
  enemy_on i h = colored_on (other b.side) i h

  other_apart : (c : Color) (i : ℕ) → has (colored c b) i ≡ true → has (colored (other c) b) i ≡ false
  other_apart White i h = fair.apart i h
  other_apart Black i h = not_so (has b.white i) (λ e. false≢true (sym (fair.apart i e) ∙ h))

  pub own_enemy : (i : ℕ) → has (own b) i ≡ true → has (enemy b) i ≡ false
  own_enemy i h = other_apart b.side i h

  -- ---- empty squares
  pub of_empty : (i : ℕ) → has (empty b) i ≡ true → (on_board i ≡ true) × (has (bit_or b.white b.black) i ≡ false)
  unfolding empty
  of_empty i h =
      let r = of_without all (bit_or b.white b.black) all_lt64
      (or_lt 64 b.white b.black (wide b.white fair.white_fits) (wide b.black fair.black_fits)) i h in
      (sym (has_all i) ∙ r.0, r.1)

  pub empty_on : (i : ℕ) → has (empty b) i ≡ true → on_board i ≡ true
  empty_on i h = (of_empty i h).0

  -- no piece stands there
  pub empty_free : (i : ℕ) → has (empty b) i ≡ true → (has b.white i ≡ false) × (has b.black i ≡ false)
  empty_free i h = or_none (has b.white i) (has b.black i) (sym (has_or b.white b.black i) ∙ (of_empty i h).1)

  colored_free : (c : Color) (i : ℕ) → has (empty b) i ≡ true → has (colored c b) i ≡ false
  colored_free White i h = (empty_free i h).0
  colored_free Black i h = (empty_free i h).1

  pub enemy_not_empty : (i : ℕ) → has (enemy b) i ≡ true → has (empty b) i ≡ false
  enemy_not_empty i h = not_so (has (empty b) i) (λ e. false≢true (sym (colored_free (other b.side) i e) ∙ h))

  -- ---- the space of a piece that began on f
  pub space_lt : (f : ℕ) → f < 54 → space b f < 2 ^ 54
  unfolding space
  space_lt f h = or_lt 54 (empty b) (2 ^ f) (empty_lt b) (pow-lt h)

  pub of_space : (f i : ℕ) → has (space b f) i ≡ true → (has (empty b) i ≡ true) ⊎ (i ≡ f)
  unfolding space
  of_space f i h = go (of_or (empty b) (2 ^ f) i h)
    where
      go : (has (empty b) i ≡ true) ⊎ (has (2 ^ f) i ≡ true) → (has (empty b) i ≡ true) ⊎ (i ≡ f)
      go (inl e) = inl e
      go (inr e) = inr (of_bit f i e)

  -- an enemy blocks, taken or not
  pub enemy_blocks : (f i : ℕ) → has (own b) f ≡ true → has (enemy b) i ≡ true → has (space b f) i ≡ false
  enemy_blocks f i p q = not_so (has (space b f) i) (λ h. go (of_space f i h))
    where
      go : (has (empty b) i ≡ true) ⊎ (i ≡ f) → ⊥
      go (inl e) = false≢true (sym (enemy_not_empty i q) ∙ e)
      go (inr e) = false≢true (sym (own_enemy f p) ∙ ap (has (enemy b)) (sym e) ∙ q)

  -- ---- the pieces of a kind
  pub of_man : (i : ℕ) → has (pieces b Man) i ≡ true → (has (own b) i ≡ true) × (has b.kings i ≡ false)
  unfolding pieces of_kind
  of_man i h = of_without (own b) b.kings (wide (own b) own_lt) (wide b.kings fair.kings_fits) i h

  pub of_king : (i : ℕ) → has (pieces b King) i ≡ true → (has (own b) i ≡ true) × (has b.kings i ≡ true)
  unfolding pieces of_kind
  of_king i h =
      let both = sym (has_and (own b) b.kings i) ∙ h in
      (and_left (has (own b) i) (has b.kings i) both, and_right (has (own b) i) (has b.kings i) both)

  pub piece_own : (k : PieceKind) (i : ℕ) → has (pieces b k) i ≡ true → has (own b) i ≡ true
  piece_own Man i h = (of_man i h).0
  piece_own King i h = (of_king i h).0

  pub piece_on : (k : PieceKind) (i : ℕ) → has (pieces b k) i ≡ true → on_board i ≡ true
  piece_on k i h = own_on i (piece_own k i h)

  pub piece_lt : (k : PieceKind) (i : ℕ) → has (pieces b k) i ≡ true → i < 54
  piece_lt k i h = on_lt i (piece_on k i h)

  pub piece_member : (k : PieceKind) (i : ℕ) → has (pieces b k) i ≡ true → Member i (members (pieces b k))
  piece_member k i h = in_members (pieces b k) i (omega (arith, piece_lt k i h)) h

  pub man_not_king : (i : ℕ) → has (pieces b Man) i ≡ true → has (pieces b King) i ≡ true → ⊥
  man_not_king i p q = false≢true (sym (of_man i p).1 ∙ (of_king i q).1)

  pub men_lt : pieces b Man < 2 ^ 54
  unfolding pieces of_kind without
  men_lt = lt_of_le_of_lt (sub-le (own b) (bit_and (own b) b.kings)) own_lt
