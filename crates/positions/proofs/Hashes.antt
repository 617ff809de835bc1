-- The hash that `play` carries along is the hash of the successor from scratch: taken men and kings, promotion, and a capture
-- that ends on its own first square all follow from the two laws of one colour's keys.
use mathlib.Core.Path.{◌≡◌, refl, sym, ap, ap₂, ◌∙◌}
use Prim.Native.Nat.{ℕ, ◌^◌}
use native.Mathlib.Omega.{arith}
use mathlib.Core.Bool.{Bool, true, false, ◌||◌, cond}
use lib.Bits.{bit_or, bit_xor, xor_comm}
use Rattle.squares.specs.Sets.{has, without}
use Rattle.squares.specs.Squares.{is_square, bit_of, single, contains_of, promotion}
use Rattle.squares.specs.Pieces.{other}
use Rattle.squares.specs.Keys.{key_at, set_key_of, piece_key_of, side_key}
use Rattle.squares.specs.declared.piece.Color.{Color}
use Rattle.squares.specs.declared.piece.Color.TheVariants.{White, Black}
use Rattle.squares.specs.declared.piece.PieceKind.{PieceKind}
use Rattle.squares.specs.declared.piece.PieceKind.TheVariants.{Man, King}
use Rattle.squares.proofs.Folds.{xor_assoc}
use Rattle.squares.proofs.Numbers.{single_is}
use Rattle.squares.proofs.Keys.{set_key_bit_if}
use Rattle.positions.specs.Boards.{Board, board, board_of, own, enemy}
use Rattle.positions.specs.Hash.{keys_on, color_key, hash_of, position_of}
use Rattle.positions.specs.Acceptance.{Accepted, Sound}
use Rattle.positions.specs.Successor.{turned, successor, Playable, mover_key, kings_played, moved_key, position_after, play_of}
use Rattle.positions.specs.declared.moves.Move.{Move}
use Rattle.positions.specs.declared.position.Position.{Position}
use Rattle.positions.proofs.Turns as turns
use Rattle.positions.proofs.Turns.{Turn, own_now, king_now, kings_now}
use Rattle.positions.proofs.TurnKeys.{coloured, off, own_hash, foe_hash}
use Rattle.positions.proofs.Plays.{turn_of, contains_is, successor_is}

-- ---- exclusive ors regrouped
swap_last : (a b c : ℕ) → bit_xor (bit_xor a b) c ≡ bit_xor (bit_xor a c) b
swap_last a b c = xor_assoc a b c ∙ ap (bit_xor a) (xor_comm b c) ∙ sym (xor_assoc a c b)

-- White moves: its keys change by the mover's two, Black's by those taken, and the side key goes in
white_law : (w b t l d s : ℕ) → bit_xor (bit_xor (bit_xor (bit_xor w b) t) (bit_xor l d)) s ≡ bit_xor (bit_xor (bit_xor (bit_xor w l) d) (bit_xor b t)) s
white_law w b t l d s = ap (λ (x : ℕ). bit_xor x s)
    (ap (λ (x : ℕ). bit_xor x (bit_xor l d)) (xor_assoc w b t) ∙ swap_last w (bit_xor b t) (bit_xor l d)
    ∙ ap (λ (x : ℕ). bit_xor x (bit_xor b t)) (sym (xor_assoc w l d)))

-- Black moves: the other way round, and the side key goes out
black_law : (w b t l d s : ℕ) → bit_xor (bit_xor (bit_xor (bit_xor (bit_xor w b) s) t) (bit_xor l d)) s ≡ bit_xor (bit_xor w t) (bit_xor (bit_xor b l) d)
black_law w b t l d s =
    ap (λ (x : ℕ). bit_xor x s) (ap (λ (x : ℕ). bit_xor x (bit_xor l d)) (swap_last (bit_xor w b) s t) ∙ swap_last (bit_xor (bit_xor w b) t) s (bit_xor l d))
    ∙ off (bit_xor (bit_xor (bit_xor w b) t) (bit_xor l d)) s
    ∙ ap (λ (x : ℕ). bit_xor x (bit_xor l d)) (swap_last w b t)
    ∙ xor_assoc (bit_xor w t) b (bit_xor l d) ∙ ap (bit_xor (bit_xor w t)) (sym (xor_assoc b l d))

-- ---- the keys of the code are those of the laws
key_is : (c : Color) (k : PieceKind) (n : ℕ) → is_square n ≡ true → piece_key_of c k n ≡ key_at c k (bit_of n)
unfolding piece_key_of
key_is c k n e = ap (set_key_of c k) (single_is n e) ∙ set_key_bit_if c k true (bit_of n) (omega (arith, Rattle.squares.proofs.Numbers.bit_lt n e))

mover_is : (c : Color) (t : Bool) (n : ℕ) → is_square n ≡ true → mover_key c t n ≡ cond t (key_at c King (bit_of n)) (key_at c Man (bit_of n))
mover_is c true n e = key_is c King n e
mover_is c false n e = key_is c Man n e

-- ---- one move
module _ (b : Board) (m : Move) (a : Accepted b) (y : Playable b m) where
  abbrev f : ℕ
  f = bit_of m.from

  abbrev t : ℕ
  t = bit_of m.to

  abbrev promo : ℕ
  promo = promotion b.side

  abbrev kept : ℕ
  kept = without b.kings m.captured

  abbrev T : Turn (own b) (enemy b) b.kings f t m.captured
  T = turn_of b m a y

  -- the mover is not taken, so what it was can be read after the taken kings are gone
  was_is : contains_of kept m.from ≡ has b.kings f
  was_is = contains_is kept m.from y.from_square ∙ turns.kept_first (own b) (enemy b) b.kings f t m.captured promo T

  crown_is : contains_of promo m.to ≡ has promo t
  crown_is = contains_is promo m.to y.to_square

  own_played : bit_xor (own b) (bit_xor (single m.from) (single m.to)) ≡ own_now (own b) f t
  own_played =
      ap₂ (λ (x z : ℕ). bit_xor (own b) (bit_xor x z)) (single_is m.from y.from_square) (single_is m.to y.to_square)
      ∙ turns.own_is (own b) (enemy b) b.kings f t m.captured promo T

  kings_played_lem : kings_played b.side kept m ≡ kings_now b.kings promo f t m.captured
  unfolding kings_played
  kings_played_lem =
      ap₂ (λ (x z : Bool). cond x (bit_xor kept (bit_xor (single m.from) (single m.to))) (cond z (bit_or kept (single m.to)) kept)) was_is crown_is
      ∙ ap₂ (λ (x z : ℕ). cond (has b.kings f) (bit_xor kept (bit_xor x z)) (cond (has promo t) (bit_or kept z) kept)) (single_is m.from y.from_square) (single_is m.to y.to_square)
      ∙ go (has b.kings f) (has promo t) refl refl
    where
      go : (x z : Bool) → has b.kings f ≡ x → has promo t ≡ z
          → cond x (bit_xor kept (bit_xor (2 ^ f) (2 ^ t))) (cond z (bit_or kept (2 ^ t)) kept) ≡ kings_now b.kings promo f t m.captured
      go true z p q = turns.kings_king (own b) (enemy b) b.kings f t m.captured promo T p
      go false true p q = turns.kings_crown (own b) (enemy b) b.kings f t m.captured promo T p q
      go false false p q = turns.kings_man (own b) (enemy b) b.kings f t m.captured promo T p q

  abbrev lifted : ℕ
  lifted = cond (has b.kings f) (key_at b.side King f) (key_at b.side Man f)

  abbrev landed : ℕ
  landed = cond (king_now b.kings promo f t) (key_at b.side King t) (key_at b.side Man t)

  moved_is : moved_key b.side kept m ≡ bit_xor lifted landed
  unfolding moved_key king_now
  moved_is =
      ap₂ (λ (x z : Bool). bit_xor (mover_key b.side x m.from) (mover_key b.side (x || z) m.to)) was_is crown_is
      ∙ ap₂ bit_xor (mover_is b.side (has b.kings f) m.from y.from_square) (mover_is b.side (has b.kings f || has promo t) m.to y.to_square)

-- the position of turned sets
abbrev make : ℕ → ℕ → ℕ → Color → ℕ → Position
make w b k s h = record { white = w; black = b; kings = k; side = s; hash = h }

hash_at : (w b k : ℕ) (s : Color) (m : Move) (a : Accepted (board w b k s)) (y : Playable (board w b k s) m)
    → bit_xor (bit_xor (bit_xor (hash_of (board w b k s)) (keys_on (other s) m.captured k)) (bit_xor (lifted (board w b k s) m a y) (landed (board w b k s) m a y))) side_key
    ≡ hash_of (turned s (own_now (own (board w b k s)) (bit_of m.from) (bit_of m.to)) (without (enemy (board w b k s)) m.captured) (kings_now k (promotion s) (bit_of m.from) (bit_of m.to) m.captured))
unfolding hash_of color_key keys_on set_key_of coloured
hash_at w b k White m a y =
    let T = turn_of (board w b k White) m a y in
    let l = lifted (board w b k White) m a y in
    let d = landed (board w b k White) m a y in
    let us = coloured (key_at White Man) (key_at White King) w k in
    let them = coloured (key_at Black Man) (key_at Black King) b k in
    let taken = coloured (key_at Black Man) (key_at Black King) m.captured k in
    white_law us them taken l d side_key
    ∙ ap (λ (x : ℕ). bit_xor x side_key) (sym (ap₂ bit_xor
    (own_hash w b k (bit_of m.from) (bit_of m.to) m.captured (promotion White) T (key_at White Man) (key_at White King))
    (foe_hash w b k (bit_of m.from) (bit_of m.to) m.captured (promotion White) T (key_at Black Man) (key_at Black King))))
hash_at w b k Black m a y =
    let T = turn_of (board w b k Black) m a y in
    let l = lifted (board w b k Black) m a y in
    let d = landed (board w b k Black) m a y in
    let us = coloured (key_at Black Man) (key_at Black King) b k in
    let them = coloured (key_at White Man) (key_at White King) w k in
    let taken = coloured (key_at White Man) (key_at White King) m.captured k in
    black_law them us taken l d side_key
    ∙ sym (ap₂ bit_xor
    (foe_hash b w k (bit_of m.from) (bit_of m.to) m.captured (promotion Black) T (key_at White Man) (key_at White King))
    (own_hash b w k (bit_of m.from) (bit_of m.to) m.captured (promotion Black) T (key_at Black Man) (key_at Black King)))

-- a position after a move is the board after it, with a hash
after_board : (s : Color) (u e k h : ℕ) → h ≡ hash_of (turned s u e k) → position_after s u e k h ≡ position_of (turned s u e k)
after_board White u e k h p = λ i. make u e k Black (p i)
after_board Black u e k h p = λ i. make e u k White (p i)

-- the law
pub play_is : (p : Position) (m : Move) → Sound p → Playable (board_of p) m → play_of p m ≡ position_of (successor (board_of p) m)
unfolding play_of
play_is p m s y =
    let b = board_of p in
    let a = s.accepted in
    let u = own_now (own b) (bit_of m.from) (bit_of m.to) in
    let e = without (enemy b) m.captured in
    let k = kings_now p.kings (promotion p.side) (bit_of m.from) (bit_of m.to) m.captured in
    ap₂ (λ (x z : ℕ). position_after p.side x e z
    (bit_xor (bit_xor (bit_xor p.hash (keys_on (other p.side) m.captured p.kings)) (moved_key p.side (without p.kings m.captured) m)) side_key))
    (own_played b m a y) (kings_played_lem b m a y)
    ∙ after_board p.side u e k _
    (ap₂ (λ (x z : ℕ). bit_xor (bit_xor (bit_xor x (keys_on (other p.side) m.captured p.kings)) z) side_key) s.hash (moved_is b m a y)
    ∙ hash_at p.white p.black p.kings p.side m a y)
    ∙ ap position_of (sym (successor_is b m y))
