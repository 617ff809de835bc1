-- The pieces of each colour that stand after a move, as sums: what stood before it, the colour's promotion, its men and kings
-- taken (docs/RULES.md, "The book").
use mathlib.Core.Path.{◌≡◌, ap}
use Prim.Native.Nat.{ℕ, ◌+◌}
use native.Mathlib.Omega.{arith}
use mathlib.Core.Bool.{not, cond, ◌&&◌}
use lib.Bits.{bit_and}
use Rattle.squares.specs.Sets.{has, size, without}
use Rattle.squares.specs.Squares.{bit_of, promotion}
use Rattle.squares.specs.declared.piece.Color.{Color}
use Rattle.squares.specs.declared.piece.Color.TheVariants.{White, Black}
use Rattle.squares.proofs.Sizes.{one}
use Rattle.positions.specs.Boards.{Board, board, own, enemy, men_of, kings_of, same_color}
use Rattle.positions.specs.Acceptance.{Accepted}
use Rattle.positions.specs.Successor.{promotes, turned, successor, Playable}
use Rattle.positions.specs.declared.moves.Move.{Move}
use Rattle.positions.proofs.Turns.{own_now, kings_now}
use Rattle.positions.proofs.TurnCounts.{counted}
use Rattle.positions.proofs.Plays.{turn_of, promotes_is, successor_is}

-- what a move counts for a colour: its promotion
abbrev pub promoted : Color → Board → Move → ℕ
promoted c b m = cond (same_color c b.side && promotes b m) 1 0

-- its men and kings taken, each as it was before the move
unfoldable pub men_taken : Color → Board → Move → ℕ
men_taken c b m = cond (same_color c b.side) 0 (size (without m.captured b.kings))

unfoldable pub kings_taken : Color → Board → Move → ℕ
kings_taken c b m = cond (same_color c b.side) 0 (size (bit_and m.captured b.kings))

-- b and the board a after the move m
pub record Standing (c : Color) (b a : Board) (m : Move) : Type 0 where
  pub men : size (men_of c a) + promoted c b m + men_taken c b m ≡ size (men_of c b)
  pub kings : size (kings_of c a) + kings_taken c b m ≡ size (kings_of c b) + promoted c b m

module _ (b : Board) (m : Move) (a : Accepted b) (y : Playable b m) where
  abbrev pub now : Board
  now = turned b.side (own_now (own b) (bit_of m.from) (bit_of m.to)) (without (enemy b) m.captured) (kings_now b.kings (promotion b.side) (bit_of m.from) (bit_of m.to) m.captured)

  -- the mover's promotion, counted
  promotion_is : one (promotes b m) ≡ one (not (has b.kings (bit_of m.from)) && has (promotion b.side) (bit_of m.to))
  promotion_is = ap one (promotes_is b m y)

standing_at : (c : Color) (w b k : ℕ) (s : Color) (m : Move) (a : Accepted (board w b k s)) (y : Playable (board w b k s) m)
    → Standing c (board w b k s) (now (board w b k s) m a y) m
unfolding men_taken kings_taken
standing_at White w b k White m a y =
    let p = promotion_is (board w b k White) m a y in
    let c = counted w b k (bit_of m.from) (bit_of m.to) m.captured (promotion White) (turn_of (board w b k White) m a y) in
    record { men = omega (arith, c.men_now); kings = omega (arith, c.kings_now) }
standing_at Black w b k White m a y =
    let c = counted w b k (bit_of m.from) (bit_of m.to) m.captured (promotion White) (turn_of (board w b k White) m a y) in
    record { men = omega (arith, c.foe_men_now); kings = omega (arith, c.foe_kings_now) }
standing_at Black w b k Black m a y =
    let p = promotion_is (board w b k Black) m a y in
    let c = counted b w k (bit_of m.from) (bit_of m.to) m.captured (promotion Black) (turn_of (board w b k Black) m a y) in
    record { men = omega (arith, c.men_now); kings = omega (arith, c.kings_now) }
standing_at White w b k Black m a y =
    let c = counted b w k (bit_of m.from) (bit_of m.to) m.captured (promotion Black) (turn_of (board w b k Black) m a y) in
    record { men = omega (arith, c.foe_men_now); kings = omega (arith, c.foe_kings_now) }

-- men after + promotion + men taken ≡ men before; kings after + kings taken ≡ kings before + promotion
pub standing : (c : Color) (b : Board) (m : Move) → Accepted b → Playable b m → Standing c b (successor b m) m
standing c b m a y = rw (successor_is b m y) (standing_at c b.white b.black b.kings b.side m a y)
