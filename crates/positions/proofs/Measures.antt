-- The measure falls at a capture and at a man's move, and stays at a quiet king move; so a board cannot come back after a
-- capture or a man's move.
use mathlib.Core.Path.{◌≡◌, refl, ap, ◌∙◌}
use Prim.Native.Nat.{ℕ, ◌+◌, ◌<◌}
use native.Mathlib.Omega.{arith}
use mathlib.Core.Bool.{true, false}
use Rattle.squares.specs.Sets.{has, size}
use Rattle.squares.specs.Squares.{bit_of, promotion}
use Rattle.squares.specs.declared.piece.Color.{Color}
use Rattle.squares.specs.declared.piece.Color.TheVariants.{White, Black}
use Rattle.squares.proofs.Sizes.{size_zero}
use Rattle.positions.specs.Boards.{Board, board}
use Rattle.positions.specs.Acceptance.{Accepted}
use Rattle.positions.specs.Successor.{successor, Playable}
use Rattle.positions.proofs.Measure.{pieces_on, rows_before, rows_ahead, Smaller, fewer, nearer, Level}
use Rattle.positions.specs.declared.moves.Move.{Move}
use Rattle.positions.proofs.TurnCounts.{pieces_fall, rows_fall, rows_stay, foe_rows}
use Rattle.positions.proofs.Plays.{turn_of, successor_is}
use Rattle.positions.proofs.Standings.{now}

-- ---- one move
pieces_at : (w b k : ℕ) (s : Color) (m : Move) (a : Accepted (board w b k s)) (y : Playable (board w b k s) m)
    → pieces_on (now (board w b k s) m a y) + size m.captured ≡ pieces_on (board w b k s)
unfolding pieces_on
pieces_at w b k White m a y = pieces_fall w b k (bit_of m.from) (bit_of m.to) m.captured (promotion White) (turn_of (board w b k White) m a y)
pieces_at w b k Black m a y = omega (arith, pieces_fall b w k (bit_of m.from) (bit_of m.to) m.captured (promotion Black) (turn_of (board w b k Black) m a y))

man_at : (w b k : ℕ) (s : Color) (m : Move) (a : Accepted (board w b k s)) (y : Playable (board w b k s) m)
    → m.captured ≡ 0 → has k (bit_of m.from) ≡ false → rows_before s (bit_of m.to) < rows_before s (bit_of m.from)
    → rows_ahead (now (board w b k s) m a y) < rows_ahead (board w b k s)
unfolding rows_ahead
man_at w b k White m a y e q l =
    let T = turn_of (board w b k White) m a y in
    omega (
      arith,
      rows_fall w b k (bit_of m.from) (bit_of m.to) m.captured (promotion White) T (rows_before White) q l,
      foe_rows w b k (bit_of m.from) (bit_of m.to) m.captured (promotion White) T (rows_before Black) e,
    )
man_at w b k Black m a y e q l =
    let T = turn_of (board w b k Black) m a y in
    omega (
      arith,
      rows_fall b w k (bit_of m.from) (bit_of m.to) m.captured (promotion Black) T (rows_before Black) q l,
      foe_rows b w k (bit_of m.from) (bit_of m.to) m.captured (promotion Black) T (rows_before White) e,
    )

king_at : (w b k : ℕ) (s : Color) (m : Move) (a : Accepted (board w b k s)) (y : Playable (board w b k s) m)
    → m.captured ≡ 0 → has k (bit_of m.from) ≡ true → rows_ahead (now (board w b k s) m a y) ≡ rows_ahead (board w b k s)
unfolding rows_ahead
king_at w b k White m a y e q =
    let T = turn_of (board w b k White) m a y in
    omega (
      arith,
      rows_stay w b k (bit_of m.from) (bit_of m.to) m.captured (promotion White) T (rows_before White) q,
      foe_rows w b k (bit_of m.from) (bit_of m.to) m.captured (promotion White) T (rows_before Black) e,
    )
king_at w b k Black m a y e q =
    let T = turn_of (board w b k Black) m a y in
    omega (
      arith,
      rows_stay b w k (bit_of m.from) (bit_of m.to) m.captured (promotion Black) T (rows_before Black) q,
      foe_rows b w k (bit_of m.from) (bit_of m.to) m.captured (promotion Black) T (rows_before White) e,
    )

module _ (b : Board) (m : Move) (a : Accepted b) (y : Playable b m) where
  -- as many pieces fewer as are taken
  pub pieces_after : pieces_on (successor b m) + size m.captured ≡ pieces_on b
  pieces_after = rw (successor_is b m y) (pieces_at b.white b.black b.kings b.side m a y)

  stay : m.captured ≡ 0 → pieces_on (successor b m) ≡ pieces_on b
  stay e = omega (arith, pieces_after, ap size e, size_zero)

  pub capture_falls : 0 < size m.captured → pieces_on (successor b m) < pieces_on b
  capture_falls h = omega (arith, pieces_after)

  pub man_falls : m.captured ≡ 0 → has b.kings (bit_of m.from) ≡ false → rows_before b.side (bit_of m.to) < rows_before b.side (bit_of m.from)
      → (pieces_on (successor b m) ≡ pieces_on b) × (rows_ahead (successor b m) < rows_ahead b)
  man_falls e q l = (stay e, rw (successor_is b m y) (man_at b.white b.black b.kings b.side m a y e q l))

  pub king_stays : m.captured ≡ 0 → has b.kings (bit_of m.from) ≡ true → Level (successor b m) b
  king_stays e q = record { pieces = stay e; rows = rw (successor_is b m y) (king_at b.white b.black b.kings b.side m a y e q) }

-- ---- boards by their measure
pub level_refl : (b : Board) → Level b b
level_refl b = record { pieces = refl; rows = refl }

pub level_trans : {a b c : Board} → Level a b → Level b c → Level a c
level_trans v w = record { pieces = v.pieces ∙ w.pieces; rows = v.rows ∙ w.rows }

pub smaller_level : {a b c : Board} → Smaller a b → Level b c → Smaller a c
smaller_level (fewer h) v = fewer (omega (arith, v.pieces))
smaller_level (nearer e h) v = nearer (e ∙ v.pieces) (omega (arith, v.rows))

pub level_smaller : {a b c : Board} → Level a b → Smaller b c → Smaller a c
level_smaller v (fewer h) = fewer (omega (arith, v.pieces))
level_smaller v (nearer e h) = nearer (v.pieces ∙ e) (omega (arith, v.rows))

pub smaller_trans : {a b c : Board} → Smaller a b → Smaller b c → Smaller a c
smaller_trans (fewer h) (fewer l) = fewer (omega arith)
smaller_trans (fewer h) (nearer e l) = fewer (omega arith)
smaller_trans (nearer e h) (fewer l) = fewer (omega arith)
smaller_trans (nearer e h) (nearer d l) = nearer (e ∙ d) (omega arith)

-- equal boards have equal measures
pub not_smaller : {a b : Board} → a ≡ b → Smaller a b → ⊥
not_smaller e (fewer h) = omega (arith, ap pieces_on e)
not_smaller e (nearer d h) = omega (arith, ap rows_ahead e)
