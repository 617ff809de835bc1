-- What a legal move on an accepted board counts: the game and the book agree on its kind, and the book's tallies are what the
-- pieces standing after it lack.
use mathlib.Core.Path.{◌≡◌, refl, sym, ap, ap₂, ◌∙◌}
use Prim.Native.Nat.{ℕ, ◌+◌}
use native.Mathlib.Omega.{arith}
use mathlib.Core.Bool.{Bool, true, false, not, cond, ◌&&◌, ◌||◌, or-true}
use lib.Dec.{eqb, ltb}
use borrow.Author.Tests.{lt-ltb, le-ltb, eqb-true, eqb-false, eq-eqb}
use Rattle.squares.specs.Sets.{has, size}
use Rattle.squares.specs.Squares.{bit_of, promotion}
use Rattle.squares.specs.declared.piece.Color.{Color}
use Rattle.squares.proofs.Numbers.{bit_lt}
use Rattle.squares.proofs.Pointwise.{has_without}
use Rattle.squares.proofs.Sizes.{size_zero, size_some}
use Rattle.positions.specs.Acceptance.{Accepted}
use Rattle.positions.specs.Boards.{Board, own, men_of, kings_of, same_color}
use Rattle.positions.proofs.Measure.{Ply, capture, man, king, Smaller, fewer, nearer, Level}
use Rattle.positions.specs.Moves.{is_capture}
use Rattle.positions.specs.Successor.{promotes, Playable}
use Rattle.positions.specs.declared.moves.Move.{Move}
use Rattle.positions.proofs.Accepts.{colored_fits, kings_fit_lem}
use Rattle.positions.proofs.Measures.{capture_falls, man_falls, king_stays}
use Rattle.positions.proofs.Plays.{contains_is, promotes_is}
use Rattle.positions.proofs.Records.{capture_is}
use Rattle.positions.proofs.Standings as standings
use Rattle.positions.proofs.Standings.{promoted, men_taken, kings_taken}
use Rattle.rules.specs.Rules.{Legal}
use Rattle.rules.proofs.Laws.{fair_of_accepted, legal_playable}
use Rattle.movegen.proofs.Plies.{ply_of}
use Rattle.movegen.proofs.Taken.{men_taken_lem, kings_taken_lem}
use Rattle.games.specs.Book.{Tally, Book, standing, takes, man_move, is_promotion, tallied, reached}
use Rattle.games.specs.Games.{man_moves, irreversible}

module _ (p : Board) (m : Move) (a : Accepted p) (y : Playable p m) where
  -- ---- the kind of the move
  man_is : man_moves p m ≡ not (has p.kings (bit_of m.from))
  unfolding man_moves
  man_is = ap not (contains_is p.kings m.from y.from_square)

  man_book : man_move p m ≡ not (has p.kings (bit_of m.from))
  unfolding man_move
  man_book =
      has_without (own p) p.kings (colored_fits p a p.side) (kings_fit_lem p a) (bit_of m.from) (omega (arith, bit_lt m.from y.from_square))
      ∙ ap (λ (x : Bool). x && not (has p.kings (bit_of m.from))) y.mover

  pub man_agrees : man_moves p m ≡ man_move p m
  man_agrees = man_is ∙ sym man_book

  pub promotion_agrees : promotes p m ≡ is_promotion p m
  unfolding is_promotion
  promotion_agrees = promotes_is p m y ∙ ap (λ (x : Bool). x && has (promotion p.side) (bit_of m.to)) (sym man_book)

  pub taking_agrees : is_capture m ≡ takes m
  unfolding takes
  taking_agrees = capture_is m ∙ go (eqb m.captured 0) refl
    where
      go : (t : Bool) → eqb m.captured 0 ≡ t → not t ≡ ltb 0 (size m.captured)
      go true e = sym (le-ltb 0 (size m.captured) (omega (arith, ap size (eqb-true m.captured 0 e), size_zero)))
      go false e = sym (lt-ltb 0 (size m.captured) (size_some m.captured y.set_fits (let n = eqb-false m.captured 0 e in omega arith)))

  -- ---- its promotion, as it is counted
  promotion_counts : (c : Color) → cond (same_color c p.side && is_promotion p m) 1 0 ≡ promoted c p m
  promotion_counts c = ap (λ (x : Bool). cond (same_color c p.side && x) 1 0) (sym promotion_agrees)

-- ---- the pieces standing: what stood before the move, from what stands after it and the tallies
module _ (b : Book) (m : Move) (a : Accepted (standing b)) (y : Playable (standing b) m) where
  pub men_add : (c : Color) (t : Tally) (n : ℕ) → size (men_of c (standing b)) + t.promotions + t.men_taken ≡ n
      → size (men_of c (reached b m)) + (tallied c (standing b) m t).promotions + (tallied c (standing b) m t).men_taken ≡ n
  unfolding tallied reached
  men_add c t n e =
      let s = standings.standing c (standing b) m a y in
      omega (arith, s.men, promotion_counts (standing b) m a y c, men_taken_lem (standing b) m a y c, e)

  pub kings_add : (c : Color) (t : Tally) (n : ℕ) → size (kings_of c (standing b)) + t.kings_taken ≡ n + t.promotions
      → size (kings_of c (reached b m)) + (tallied c (standing b) m t).kings_taken ≡ n + (tallied c (standing b) m t).promotions
  unfolding tallied reached
  kings_add c t n e =
      let s = standings.standing c (standing b) m a y in
      omega (arith, s.kings, promotion_counts (standing b) m a y c, kings_taken_lem (standing b) m a y c, e)

-- ---- a capture or a man move lowers the measure, a quiet king move keeps it
pub data Measured (b : Book) (m : Move) : Type 0 where
  falls : irreversible (standing b) m ≡ true → Smaller (reached b m) (standing b) → Measured b m
  stays : irreversible (standing b) m ≡ false → Level (reached b m) (standing b) → Measured b m

pub measured : (b : Book) (m : Move) → Accepted (standing b) → Legal (standing b) m → Measured b m
unfolding irreversible takes reached
measured b m a h = go (ply_of (standing b) m a h)
  where
    y : Playable (standing b) m
    y = legal_playable (standing b) (fair_of_accepted (standing b) a) m h

    go : Ply (standing b) m → Measured b m
    go (capture n) =
        falls (ap (λ (t : Bool). t || man_moves (standing b) m) (taking_agrees (standing b) m a y ∙ lt-ltb 0 (size m.captured) n))
        (fewer (capture_falls (standing b) m a y n))
    go (man z k n) =
        let f = man_falls (standing b) m a y z k n in
        falls (ap (λ (t : Bool). is_capture m || t) (man_is (standing b) m a y ∙ ap not k) ∙ or-true (is_capture m)) (nearer f.0 f.1)
    go (king z k) =
        stays (ap₂ (λ (s t : Bool). s || t) (capture_is m ∙ ap not (eq-eqb m.captured 0 z)) (man_is (standing b) m a y ∙ ap not k)) (king_stays (standing b) m a y z k)
