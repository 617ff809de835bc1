-- Where a legal move leads: a piece of the side moves, to an empty square or back to its first one, and takes enemies only.
use mathlib.Core.Path.{◌≡◌, refl, sym, ap, ap₂, ◌∙◌}
use Prim.Native.Nat.{ℕ, ◌^◌, ◌<◌}
use mathlib.Core.Bool.{Bool, true, not, ◌&&◌, ◌||◌, false≢true, or-true}
use mathlib.Core.Logic.{◌⊎◌, inl, inr}
use lib.Dec.{eqb, lit<}
use lib.Bits.{or_lt}
use lib.Pow.{pow-lt}
use borrow.Author.Tests.{eq-eqb}
use Rattle.squares.specs.declared.piece.PieceKind.{PieceKind}
use Rattle.squares.specs.declared.piece.PieceKind.TheVariants.{Man, King}
use Rattle.squares.specs.Directions.{Direction, next}
use Rattle.squares.specs.Sets.{has}
use Rattle.squares.specs.Squares.{bit_of, on_board, square_at_bit}
use Rattle.squares.proofs.Bools.{and_both}
use Rattle.squares.proofs.Numbers.{bit_square, bit_back}
use Rattle.squares.proofs.Pointwise.{has_zero, member_lt}
use Rattle.positions.specs.Boards.{Board, own, enemy, empty}
use Rattle.positions.specs.Moves.{squares_of}
use Rattle.positions.specs.Successor.{Playable}
use Rattle.positions.proofs.Accepts.{say_squares}
use Rattle.rules.specs.Rules.{BitMove, numbered, space, Glide, rest, step, Flight, Jump, man_jump, king_jump, Capture, Quiet, man_step, king_flight, BitLegal, capture, quiet, Fair}
use Rattle.rules.proofs.Boards.{wide, enemy_lt, own_on, enemy_on, empty_on, empty_free, of_space, piece_own}
use Rattle.rules.proofs.Jumps.{jump_target}
use Rattle.squares.proofs.Cases.{of_or, of_bit}
use Rattle.rules.proofs.Paths.{Path, begin, onward, of_sequence}

glide_end : {e : ℕ} {d : Direction} {i j : ℕ} → Glide e d i j → has e i ≡ true → has e j ≡ true
glide_end rest h = h
glide_end (step q g) h = glide_end g q

pub flight_end : {e i j : ℕ} {d : Direction} → Flight e d i j → has e j ≡ true
flight_end f = glide_end f.far f.near

pub land_in : {b : Board} {f t i o l : ℕ} {k : PieceKind} → Jump b f t i k o l → has (space b f) l ≡ true
land_in (man_jump d h e) = e
land_in (king_jump d g h e) = flight_end e

-- where a piece that began on f may stand, and what it may have taken
pub record Stands (b : Board) (f i taken : ℕ) : Type 0 where
  pub on : (has (empty b) i ≡ true) ⊎ (i ≡ f)
  pub enemies : (j : ℕ) → has taken j ≡ true → has (enemy b) j ≡ true
  pub fits : taken < 2 ^ 54

pub record Goes (b : Board) (w : BitMove) : Type 0 where
  pub mover : has (own b) w.from ≡ true
  pub stands : Stands b w.from w.to w.taken

module _ (b : Board) (fair : Fair b) where
  pub path_stands : {k : PieceKind} {f i t : ℕ} → Path b k f i t → Stands b f i t
  path_stands begin = record { on = inr refl; enemies = λ j e. absurd (false≢true (sym (has_zero j) ∙ e)); fits = lit< tt }
  path_stands {f = f} (onward {taken = t} {o = o} {l = l} p j) =
      let s = path_stands p in
      record {
        on = of_space b fair f l (land_in j);
        enemies = λ i e. go i (s.enemies i) (of_or t (2 ^ o) i e);
        fits = or_lt 54 t (2 ^ o) s.fits (pow-lt (member_lt 54 (enemy b) o (enemy_lt b fair) (jump_target j).enemy));
      }
    where
      go : (i : ℕ) → (has t i ≡ true → has (enemy b) i ≡ true) → (has t i ≡ true) ⊎ (has (2 ^ o) i ≡ true) → has (enemy b) i ≡ true
      go i r (inl e) = r e
      go i r (inr e) = ap (has (enemy b)) (of_bit o i e) ∙ (jump_target j).enemy

  pub capture_goes : (w : BitMove) → Capture b w → Goes b w
  capture_goes w c = record { mover = piece_own b fair c.kind w.from c.piece; stands = path_stands (of_sequence c.sequence) }

  calm : (f i : ℕ) → has (empty b) i ≡ true → Stands b f i 0
  calm f i e = record { on = inl e; enemies = λ j q. absurd (false≢true (sym (has_zero j) ∙ q)); fits = lit< tt }

  pub quiet_goes : {w : BitMove} → Quiet b w → Goes b w
  quiet_goes (man_step {i = i} d p f e) = record { mover = piece_own b fair Man i p; stands = calm i (next d i) e }
  quiet_goes (king_flight {i = i} {j = j} d p f) = record { mover = piece_own b fair King i p; stands = calm i j (flight_end f) }

  pub legal_goes : (w : BitMove) → BitLegal b w → Goes b w
  legal_goes w (capture c most) = capture_goes w c
  legal_goes w (quiet none q) = quiet_goes q

  pub from_on : {w : BitMove} → Goes b w → on_board w.from ≡ true
  from_on {w} g = own_on b fair w.from g.mover

  pub to_on_lem : {w : BitMove} → Goes b w → on_board w.to ≡ true
  to_on_lem {w} g = go g.stands.on
    where
      go : (has (empty b) w.to ≡ true) ⊎ (w.to ≡ w.from) → on_board w.to ≡ true
      go (inl e) = empty_on b fair w.to e
      go (inr e) = ap on_board e ∙ from_on g

  -- what a successor needs
  pub goes_playable : {w : BitMove} → Goes b w → Playable b (numbered w)
  goes_playable {w} g = record {
    from_square = bit_square w.from (from_on g);
    to_square = bit_square w.to (to_on_lem g);
    mover = ap (has (own b)) (bit_back w.from (from_on g)) ∙ g.mover;
    enemies = g.stands.enemies;
    set_fits = wide w.taken g.stands.fits;
    free = go g.stands.on;
  }
    where
      none : (i : ℕ) → i ≡ w.to → has (empty b) w.to ≡ true → (not (has b.white i) && not (has b.black i)) ≡ true
      none i e h =
          let r = empty_free b fair w.to h in
          ap₂ (λ (x y : Bool). not x && not y) (ap (has b.white) e ∙ r.0) (ap (has b.black) e ∙ r.1)

      go : (has (empty b) w.to ≡ true) ⊎ (w.to ≡ w.from)
          → (eqb (square_at_bit w.to) (square_at_bit w.from)
          || (not (has b.white (bit_of (square_at_bit w.to))) && not (has b.black (bit_of (square_at_bit w.to))))) ≡ true
      go (inl e) =
          ap (λ (t : Bool). eqb (square_at_bit w.to) (square_at_bit w.from) || t)
          (none (bit_of (square_at_bit w.to)) (bit_back w.to (to_on_lem g)) e)
          ∙ or-true (eqb (square_at_bit w.to) (square_at_bit w.from))
      go (inr e) = ap (λ (t : Bool). t || (not (has b.white (bit_of (square_at_bit w.to))) && not (has b.black (bit_of (square_at_bit w.to)))))
          (eq-eqb (square_at_bit w.to) (square_at_bit w.from) (ap square_at_bit e))

  -- the test of refusal 11 passes
  pub goes_squares : {w : BitMove} → Goes b w → squares_of (numbered w) ≡ true
  unfolding squares_of
  goes_squares {w} g =
      and_both _ _ (bit_square w.from (from_on g)) (and_both _ _ (bit_square w.to (to_on_lem g))
      (say_squares w.taken (record { fits = g.stands.fits; on = λ i h. enemy_on b fair i (g.stands.enemies i h) })))
