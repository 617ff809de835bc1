-- What the generator makes of an accepted board is the list of the rules; a board seen by its side is the board; the step of
-- a depth count is the successor.
use Rattle.std.specs.Prelude.{Option, Some, None, Result, Ok, Err, ok_or}
use mathlib.Core.Path.{◌≡◌, refl, sym, ap, ◌∙◌}
use Prim.Native.Nat.{ℕ}
use mathlib.Core.Bool.{Bool, true, false, cond}
use lib.Bits.{bit_and, bit_or, or_comm}
use Rattle.squares.specs.Sets.{without}
use Rattle.squares.specs.Squares.{all}
use Rattle.squares.specs.Pieces.{other}
use Rattle.squares.specs.declared.piece.Color.{Color}
use Rattle.squares.specs.declared.piece.Color.TheVariants.{White, Black}
use Rattle.squares.specs.declared.piece.PieceKind.TheVariants.{Man, King}
use Rattle.positions.specs.Acceptance.{sound, Accepted}
use Rattle.positions.specs.Boards.{Board, board, board_of, colored, own, enemy, of_kind, pieces, empty}
use Rattle.positions.specs.Hash.{position_of}
use Rattle.positions.specs.Successor.{successor, Playable, position_after, play_of}
use Rattle.positions.specs.declared.moves.Move.{Move}
use Rattle.positions.specs.declared.position.Position.{Position}
use Rattle.positions.proofs.Accepts.{position_sound, sound_says}
use Rattle.positions.proofs.Hashes.{play_is}
use Rattle.rules.specs.Ordered.{legal}
use Rattle.rules.specs.Rules.{Fair}
use Rattle.rules.proofs.Laws.{fair_of_accepted}
use Rattle.quiets.specs.Quiets.{quiet_moves_of}
use Rattle.quiets.specs.Tests.{has_capture_of}
use Rattle.captures.specs.View.{view_of}
use Rattle.squares.specs.declared.refusal.Refusal.{Refusal}
use Rattle.squares.specs.declared.refusal.Refusal.TheVariants.{BadPosition, TooManyMoves}
use Rattle.squares.proofs.Refusals.{not_ok}
use Rattle.captures.specs.Lists.{whole_list}
use Rattle.captures.specs.declared.moves.MoveList.{MoveList}
use Rattle.movegen.specs.Lists.{view_at}
use Rattle.movegen.specs.Generate.{facing, seen, capture_moves_of, moves_by_sets, generate_of, next_of}
use Rattle.captures.specs.declared.view.View.{View}
use Rattle.capture_laws.proofs.Search.{search_of}
use Rattle.capture_laws.proofs.Laws.{filled_whole, captures_open}
use Rattle.quiet_laws.proofs.Laws.{capture_open, legal_listed}

-- ---- a board and what its side sees of it
pub view_seen : (v : View) → view_of (seen v) ≡ v
view_seen v = go v.side v.us v.them v.kings
  where
    go : (s : Color) (us them kings : ℕ) → view_of (facing s us them kings) ≡ record { us = us; them = them; kings = kings; side = s }
    go White us them kings = refl
    go Black us them kings = refl

pub seen_view : (b : Board) → seen (view_of b) ≡ b
seen_view b = go b.side b.white b.black b.kings
  where
    go : (s : Color) (w l kings : ℕ) → seen (view_of (board w l kings s)) ≡ board w l kings s
    go White w l kings = refl
    go Black w l kings = refl

-- ---- the list
-- a list that was handed on, or the refusal where there is none
pub listed_some : {l : MoveList} (o : Option MoveList) → ◌≡◌ {A = Result MoveList Refusal} (Ok l) (ok_or o TooManyMoves) → Some l ≡ o
listed_some None q = cc
listed_some (Some x) q = cc

pub listed_none : {f : Refusal} (o : Option MoveList) → ◌≡◌ {A = Result MoveList Refusal} (Err f) (ok_or o TooManyMoves) → (None ≡ o) × (f ≡ TooManyMoves)
listed_none None q = (refl, cc)
listed_none (Some x) q = not_ok _ q

-- the sets that the code makes are those of the board
sets_are : (b : Board) → generate_of (view_of b) ≡ moves_by_sets (pieces b Man) (pieces b King) (enemy b) (empty b) b.side
unfolding generate_of pieces of_kind empty
sets_are b = ap (λ (s : ℕ). moves_by_sets (without (own b) b.kings) (bit_and (own b) b.kings) (enemy b) (without all s) b.side) (both b.side)
  where
    both : (s : Color) → bit_or (colored s b) (colored (other s) b) ≡ bit_or b.white b.black
    both White = refl
    both Black = or_comm b.black b.white

-- where a jump is open the captures are the legal moves
pub captures_are : (b : Board) → Fair b → has_capture_of (pieces b Man) (pieces b King) (enemy b) (empty b) ≡ true
    → capture_moves_of (pieces b Man) (pieces b King) (enemy b) (empty b) ≡ whole_list (legal b)
unfolding capture_moves_of
captures_are b fair e = filled_whole (search_of b) (legal b) (captures_open b fair ((capture_open b fair).0 e))

-- the legal moves as a list, where there are at most 256
pub generated : (b : Board) → Fair b → generate_of (view_of b) ≡ whole_list (legal b)
unfolding moves_by_sets
generated b fair = sets_are b ∙ go (has_capture_of (pieces b Man) (pieces b King) (enemy b) (empty b)) refl
  where
    go : (t : Bool) → has_capture_of (pieces b Man) (pieces b King) (enemy b) (empty b) ≡ t
        → cond (has_capture_of (pieces b Man) (pieces b King) (enemy b) (empty b)) (capture_moves_of (pieces b Man) (pieces b King) (enemy b) (empty b)) (quiet_moves_of (pieces b Man) (pieces b King) (empty b) b.side)
        ≡ whole_list (legal b)
    go true e =
        ap (λ (t : Bool). cond t (capture_moves_of (pieces b Man) (pieces b King) (enemy b) (empty b)) (quiet_moves_of (pieces b Man) (pieces b King) (empty b) b.side)) e
        ∙ captures_are b fair e
    go false e =
        ap (λ (t : Bool). cond t (capture_moves_of (pieces b Man) (pieces b King) (enemy b) (empty b)) (quiet_moves_of (pieces b Man) (pieces b King) (empty b) b.side)) e
        ∙ legal_listed b fair e

-- which of the two lists the formula takes
module _ (men kings them empty : ℕ) (side : Color) where
  pub takes_captures : has_capture_of men kings them empty ≡ true → capture_moves_of men kings them empty ≡ moves_by_sets men kings them empty side
  unfolding moves_by_sets
  takes_captures e = sym (ap (λ (t : Bool). cond t (capture_moves_of men kings them empty) (quiet_moves_of men kings empty side)) e)

  pub takes_quiets : has_capture_of men kings them empty ≡ false → quiet_moves_of men kings empty side ≡ moves_by_sets men kings them empty side
  unfolding moves_by_sets
  takes_quiets e = sym (ap (λ (t : Bool). cond t (capture_moves_of men kings them empty) (quiet_moves_of men kings empty side)) e)

-- ---- the successor
turn_is : (s : Color) (us them kings hash : ℕ) → facing (other s) them us kings ≡ board_of (position_after s us them kings hash)
turn_is White us them kings hash = refl
turn_is Black us them kings hash = refl

-- the board that the other side sees is that of the position after the move
pub next_board : (p : Position) (m : Move) → seen (next_of (view_of (board_of p)) m) ≡ board_of (play_of p m)
unfolding next_of play_of
next_board p m = turn_is p.side _ _ _ _

pub next_is : (b : Board) (m : Move) → Accepted b → Playable b m → seen (next_of (view_of b) m) ≡ successor b m
next_is b m a y = next_board (position_of b) m ∙ ap board_of (play_is (position_of b) m (position_sound b a) y)

-- ---- the view of a sound position
module _ (p : Position) where
  pub viewed : (v : View) → ◌≡◌ {A = Result View Refusal} (Ok v) (view_at p) → (sound p ≡ true) × (v ≡ view_of (board_of p))
  unfolding view_at
  viewed v e = go (sound p) refl e
    where
      go : (t : Bool) → sound p ≡ t → ◌≡◌ {A = Result View Refusal} (Ok v) (cond t (Ok (view_of (board_of p))) (Err BadPosition)) → (sound p ≡ true) × (v ≡ view_of (board_of p))
      go true q e = (q, cc)
      go false q e = absurd (not_ok _ (sym e))

  -- an answer that begins by it goes on
  pub goes_on : {A : Type 0} (x : Result A Refusal) → sound p ≡ true → x ≡ cond (sound p) x (Err BadPosition)
  goes_on x s = sym (ap (λ (t : Bool). cond t x (Err BadPosition)) s)

-- ---- what the entries ask of a sound position and of its view
module _ (p : Position) (s : sound p ≡ true) (v : View) (e : v ≡ view_of (board_of p)) where
  pub seen_is : seen v ≡ board_of p
  seen_is = ap seen e ∙ seen_view (board_of p)

  pub seen_accepted : Accepted (seen v)
  seen_accepted = rw seen_is (sound_says p s).accepted

  pub generated_is : (l : Option MoveList) → l ≡ generate_of v → l ≡ whole_list (legal (board_of p))
  generated_is l q = q ∙ ap generate_of e ∙ generated (board_of p) (fair_of_accepted (board_of p) (sound_says p s).accepted)
