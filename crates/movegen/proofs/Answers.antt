-- What the entries answer to a sound position, past refusal 12: what crates above cite instead of opening the definitions.
use Rattle.std.specs.Prelude.{Err, Ok, Result}
use mathlib.Core.Path.{◌≡◌, sym, ap, ap₂, ◌∙◌}
use mathlib.Core.Bool.{Bool, true, false, cond}
use lib.Dec.{ltb}
use lib.ListN.{length}
use Rattle.squares.specs.Refusals.{refusal}
use Rattle.squares.specs.declared.refusal.Refusal.{Refusal}
use Rattle.squares.specs.declared.refusal.Refusal.TheVariants.{BadPosition, NoMoveFits, TooManyMoves}
use Rattle.positions.specs.Acceptance.{sound}
use Rattle.positions.specs.Boards.{board_of}
use Rattle.positions.specs.Hash.{position_of}
use Rattle.positions.specs.Moves.{squares_of}
use Rattle.positions.specs.Successor.{successor}
use Rattle.positions.specs.declared.moves.Move.{Move}
use Rattle.positions.specs.declared.position.Position.{Position}
use Rattle.rules.specs.Ordered.{captures, quiets, legal, listed}
use Rattle.rules.specs.Lists.{some}
use Rattle.movegen.specs.Lists.{has_captures_of, has_quiet_moves_of, played_of, after_of}
use Rattle.movegen.proofs.Listed.{played_many, played_none, after_at}

module _ (p : Position) (s : sound p ≡ true) where
  -- ---- the tests
  pub captures_told : has_captures_of p ≡ Ok (some (captures (board_of p)))
  unfolding has_captures_of
  captures_told = ap (λ (t : Bool). cond t (Ok (some (captures (board_of p)))) (Err BadPosition)) s

  pub quiets_told : has_quiet_moves_of p ≡ Ok (some (quiets (board_of p)))
  unfolding has_quiet_moves_of
  quiets_told = ap (λ (t : Bool). cond t (Ok (some (quiets (board_of p)))) (Err BadPosition)) s

  -- ---- the position after a move, past refusal 11: 17, then 15, else the successor with its hash
  module _ (m : Move) (q : squares_of m ≡ true) where
    pub after_many : ltb 256 (length (legal (board_of p))) ≡ true → after_of p m ≡ Err TooManyMoves
    after_many e = sym (after_at p m s q) ∙ sym (played_many p m e)

    module _ (few : ltb 256 (length (legal (board_of p))) ≡ false) where
      pub after_none : listed (legal (board_of p)) m ≡ false → after_of p m ≡ Err NoMoveFits
      after_none e = sym (after_at p m s q) ∙ sym (played_none p m few e)

      pub after_one : listed (legal (board_of p)) m ≡ true → after_of p m ≡ Ok (position_of (successor (board_of p) m))
      unfolding played_of
      after_one e =
          sym (after_at p m s q)
          ∙ ap₂ (λ (t u : Bool). cond t (Err TooManyMoves) (cond u (Ok (position_of (successor (board_of p) m))) (Err NoMoveFits))) few e

-- of any position and record: one of four refusals, or a position
pub after_either : (P : Result Position Refusal → Type 0) (p : Position) (m : Move) → P (Err (refusal 12)) → P (Err (refusal 11)) → P (Err (refusal 17))
    → P (Err (refusal 15)) → ((q : Position) → P (Ok q)) → P (after_of p m)
unfolding after_of played_of
after_either P p m a b c d e =
    go (sound p) (squares_of m) (ltb 256 (length (legal (board_of p)))) (listed (legal (board_of p)) m) (position_of (successor (board_of p) m))
  where
    go : (s q t u : Bool) (r : Position)
        → P (cond s (cond q (cond t (Err (refusal 17)) (cond u (Ok r) (Err (refusal 15)))) (Err (refusal 11))) (Err (refusal 12)))
    go false q t u r = a
    go true false t u r = b
    go true true true u r = c
    go true true false true r = e r
    go true true false false r = d
