-- What was read is fitted, and `fit` tests the position first; a refusal of the text comes after that of the position.
use Rattle.std.specs.Prelude.{Err, Result}
use mathlib.Core.Path.{◌≡◌, refl, sym, ◌∙◌}
use mathlib.Core.Bool.{Bool, true, false, cond}
use lib.Dec.{leb}
use lib.ListN.{length}
use Rattle.squares.specs.declared.refusal.Refusal.TheVariants.{BadPosition, TooManyMoves}
use borrow.Author.Rules.{rules}
use Rattle.squares.proofs.Refusals.{holds, fails}
use Rattle.positions.specs.Acceptance.{sound}
use Rattle.positions.specs.Boards.{board_of}
use Rattle.positions.specs.declared.position.Position.{Position}
use Rattle.rules.specs.Ordered.{legal}
use Rattle.notation.specs.Choice.{fitting, only, fit_of, parse_move_of}
use Rattle.notation.specs.declared.notation.Said.{Said}
use Rattle.notation.proofs.notation.parse_move.Goals as goal
use Rattle.positions.specs.declared.moves.Move.{Move}
use Rattle.squares.specs.declared.refusal.Refusal.{Refusal}

-- 12 is the first refusal of `fit`
position_first : (p : Position) (h : Said) → fit_of p h ≡ cond (sound p) (fit_of p h) (Err BadPosition)
unfolding fit_of
position_first p h = go (sound p) (cond (leb (length (legal (board_of p))) 256) (only (fitting h (legal (board_of p)))) (Err TooManyMoves))
  where
    go : (t : Bool) (f : Result Move Refusal) → cond t f (Err BadPosition) ≡ cond t (cond t f (Err BadPosition)) (Err BadPosition)
    go true f = refl
    go false f = refl

pub returns-in-Ok : goal.returns-in-Ok
unfolding parse_move_of
returns-in-Ok c =
    rw (← c.read_move.ensures, c.in-Ok.is)
    (c.fit.ensures ∙ position_first _ _)

pub returns-in_err-unless-in-Err : goal.returns-in_err-unless-in-Err
unfolding parse_move_of
returns-in_err-unless-in-Err c =
    let q : c.from_residual.result ≡ Err BadPosition = search rules in
    rw (sym c.sound.ensures ∙ fails _ _ c.in_err-unless-in-Err.ensures) q

pub returns-in_ok-unless-in-Err : goal.returns-in_ok-unless-in-Err
unfolding parse_move_of
returns-in_ok-unless-in-Err c = rw (sym c.sound.ensures ∙ holds BadPosition c.sound.result c.in_ok-unless-in-Err.ensures, ← c.read_move.ensures, c.in-Err.is) refl
