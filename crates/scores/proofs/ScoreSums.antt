-- White's score and the score for the side to move, from the code's sums.
use Rattle.std.specs.Prelude.{Err, Ok}
use mathlib.Core.Path.{◌≡◌, sym, ap, ap₂, ◌∙◌}
use mathlib.Core.Bool.{Bool, true, false, cond}
use lib.Dec.{lit<}
use lib.IntN.{ℤ, pos, ◌-ℤ◌}
use Rattle.squares.specs.declared.piece.Color.{Color}
use Rattle.squares.specs.declared.piece.Color.TheVariants.{White, Black}
use Rattle.positions.specs.Boards.{Board, board_of}
use Rattle.positions.specs.Acceptance.{sound}
use Rattle.scores.specs.Score.{worth, damped, white_score, signed, score, weights_fit, evaluate_of, Bounded}
use Rattle.positions.specs.declared.position.Position.{Position}
use Rattle.scores.specs.declared.eval.Classical.{Classical}
use Rattle.squares.specs.declared.refusal.Refusal.TheVariants.{BeyondLimit, BadPosition}
use Rattle.scores.proofs.Integers.{held, read, less_of, neg_of, renamed}
use Rattle.scores.proofs.ScoreBounds.{damped_le}

pub white_of : (w : Classical) (b : Board) (x y d : ℤ) → Bounded 288000000 (worth w White b) x → Bounded 288000000 (worth w Black b) y
    → d ≡ damped b (held (held x -ℤ held y)) → Bounded 576000000 (white_score w b) d
unfolding white_score
white_of w b x y d p q e =
    let s = read (less_of p q (lit< tt) (lit< tt)) (lit< tt) in
    record { is = e ∙ ap (damped b) s.is; small = rw e (damped_le b (held (held x -ℤ held y)) 576000000 s.small) }

module _ (w : Classical) (b : Board) (x : ℤ) (h : Bounded 576000000 (white_score w b) x) where
  pub for_white : b.side ≡ White → Bounded 576000000 (score w b) (held x)
  unfolding score
  for_white e = renamed (read h (lit< tt)) (ap (λ (c : Color). signed c (white_score w b)) (sym e))

  pub for_black : b.side ≡ Black → Bounded 576000000 (score w b) (held (pos 0 -ℤ held x))
  unfolding score
  for_black e = renamed (read (neg_of h (lit< tt)) (lit< tt)) (ap (λ (c : Color). signed c (white_score w b)) (sym e))

-- the three answers, by the code's two tests
module _ (w : Classical) (p : Position) (s : Bool) (es : s ≡ sound p) where
  pub refused_12 : s ≡ false → Err BadPosition ≡ evaluate_of w p
  unfolding evaluate_of
  refused_12 h = ap (λ (t : Bool). cond t (cond (weights_fit w) (Ok (score w (board_of p))) (Err BeyondLimit)) (Err BadPosition)) (sym h ∙ es)

  module _ (f : Bool) (ef : f ≡ weights_fit w) (h : s ≡ true) where
    pub refused_10 : f ≡ false → Err BeyondLimit ≡ evaluate_of w p
    unfolding evaluate_of
    refused_10 k =
        ap₂ (λ (t u : Bool). cond t (cond u (Ok (score w (board_of p))) (Err BeyondLimit)) (Err BadPosition)) (sym h ∙ es) (sym k ∙ ef)

    pub scored_of : (z : ℤ) → f ≡ true → z ≡ score w (board_of p) → Ok z ≡ evaluate_of w p
    unfolding evaluate_of
    scored_of z k e =
        ap Ok e
        ∙ ap₂ (λ (t u : Bool). cond t (cond u (Ok (score w (board_of p))) (Err BeyondLimit)) (Err BadPosition)) (sym h ∙ es) (sym k ∙ ef)
