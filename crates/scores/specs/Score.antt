-- The score (docs/RULES.md, "Score"): what White's pieces are worth less what Black's are worth, divided by 8 where the
-- side ahead has few pieces against a king, and given for the side to move. At the end, what `evaluate` answers.
use Rattle.std.specs.Prelude.{◌≡◌, ℕ, ◌+◌, ◌-◌, ◌≤◌, Bool, true, not, cond, ◌&&◌, ◌||◌, eqb, leb, ℤ, pos, ◌+ℤ◌, ◌-ℤ◌, ◌*ℤ◌, neg_ℤ, nat_abs, Err, Ok, Result}
use Rattle.std.specs.Int.Bits.{bit_and}
use Rattle.std.specs.Int.Signed.{lt_z, quot_z}
use Rattle.squares.specs.Sets.{size}
use Rattle.squares.specs.Squares.{run, row_of}
use Rattle.squares.specs.Folds.{sum_over}
use Rattle.squares.specs.Pieces.{other}
use Rattle.squares.specs.declared.piece.Color.{Color}
use Rattle.squares.specs.declared.piece.Color.TheVariants.{White, Black}
use Rattle.squares.specs.Refusals.{refusal}
use Rattle.positions.specs.Boards.{Board, board_of, colored, men_of, kings_of}
use Rattle.positions.specs.Acceptance.{sound}
use Rattle.positions.specs.declared.position.Position.{Position}
use Rattle.scores.specs.declared.eval.Classical.{Classical}
use Rattle.squares.specs.declared.refusal.Refusal.{Refusal}

-- the rows that a man on row r has advanced: White's men go from row 9 up to row 0, Black's from row 0 down to row 9
unfoldable pub ahead_of : Color → ℕ → ℕ
ahead_of White r = 9 - r
ahead_of Black r = r

-- the same for a man on bit i
unfoldable pub advanced : Color → ℕ → ℕ
advanced c i = ahead_of c (row_of i)

-- the centre: squares 22, 23, 24, 27, 28, 29
unfoldable pub center : ℕ
center = run 22 3 + run 27 3

-- the guard squares: 47 to 49 for White, 2 to 4 for Black
unfoldable pub guard : Color → ℕ
guard White = run 47 3
guard Black = run 2 3

-- the number of men on their guard squares; 0 where the opponent has a king
unfoldable pub guarding : Color → Board → ℕ
guarding c b = cond (eqb (kings_of (other c) b) 0) (size (bit_and (men_of c b) (guard c))) 0

-- the worth of men and kings by their number
unfoldable pub material_of : Classical → Color → Board → ℤ
material_of w c b = w.man *ℤ pos (size (men_of c b)) +ℤ w.king *ℤ pos (size (kings_of c b))

-- the worth of the men's places: rows advanced, centre, guards
unfoldable pub placement_of : Classical → Color → Board → ℤ
placement_of w c b =
    w.advance *ℤ pos (sum_over (advanced c) (men_of c b))
    +ℤ w.center *ℤ pos (size (bit_and (men_of c b) center))
    +ℤ w.guard *ℤ pos (guarding c b)

-- what the pieces of a colour are worth
unfoldable pub worth : Classical → Color → Board → ℤ
worth w c b = material_of w c b +ℤ placement_of w c b

-- whether the colour has at most three pieces and the other has a king
unfoldable pub few_pieces : Color → Board → Bool
few_pieces c b = leb (size (colored c b)) 3 && not (eqb (kings_of (other c) b) 0)

-- whether the side ahead has few pieces against a king; s is White's worth less Black's
unfoldable pub drawish : Board → ℤ → Bool
drawish b s = (lt_z (pos 0) s && few_pieces White b) || (lt_z s (pos 0) && few_pieces Black b)

-- s, divided by 8 towards zero where that is so
unfoldable pub damped : Board → ℤ → ℤ
damped b s = cond (drawish b s) (quot_z s (pos 8)) s

-- the score as White sees it
unfoldable pub white_score : Classical → Board → ℤ
white_score w b = damped b (worth w White b -ℤ worth w Black b)

-- White's score as the colour sees it
abbrev pub signed : Color → ℤ → ℤ
signed White s = s
signed Black s = neg_ℤ s

-- the score as the side to move sees it
unfoldable pub score : Classical → Board → ℤ
score w b = signed b.side (white_score w b)

-- the default weights
abbrev pub default : Classical
default = record { man = pos 100; king = pos 300; advance = pos 2; center = pos 6; guard = pos 5 }

-- whether z is from -n to n
unfoldable pub within : ℕ → ℤ → Bool
within n z = leb (nat_abs z) n

-- whether each weight is from -10,000 to 10,000
unfoldable pub weights_fit : Classical → Bool
weights_fit w =
    within 10000 w.man && (within 10000 w.king
    && (within 10000 w.advance && (within 10000 w.center && within 10000 w.guard)))

-- the score; refusal 12 for the position, then 10 for the weights
unfoldable pub evaluate_of : Classical → Position → Result ℤ Refusal
evaluate_of w p =
    cond (sound p)
    (cond (weights_fit w) (Ok (score w (board_of p))) (Err (refusal 10)))
    (Err (refusal 12))

-- with the default weights every score is from -15,100 to 15,100
abbrev pub default_limit : ℕ
default_limit = 15100

abbrev pub limited : Result ℤ Refusal → Bool
limited (Ok s) = within default_limit s
limited (Err e) = true

-- what the contract of a part of the sum says: r is z, and is from -n to n
pub record Bounded (n : ℕ) (z r : ℤ) : Type 0 where
  pub is : r ≡ z
  pub small : nat_abs r ≤ n
