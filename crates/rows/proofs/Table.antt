-- The boards P1 to P12 (docs/RULES.md, "Twelve boards"), each from the bytes of its text on: what the definitions in
-- the contracts of the entries answer.
use Rattle.std.specs.Prelude.{Err, None, Ok, Result, ℤ, Some}
use Prim.Native.Nat.{ℕ, ◌+◌}
use Prim.Native.String.{String}
use mathlib.Core.Path.{◌≡◌, refl}
use mathlib.Core.List.{List, [], ◌∷◌}
use lib.IntN.{pos}
use lib.ListN.{replicate}
use Rattle.squares.specs.Refusals.{number_of, square_of}
use Rattle.squares.specs.Squares.{single}
use Rattle.squares.specs.declared.piece.Color.TheVariants.{White, Black}
use Rattle.squares.specs.declared.refusal.Refusal.{Refusal}
use Rattle.squares.specs.Refusals.{refusal}
use Rattle.positions.specs.Boards.{Board, board}
use Rattle.positions.specs.Hash.{position_of, initial_of}
use Rattle.positions.specs.Moves.{move}
use Rattle.scores.specs.Score.{default, evaluate_of}
use Rattle.positions.specs.declared.moves.Move.{Move}
use Rattle.positions.specs.declared.position.Position.{Position}
use Rattle.captures.specs.Lists.{list_of}
use Rattle.movegen.specs.Counts.{perft_of}
use Rattle.movegen.specs.Lists.{legal_moves_of, after_of}
use Rattle.captures.specs.declared.moves.MoveList.{MoveList}
use Rattle.scores.specs.Computed as scores
use Rattle.texts.specs.Bytes.{bytes}
use Rattle.texts.specs.Fen.{from_fen_of}
use Rattle.games.specs.Computed as games
use Rattle.games.specs.Games.{blank_position, won}
use Rattle.games.specs.Play.{empty_game, new_of, outcome_of}
use Rattle.games.specs.declared.game.Game.{Game}
use Rattle.gametexts.specs.Texts.{game_from_fen_of}
use Rattle.notation.specs.Choice.{parse_move_of}
use Rattle.notation.specs.Computed as notation
use Rattle.std.specs.declared.option.Option.{Option}
use Rattle.games.specs.declared.game.Outcome.{Outcome}

-- what is asked of a text, and the answer
pub data Row : Type 0 where
  -- the position that it reads as
  reads : String → Result Position Refusal → Row
  -- the refusal's number and square
  refused : String → ℕ → ℕ → Row
  -- the list of its moves, with this limit
  moves : String → ℕ → Result MoveList Refusal → Row
  -- the depth count at this depth
  paths : String → ℕ → Result ℕ Refusal → Row
  -- what a move text means on it
  means : String → String → Result Move Refusal → Row
  -- the position after a move
  after : String → Move → Result Position Refusal → Row
  -- the score with the default weights
  score : String → Result ℤ Refusal → Row
  -- the game that it begins, without refusal, has this outcome
  ends : String → Result (Option Outcome) Refusal → Row

-- the number and the square of a refusal; 0 and 0 where there is none
abbrev told : Result Position Refusal → ℕ × ℕ
told (Ok p) = (0, 0)
told (Err e) = (number_of e, square_of e)

-- the text reads as a position, and P holds of it
abbrev of : Result Position Refusal → (Position → Type 0) → Type 0
of (Ok p) P = P p
of (Err e) P = ⊥

-- the game is begun without refusal and has this outcome
abbrev begins : Result Game Refusal → Result (Option Outcome) Refusal → Type 0
begins (Ok g) a = outcome_of g ≡ a
begins (Err e) a = ⊥

abbrev read : String → Result Position Refusal
read t = from_fen_of (bytes t)

abbrev pub Holds : Row → Type 0
Holds (reads t a) = read t ≡ a
Holds (refused t n s) = told (read t) ≡ (n, s)
Holds (moves t limit a) = of (read t) (λ p. legal_moves_of p limit ≡ a)
Holds (paths t depth a) = of (read t) (λ p. perft_of p depth ≡ a)
Holds (means t m a) = of (read t) (λ p. parse_move_of p (bytes m) ≡ a)
Holds (after t m a) = of (read t) (λ p. after_of p m ≡ a)
Holds (score t a) = of (read t) (λ p. evaluate_of default p ≡ a)
Holds (ends t a) = begins (game_from_fen_of (bytes t)) a

abbrev pub All : List Row → Type 0
All [] = Unit
All (r ∷ rs) = Holds r × All rs

-- ---- the answers
abbrev at : Board → Result Position Refusal
at b = Ok (position_of b)

abbrev these : List Move → Result MoveList Refusal
these l = Ok (list_of l)

-- a move that takes the pieces on these squares
abbrev set : List ℕ → ℕ
set [] = 0
set (n ∷ l) = single n + set l

abbrev takes : ℕ → ℕ → List ℕ → Move
takes from to l = move from to (set l)

abbrev goes : ℕ → ℕ → Move
goes from to = move from to 0

abbrev pub p1 : List Row
p1 =
    reads "W:W31-50:B1-20" (Ok initial_of)
    ∷ moves "W:W31-50:B1-20" 256 (these (goes 31 26 ∷ goes 32 27 ∷ goes 33 28 ∷ goes 34 29 ∷ goes 35 30 ∷ goes 31 27 ∷ goes 32 28 ∷ goes 33 29 ∷ goes 34 30 ∷ []))
    ∷ paths "W:W31-50:B1-20" 2 (Ok 81)
    ∷ ends "W:W31-50:B1-20" (Ok None) ∷ []

abbrev pub p2_p5 : List Row
p2_p5 =
    reads "W" (at (board 0 0 0 White))
    ∷ ends "W" (Ok (Some (won Black)))
    ∷ refused "W:" 3 0
    ∷ reads "W:WKK7" (at (board (single 7) 0 (single 7) White))
    ∷ refused "W:WKK 7" 4 0
    ∷ refused "W:W5:B5" 7 5
    ∷ refused "W:W5:B6" 8 5 ∷ []

-- P6 to P9: men
abbrev pub p6_p9 : List Row
p6_p9 =
    moves "W:W28:B22,23" 256 (these (takes 28 17 (22 ∷ []) ∷ takes 28 19 (23 ∷ []) ∷ []))
    ∷ moves "W:W28:B22,23" 1 (Err (refusal 17))
    ∷ moves "W:W28:B13,22,23" 256 (these (takes 28 8 (13 ∷ 23 ∷ []) ∷ []))
    ∷ moves "W:W11:B7,8" 256 (these (takes 11 13 (7 ∷ 8 ∷ []) ∷ []))
    ∷ after "W:W11:B7,8" (takes 11 13 (7 ∷ 8 ∷ [])) (at (board (single 13) 0 0 Black))
    ∷ moves "W:W28:B12,13,22,23" 256 (these (takes 28 28 (12 ∷ 13 ∷ 22 ∷ 23 ∷ []) ∷ [])) ∷ []

-- P10 and P11: kings
abbrev pub p10_p11 : List Row
p10_p11 =
    moves "W:WK46:B37" 256 (these (takes 46 32 (37 ∷ []) ∷ takes 46 28 (37 ∷ []) ∷ takes 46 23 (37 ∷ []) ∷ takes 46 19 (37 ∷ []) ∷ takes 46 14 (37 ∷ []) ∷ takes 46 10 (37 ∷ []) ∷ takes 46 5 (37 ∷ []) ∷ []))
    ∷ moves "W:WK46:B12,22,27,37" 256 (these (takes 46 8 (12 ∷ 27 ∷ 37 ∷ []) ∷ takes 46 3 (12 ∷ 27 ∷ 37 ∷ []) ∷ takes 46 8 (12 ∷ 22 ∷ 37 ∷ []) ∷ takes 46 3 (12 ∷ 22 ∷ 37 ∷ []) ∷ []))
    ∷ means "W:WK46:B12,22,27,37" "46x8" (Err (refusal 16))
    ∷ means "W:WK46:B12,22,27,37" "46x8x12x27x37" (Ok (takes 46 8 (12 ∷ 27 ∷ 37 ∷ []))) ∷ []

abbrev pub p12 : List Row
p12 = score "W:WK28,K32,33:BK1" (Ok (pos 50)) ∷ []

-- the table
pub table : All p1 × All p2_p5 × All p6_p9 × All p10_p11 × All p12
unfolding scores.computed notation.computed games.computed game_from_fen_of
table = (
  (refl, (refl, (refl, (refl, tt)))),
  (refl, (refl, (refl, (refl, (refl, (refl, (refl, tt))))))),
  (refl, (refl, (refl, (refl, (refl, (refl, tt)))))),
  (refl, (refl, (refl, (refl, tt)))),
  (refl, tt),
)

-- P2's board is also that of the empty game, which stands where a new game was refused: 51 blank positions, number 1,
-- counters 0
abbrev blank_game : Game
blank_game = record { kept = replicate 51 blank_position; len = 1; reversible = 0; material = 0 }

pub not_begun_lem : (new_of (position_of (board 0 0 0 White)) ≡ Ok blank_game) × (empty_game ≡ blank_game)
unfolding games.computed
not_begun_lem = (refl, refl)
