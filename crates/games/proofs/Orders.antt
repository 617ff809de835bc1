-- What the entries answer, in the numbers and order of docs/REFUSALS.md: new game 12; outcome and the other questions
-- 13; a game's list 13, 10, 17; playing a move record 13, 11, 14, 17, 15.
use Rattle.std.specs.Prelude.{Ok, Err, Result}
use mathlib.Core.Path.{◌≡◌, refl, ap}
use mathlib.Core.Bool.{Bool, true, false, not, cond}
use mathlib.Core.List.{[], ◌∷◌}
use Prim.Native.Nat.{ℕ}
use lib.Dec.{leb, ltb}
use lib.ListN.{length}
use Rattle.squares.specs.Refusals.{refusal}
use Rattle.squares.specs.Told.{told, told_if_any, result, when, in_order}
use Rattle.squares.proofs.Orders.{refused_unless, none_left}
use Rattle.positions.specs.Acceptance.{sound}
use Rattle.positions.specs.Boards.{board_of}
use Rattle.positions.specs.Hash.{position_of}
use Rattle.positions.specs.Moves.{squares_of}
use Rattle.positions.specs.Successor.{successor}
use Rattle.positions.specs.declared.moves.Move.{Move}
use Rattle.positions.specs.declared.position.Position.{Position}
use Rattle.rules.specs.Ordered.{legal, listed}
use Rattle.movegen.specs.Lists as movegen
use Rattle.movegen.specs.Lists.{after_of}
use Rattle.captures.specs.Lists.{no_moves}
use Rattle.movegen.proofs.Answers.{after_many, after_none, after_one}
use Rattle.games.specs.Games.{last_of, valid, stood, judged_of, ended}
use Rattle.games.specs.Play.{fresh_of, new_of, moved_of, reached_of, play_of, outcome_of, is_over_of, stands_of, repetitions_of, reversible_plies_of, legal_moves_of}
use Rattle.games.specs.declared.game.Game.{Game}
use Rattle.games.proofs.Window.{last_sound}
use Rattle.squares.specs.declared.refusal.Refusal.{Refusal}

pub new_told : (p : Position) → told (new_of p) ≡ in_order (when 12 (not (sound p)) ∷ []) (result (fresh_of p))
unfolding new_of
new_told p = refused_unless told 12 0 (sound p) _ _ _ _ refl (none_left _)

-- 13, then the outcome, or none yet
pub outcome_told : (g : Game) → told_if_any (outcome_of g) ≡ in_order (when 13 (not (valid g)) ∷ []) (told_if_any (Ok (judged_of g)))
unfolding outcome_of
outcome_told g = refused_unless told_if_any 13 0 (valid g) _ _ _ _ refl (none_left _)

-- 13, then whether there is an outcome
pub is_over_told : (g : Game) → told (is_over_of g) ≡ in_order (when 13 (not (valid g)) ∷ []) (result (ended (judged_of g)))
unfolding is_over_of
is_over_told g = refused_unless told 13 0 (valid g) _ _ _ _ refl (none_left _)

-- 13, then the current position
pub stands_told : (g : Game) → told (stands_of g) ≡ in_order (when 13 (not (valid g)) ∷ []) (result (last_of g))
unfolding stands_of
stands_told g = refused_unless told 13 0 (valid g) _ _ _ _ refl (none_left _)

-- 13, then how often the current position has stood, and the first counter
pub repetitions_told : (g : Game) → told (repetitions_of g) ≡ in_order (when 13 (not (valid g)) ∷ []) (result (stood g))
unfolding repetitions_of
repetitions_told g = refused_unless told 13 0 (valid g) _ _ _ _ refl (none_left _)

pub reversible_told : (g : Game) → told (reversible_plies_of g) ≡ in_order (when 13 (not (valid g)) ∷ []) (result g.reversible)
unfolding reversible_plies_of
reversible_told g = refused_unless told 13 0 (valid g) _ _ _ _ refl (none_left _)

-- a game's list: 13, 10, then nothing once there is an outcome, else that of the current position
pub game_list_told : (g : Game) (limit : ℕ)
    → told (legal_moves_of g limit)
    ≡ in_order (when 13 (not (valid g)) ∷ when 10 (not (leb limit 256)) ∷ [])
    (told (cond (ended (judged_of g)) (Ok no_moves) (movegen.legal_moves_of (last_of g) limit)))
unfolding legal_moves_of
game_list_told g limit =
    refused_unless told 13 0 (valid g) _ _ _ _ refl (refused_unless told 10 0 (leb limit 256) _ _ _ _ refl (none_left _))

module _ (g : Game) (m : Move) where
  -- past 13, 11 and 14
  reached_told : valid g ≡ true → squares_of m ≡ true
      → told (reached_of g m (after_of (last_of g) m))
      ≡ in_order (when 17 (ltb 256 (length (legal (board_of (last_of g))))) ∷ when 15 (not (listed (legal (board_of (last_of g))) m)) ∷ []) (result (moved_of g m (position_of (successor (board_of (last_of g)) m))))
  unfolding in_order
  reached_told v q = go (ltb 256 (length (legal (board_of (last_of g))))) refl (listed (legal (board_of (last_of g))) m) refl
    where
      s : sound (last_of g) ≡ true
      s = last_sound g v

      go : (t : Bool) → ltb 256 (length (legal (board_of (last_of g)))) ≡ t → (u : Bool) → listed (legal (board_of (last_of g))) m ≡ u
          → told (reached_of g m (after_of (last_of g) m)) ≡ in_order (when 17 t ∷ when 15 (not u) ∷ []) (result (moved_of g m (position_of (successor (board_of (last_of g)) m))))
      go true t u e = ap (λ (x : Result Position Refusal). told (reached_of g m x)) (after_many (last_of g) s m q t)
      go false t false e = ap (λ (x : Result Position Refusal). told (reached_of g m x)) (after_none (last_of g) s m q t e)
      go false t true e = ap (λ (x : Result Position Refusal). told (reached_of g m x)) (after_one (last_of g) s m q t e)

  pub play_told : told (play_of g m)
      ≡ in_order
      (when 13 (not (valid g)) ∷ when 11 (not (squares_of m)) ∷ when 14 (ended (judged_of g))
      ∷ when 17 (ltb 256 (length (legal (board_of (last_of g))))) ∷ when 15 (not (listed (legal (board_of (last_of g))) m)) ∷ [])
      (result (moved_of g m (position_of (successor (board_of (last_of g)) m))))
  unfolding play_of in_order
  play_told = go (valid g) refl (squares_of m) refl (ended (judged_of g))
    where
      go : (v : Bool) → valid g ≡ v → (q : Bool) → squares_of m ≡ q → (o : Bool)
          → told (cond v (cond q (cond o (Err (refusal 14)) (reached_of g m (after_of (last_of g) m))) (Err (refusal 11))) (Err (refusal 13)))
          ≡ in_order
          (when 13 (not v) ∷ when 11 (not q) ∷ when 14 o
          ∷ when 17 (ltb 256 (length (legal (board_of (last_of g))))) ∷ when 15 (not (listed (legal (board_of (last_of g))) m)) ∷ [])
          (result (moved_of g m (position_of (successor (board_of (last_of g)) m))))
      go false e q f o = refl
      go true e false f o = refl
      go true e true f true = refl
      go true e true f false = reached_told e f
