-- Demand 3 of any functions that meet the contracts of new game, play and outcome as their callers read them: where one of
-- these contracts says less, this law breaks.
use Rattle.std.specs.Prelude.{Err, Ok, Result}
use mathlib.Core.Path.{◌≡◌, refl, sym, ap, ap₂, ◌∙◌, subst}
use mathlib.Core.Bool.{Bool, true, false, cond}
use mathlib.Core.List.{List, [], ◌∷◌}
use Prim.Native.Nat.{ℕ, ◌≤◌}
use native.Mathlib.Omega.{arith}
use Rattle.squares.specs.Refusals.{answer_number_of, number_of, square_of, refusal_at, refusal}
use Rattle.squares.proofs.Refusals.{refusal_of}
use Rattle.positions.specs.Acceptance.{sound}
use Rattle.positions.specs.Moves.{squares_of}
use Rattle.positions.specs.declared.moves.Move.{Move}
use Rattle.positions.specs.declared.position.Position.{Position}
use Rattle.movegen.specs.Lists.{after_of}
use Rattle.movegen.proofs.Answers.{after_either}
use Rattle.games.specs.Demand3.{answers_to, game_after, game_of, heard_of, heard, Demand3}
use Rattle.games.specs.Games.{last_of, valid, judged_of, ended}
use Rattle.games.specs.Play.{empty_game, fresh_of, new_of, reached_of, play_of, after_play, outcome_of}
use Rattle.games.specs.declared.game.Game.{Game}
use Rattle.games.proofs.Laws.{demand3}
use Rattle.games.proofs.game.Game.from_position.Reads as new-reads
use Rattle.games.proofs.game.Game.play.Reads as play-reads
use Rattle.games.proofs.game.Game.outcome.Reads as outcome-reads
use Rattle.std.specs.declared.option.Option.{Option}
use Rattle.games.specs.declared.game.Outcome.{Outcome}
use Rattle.squares.specs.declared.refusal.Refusal.{Refusal}

-- what a caller learns of each result
abbrev pub NewMeets : (Position → Result Game Refusal) → Type 0
NewMeets new = (p : Position) → new-reads.Learnt tt (p, tt) (new p) (p, tt)

abbrev pub PlayMeets : (Game → Move → Result Game Refusal) → Type 0
PlayMeets play = (g : Game) (m : Move) → play-reads.Learnt tt (g, (m, tt)) (play g m) (g, (m, tt))

abbrev pub OutcomeMeets : (Game → Result (Option Outcome) Refusal) → Type 0
OutcomeMeets outcome = (g : Game) → outcome-reads.Learnt tt (g, tt) (outcome g) (g, tt)

-- ---- what the contracts must say, whole or part by part
game_parts : (g h : Game) → g.kept ≡ h.kept → g.len ≡ h.len → g.reversible ≡ h.reversible → g.material ≡ h.material → g ≡ h
game_parts g h k l r m =
    ap₂ (λ (x : List Position) (n : ℕ). record { kept = x; len = n; reversible = g.reversible; material = g.material }) k l
    ∙ ap₂ (λ (x n : ℕ). record { kept = h.kept; len = h.len; reversible = x; material = n }) r m

module _ (g : Game) where
  -- a result with the number of s that leads to the same game from g is s
  abbrev Told : Result Game Refusal → Type 0
  Told s = (r : Result Game Refusal) → answer_number_of r ≡ answer_number_of s → after_play g r ≡ after_play g s → r ≡ s

  told_ok : (x : Game) → Told (Ok x)
  told_ok x (Ok y) a b = ap Ok b
  told_ok x (Err e) a b =
      let z : number_of (refusal_at 0 (square_of e)) ≡ 0 =
      ap (λ (n : ℕ). number_of (refusal_at n (square_of e))) (sym a) ∙ ap number_of (refusal_of e) ∙ a in
      absurd (omega (arith, z))

  -- a refusal that comes with no square
  told_err : (n : ℕ) → 1 ≤ n → number_of (refusal n) ≡ n → ((square : ℕ) → refusal_at n square ≡ refusal n)
      → Told (Err (refusal n))
  told_err n h k f (Ok y) a b = absurd (omega (arith, h, k, a))
  told_err n h k f (Err e) a b =
      ap Err (sym (refusal_of e) ∙ ap (λ (i : ℕ). refusal_at i (square_of e)) (a ∙ k) ∙ f (square_of e))

  told_cond : (t : Bool) (x y : Result Game Refusal) → Told x → Told y → Told (cond t x y)
  told_cond true x y u v = u
  told_cond false x y u v = v

told_new : (p : Position) → Told empty_game (new_of p)
unfolding new_of
told_new p =
    told_cond _ (sound p) _ _ (told_ok _ (fresh_of p)) (told_err _ 12 (omega arith) refl (λ n. refl))

new_parts : (p : Position) (r : Result Game Refusal)
    → answer_number_of r ≡ answer_number_of (new_of p) → (game_of r).kept ≡ (game_of (new_of p)).kept
    → (game_of r).len ≡ (game_of (new_of p)).len → (game_of r).reversible ≡ (game_of (new_of p)).reversible
    → (game_of r).material ≡ (game_of (new_of p)).material → r ≡ new_of p
new_parts p r a k l v m = told_new p r a (game_parts _ _ k l v m)

module _ (g : Game) (m : Move) where
  told_after : Told g (reached_of g m (after_of (last_of g) m))
  told_after =
      after_either (λ (r : Result Position Refusal). Told g (reached_of g m r)) (last_of g) m
      (told_err g 12 (omega arith) refl (λ n. refl)) (told_err g 11 (omega arith) refl (λ n. refl))
      (told_err g 17 (omega arith) refl (λ n. refl)) (told_err g 15 (omega arith) refl (λ n. refl)) (λ q. told_ok g _)

  told_play : Told g (play_of g m)
  unfolding play_of
  told_play =
      told_cond g (valid g) _ _
      (told_cond g (squares_of m) _ _
      (told_cond g (ended (judged_of g)) _ _ (told_err g 14 (omega arith) refl (λ n. refl)) told_after)
      (told_err g 11 (omega arith) refl (λ n. refl)))
      (told_err g 13 (omega arith) refl (λ n. refl))

  play_parts : (r : Result Game Refusal)
      → answer_number_of r ≡ answer_number_of (play_of g m) → (after_play g r).kept ≡ (after_play g (play_of g m)).kept
      → (after_play g r).len ≡ (after_play g (play_of g m)).len
      → (after_play g r).reversible ≡ (after_play g (play_of g m)).reversible
      → (after_play g r).material ≡ (after_play g (play_of g m)).material → r ≡ play_of g m
  play_parts r a k l v n = told_play r a (game_parts _ _ k l v n)

module _ (play : Game → Move → Result Game Refusal) (q : PlayMeets play) where
  play_said_lem : (g : Game) (m : Move) → play g m ≡ play_of g m
  play_said_lem g m = search (q g m, play_parts)

  same_answers : (g : Game) (ms : List Move) → answers_to play g ms ≡ answers_to play_of g ms
  unfolding answers_to
  same_answers g [] = refl
  same_answers g (m ∷ ms) =
      ap₂ (λ (r : Result Game Refusal) (l : List ℕ). answer_number_of r ∷ l) (play_said_lem g m)
      (same_answers (after_play g (play g m)) ms ∙ ap (λ (r : Result Game Refusal). answers_to play_of (after_play g r) ms) (play_said_lem g m))

  same_game : (g : Game) (ms : List Move) → game_after play g ms ≡ game_after play_of g ms
  unfolding game_after
  same_game g [] = refl
  same_game g (m ∷ ms) = same_game (after_play g (play g m)) ms ∙ ap (λ (r : Result Game Refusal). game_after play_of (after_play g r) ms) (play_said_lem g m)

module _ (new : Position → Result Game Refusal) (play : Game → Move → Result Game Refusal) (outcome : Game → Result (Option Outcome) Refusal) (n : NewMeets new) (q : PlayMeets play) (o : OutcomeMeets outcome) where
  new_said : (p : Position) → new p ≡ new_of p
  new_said p = search (n p, new_parts)

  outcome_said : (g : Game) → outcome g ≡ outcome_of g
  outcome_said g = search (o g)

  same_heard : (start : Position) (moves : List Move) → heard_of new play outcome start moves ≡ heard start moves
  unfolding heard_of
  same_heard start moves =
      let e : game_after play (game_of (new start)) moves ≡ game_after play_of (game_of (new_of start)) moves =
      same_game play q (game_of (new start)) moves ∙ ap (λ (r : Result Game Refusal). game_after play_of (game_of r) moves) (new_said start) in
      let told : answers_to play (game_of (new start)) moves ≡ answers_to play_of (game_of (new_of start)) moves =
      same_answers play q (game_of (new start)) moves ∙ ap (λ (r : Result Game Refusal). answers_to play_of (game_of r) moves) (new_said start) in
      let out : outcome (game_after play (game_of (new start)) moves) ≡ outcome_of (game_after play_of (game_of (new_of start)) moves) =
      outcome_said (game_after play (game_of (new start)) moves) ∙ ap outcome_of e in
      ap₂ (λ (b : Result Game Refusal) (a : List ℕ). record { begun = b; answers = a; game = game_after play (game_of (new start)) moves; outcome = outcome (game_after play (game_of (new start)) moves) }) (new_said start) told
      ∙ ap₂ (λ (g : Game) (j : Result (Option Outcome) Refusal). record { begun = new_of start; answers = answers_to play_of (game_of (new_of start)) moves; game = g; outcome = j }) e out

  pub tied : (start : Position) → sound start ≡ true → (moves : List Move) → Demand3 start moves (heard_of new play outcome start moves)
  tied start s moves = subst (Demand3 start moves) (sym (same_heard start moves)) (demand3 start s moves)
