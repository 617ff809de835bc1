-- Laws on a list of plays, one play at a time, and on the numbers that records are lent as.
use Rattle.std.specs.Prelude.{Err}
use mathlib.Core.Path.{◌≡◌, refl, sym, ap, ap₂, ◌∙◌}
use Prim.Native.Nat.{ℕ, zero, suc, ◌+◌, ◌*◌, ◌/◌, ◌<◌, ◌≤◌}
use native.Mathlib.Omega.{arith}
use native.Mathlib.Numerals.{add-one}
use mathlib.Core.Bool.{Bool, true, false, cond}
use mathlib.Core.List.{List, [], ◌∷◌, ◌++◌}
use lib.Dec.{leb}
use lib.ListN.{length, take, drop, get_or, set}
use lib.Seq.{append_snoc, take-suc, drop-cons, set_at}
use Rattle.std.specs.Simd.{first_chunks}
use Rattle.squares.specs.Refusals.{answer_number_of, refusal}
use Rattle.squares.specs.Squares.{is_square}
use Rattle.squares.proofs.Numbers.{high_square}
use Rattle.positions.specs.Moves.{move, squares_of}
use Rattle.positions.specs.declared.moves.Move.{Move}
use Rattle.positions.proofs.Records.{off_from, off_to}
use Rattle.games.specs.Games.{valid}
use Rattle.games.specs.Play.{after_play, play_of}
use Rattle.games.specs.Demand3.{answers_to, game_after}
use Rattle.games.specs.Replay.{moves_in, square_in}
use Rattle.games.specs.declared.game.Game.{Game}

-- ---- one play more

pub answers_length : (g : Game) (ms : List Move) → length (answers_to play_of g ms) ≡ length ms
unfolding answers_to
answers_length g [] = refl
answers_length g (m ∷ ms) = ap suc (answers_length (after_play g (play_of g m)) ms)

answers_snoc : (g : Game) (ms : List Move) (m : Move)
    → answers_to play_of g (ms ++ (m ∷ [])) ≡ answers_to play_of g ms ++ (answer_number_of (play_of (game_after play_of g ms) m) ∷ [])
unfolding answers_to game_after
answers_snoc g [] m = refl
answers_snoc g (x ∷ ms) m = ap (λ (l : List ℕ). answer_number_of (play_of g x) ∷ l) (answers_snoc (after_play g (play_of g x)) ms m)

after_snoc : (g : Game) (ms : List Move) (m : Move) → game_after play_of g (ms ++ (m ∷ [])) ≡ after_play (game_after play_of g ms) (play_of (game_after play_of g ms) m)
unfolding game_after
after_snoc g [] m = refl
after_snoc g (x ∷ ms) m = after_snoc (after_play g (play_of g x)) ms m

pub answers_more : (d : Move) (g : Game) (ms : List Move) (i : ℕ) → i < length ms
    → answers_to play_of g (take (i + 1) ms)
    ≡ answers_to play_of g (take i ms) ++ (answer_number_of (play_of (game_after play_of g (take i ms)) (get_or ms i d)) ∷ [])
answers_more d g ms i h = rw (add-one, take-suc ms i d) (answers_snoc g (take i ms) (get_or ms i d))

pub after_more : (d : Move) (g : Game) (ms : List Move) (i : ℕ) → i < length ms
    → game_after play_of g (take (i + 1) ms) ≡ after_play (game_after play_of g (take i ms)) (play_of (game_after play_of g (take i ms)) (get_or ms i d))
after_more d g ms i h = rw (add-one, take-suc ms i d) (after_snoc g (take i ms) (get_or ms i d))

-- a number is written behind those written
pub write_more : (xs l : List ℕ) (i v : ℕ) → length xs ≡ i → i < length l
    → set (xs ++ drop i l) i v ≡ (xs ++ (v ∷ [])) ++ drop (i + 1) l
write_more xs l i v e h = rw (add-one, drop-cons l i 0, append_snoc) (set_at xs (get_or l i 0) (drop (suc i) l) v i e)

-- ---- three numbers a move

pub moves_length : (l : List ℕ) → length (moves_in l) ≡ length l / 3
unfolding moves_in
moves_length [] = refl
moves_length (a ∷ []) = refl
moves_length (a ∷ (b ∷ [])) = refl
moves_length (a ∷ (b ∷ (c ∷ l))) = let ih = moves_length l in omega arith

-- of the first k chunks of three the i-th is the i-th move
pub moves_at : (d : Move) (l : List ℕ) (k i : ℕ) → i < k → 3 * k ≤ length l
    → get_or (moves_in l) i d ≡ move (get_or (get_or (first_chunks 3 k l) i []) 0 0) (get_or (get_or (first_chunks 3 k l) i []) 1 0) (get_or (get_or (first_chunks 3 k l) i []) 2 0)
unfolding moves_in
moves_at d l zero i h g = absurd (omega arith)
moves_at d [] (suc k) i h g = absurd (omega arith)
moves_at d (a ∷ []) (suc k) i h g = absurd (omega arith)
moves_at d (a ∷ (b ∷ [])) (suc k) i h g = absurd (omega arith)
moves_at d (a ∷ (b ∷ (c ∷ l))) (suc k) zero h g = refl
moves_at d (a ∷ (b ∷ (c ∷ l))) (suc k) (suc i) h g = moves_at d l k i (omega arith) (omega arith)

-- ---- a number that is no square

in_low : (n : ℕ) → leb n 50 ≡ true → square_in n ≡ n
unfolding square_in
in_low n e = rw e

in_high : (n : ℕ) → leb n 50 ≡ false → is_square (square_in n) ≡ false
unfolding square_in
in_high n e = rw e (high_square 51 refl)

off_play : (g : Game) (m : Move) → squares_of m ≡ false → play_of g m ≡ cond (valid g) (Err (refusal 11)) (Err (refusal 13))
unfolding play_of
off_play g m e = rw e

-- 51 is turned back like the number for which it stands
pub played_in : (g : Game) (a b c : ℕ) → play_of g (move (square_in a) (square_in b) c) ≡ play_of g (move a b c)
played_in g a b c = go (leb a 50) (leb b 50) refl refl
  where
    off : squares_of (move (square_in a) (square_in b) c) ≡ false → squares_of (move a b c) ≡ false
        → play_of g (move (square_in a) (square_in b) c) ≡ play_of g (move a b c)
    off e f = off_play g _ e ∙ sym (off_play g _ f)

    go : (s t : Bool) → leb a 50 ≡ s → leb b 50 ≡ t → play_of g (move (square_in a) (square_in b) c) ≡ play_of g (move a b c)
    go true true e f = ap₂ (λ (x y : ℕ). play_of g (move x y c)) (in_low a e) (in_low b f)
    go false t e f = off (off_from (square_in a) (square_in b) c (in_high a e)) (off_from a b c (high_square a e))
    go true false e f = off (off_to (square_in a) (square_in b) c (in_high b f)) (off_to a b c (high_square b f))
