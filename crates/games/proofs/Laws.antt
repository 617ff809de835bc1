-- Demand 3 for every sound start and every list of move records: one play at a time the game's answer is the book's, and the
-- game stands for the book again.
use Rattle.std.specs.Prelude.{Err, Ok, Result}
use mathlib.Core.Path.{◌≡◌, refl, sym, ap, ap₂, ◌∙◌}
use Prim.Native.Nat.{ℕ, suc, ◌+◌}
use mathlib.Core.Bool.{Bool, true, false, not, cond}
use mathlib.Core.List.{List, [], ◌∷◌}
use lib.Dec.{ltb}
use lib.ListN.{length}
use borrow.Author.Tests.{eq-eqb}
use Rattle.squares.specs.Refusals.{answer_number_of, number_of, refusal}
use Rattle.squares.specs.Sets.{size}
use Rattle.squares.specs.declared.refusal.Refusal.{Refusal}
use Rattle.squares.specs.declared.refusal.Refusal.TheVariants.{NoSuchSquare, BadGame, GameOver, NoMoveFits, TooManyMoves}
use Rattle.positions.specs.Acceptance.{sound}
use Rattle.positions.specs.Boards.{Board, board_of, men_of, kings_of}
use Rattle.positions.specs.Hash.{position_of}
use Rattle.positions.specs.Moves.{squares_of}
use Rattle.positions.specs.Successor.{successor}
use Rattle.positions.specs.declared.moves.Move.{Move}
use Rattle.positions.specs.declared.position.Position.{Position}
use Rattle.positions.proofs.Accepts.{says_sound, position_sound}
use Rattle.positions.proofs.Kept.{successor_accepted}
use Rattle.positions.proofs.Records.{capture_is}
use Rattle.rules.specs.Ordered.{legal, listed}
use Rattle.rules.specs.Rules.{Legal}
use Rattle.rules.proofs.Laws.{fair_of_accepted, listed_legal, legal_playable, legal_most, legal_quiet}
use Rattle.movegen.specs.Lists.{after_of}
use Rattle.movegen.proofs.Answers.{after_many, after_none, after_one}
use Rattle.games.specs.Book.{Book, tally_of, standing, begun_book, Verdict, goes_on, ends, book_outcome, over, book_answer, reached, book_next, book_answers, book_after}
use Rattle.games.specs.Demand3.{answers_to, game_after, heard_of, heard, told_as, book_of, AtAccepted, TakesMost, NoneOpen, Demand3}
use Rattle.games.specs.Games.{last_of, valid, judged_of, ended}
use Rattle.games.specs.Play.{fresh_of, new_of, moved_of, reached_of, play_of, after_play, outcome_of}
use Rattle.games.specs.declared.game.Game.{Game}
use Rattle.games.proofs.BookPlay.{meets, next_of, accepted_listed}
use Rattle.games.proofs.RefusedPlay.{refused_stands}
use Rattle.games.proofs.Stands.{Stands, begun_stands, now_sound, now_accepted, same_outcome, room_left, moved_stands}
use Rattle.games.proofs.Tests.{squares_agree}
use Rattle.games.proofs.Valid.{alone_last}

-- ---- the program's play, case by case
module _ (g : Game) (m : Move) (v : valid g ≡ true) where
  abbrev told : Bool → Bool → Result Game Refusal → Result Game Refusal
  told q o r = cond q (cond o (Err GameOver) r) (Err NoSuchSquare)

  play_is : (q o : Bool) → squares_of m ≡ q → ended (judged_of g) ≡ o → play_of g m ≡ told q o (reached_of g m (after_of (last_of g) m))
  unfolding play_of
  play_is q o e f =
      ap (λ (t : Bool). cond t (told (squares_of m) (ended (judged_of g)) (reached_of g m (after_of (last_of g) m))) (Err BadGame)) v
      ∙ ap₂ (λ (s t : Bool). told s t (reached_of g m (after_of (last_of g) m))) e f

over_told : (v : Verdict) → ended (told_as v) ≡ over v
over_told goes_on = refl
over_told (ends o) = refl

-- one play
record Step (start : Board) (g : Game) (b : Book) (m : Move) : Type 0 where
  answer : answer_number_of (play_of g m) ≡ book_answer b m
  stands : Stands start (after_play g (play_of g m)) (book_next b m)

module _ (start : Board) (g : Game) (b : Book) (r : Stands start g b) (m : Move) where
  -- refused: game and book stay
  refused : (e : Refusal) (n : ℕ) → play_of g m ≡ Err e → book_answer b m ≡ suc n → number_of e ≡ suc n → Step start g b m
  refused e n p k z = record {
    answer = ap answer_number_of p ∙ z ∙ sym k;
    stands = refused_stands start g b r m e n p k;
  }

  -- accepted: the successor stands in both
  accepted : (q : Position) → board_of q ≡ reached b m → play_of g m ≡ Ok (moved_of g m q) → book_answer b m ≡ 0
      → ended (judged_of g) ≡ false → Legal (standing b) m → sound q ≡ true → Step start g b m
  accepted q e p k o h s = record {
    answer = ap answer_number_of p ∙ sym k;
    stands = rw (p, next_of b m true (eq-eqb (book_answer b m) 0 k))
        (moved_stands start g b r m (room_left g o) h q s e);
  }

  step : Step start g b m
  step = go (squares_of m) refl (ended (judged_of g)) refl (ltb 256 (length (legal (standing b)))) refl (listed (legal (standing b)) m) refl
    where
      board_is : standing b ≡ board_of (last_of g)
      board_is = r.last

      over_is : (o : Bool) → ended (judged_of g) ≡ o → over (book_outcome b) ≡ o
      over_is o e = sym (over_told (book_outcome b)) ∙ sym (ap ended (same_outcome start g b r)) ∙ e

      go : (q : Bool) → squares_of m ≡ q → (o : Bool) → ended (judged_of g) ≡ o → (n : Bool) → ltb 256 (length (legal (standing b))) ≡ n
          → (l : Bool) → listed (legal (standing b)) m ≡ l → Step start g b m
      go false q o f n h l k =
          refused NoSuchSquare 10 (play_is g m r.valid false o q f) (meets b m false o n l (sym (squares_agree m) ∙ q) (over_is o f) h k) refl
      go true q true f n h l k =
          refused GameOver 13 (play_is g m r.valid true true q f) (meets b m true true n l (sym (squares_agree m) ∙ q) (over_is true f) h k) refl
      go true q false f true h l k =
          refused TooManyMoves 16
          (play_is g m r.valid true false q f ∙ ap (reached_of g m) (after_many (last_of g) r.sound m q (rw (← board_is) h)))
          (meets b m true false true l (sym (squares_agree m) ∙ q) (over_is false f) h k) refl
      go true q false f false h false k =
          refused NoMoveFits 14
          (play_is g m r.valid true false q f ∙ ap (reached_of g m) (after_none (last_of g) r.sound m q (rw (← board_is) h) (rw (← board_is) k)))
          (meets b m true false false false (sym (squares_agree m) ∙ q) (over_is false f) h k) refl
      go true q false f false h true k =
          let a = now_accepted start g b r in
          let fair = fair_of_accepted (standing b) a in
          let move = (listed_legal (standing b) fair m).0 k in
          let next = successor_accepted (standing b) m a (legal_playable (standing b) fair m move) in
          accepted (position_of (successor (standing b) m)) (unfold reached in refl)
          (play_is g m r.valid true false q f
          ∙ ap (reached_of g m) (after_one (last_of g) r.sound m q (rw (← board_is) h) (rw (← board_is) k) ∙ ap (λ (x : Board). Ok (position_of (successor x m))) (sym board_is)))
          (meets b m true false false true (sym (squares_agree m) ∙ q) (over_is false f) h k)
          f move (says_sound (position_of (successor (standing b) m)) (position_sound (successor (standing b) m) next))

  -- what is said of an accepted move
  most_at : book_answer b m ≡ 0 → TakesMost (standing b) m
  most_at e =
      let fair = fair_of_accepted (standing b) (now_accepted start g b r) in
      legal_most (standing b) fair m ((listed_legal (standing b) fair m).0 (accepted_listed b m e))

  none_at : book_answer b m ≡ 0 → NoneOpen (standing b) m
  none_at e z =
      let fair = fair_of_accepted (standing b) (now_accepted start g b r) in
      (legal_quiet (standing b) fair m ((listed_legal (standing b) fair m).0 (accepted_listed b m e))
      (capture_is m ∙ ap not (eq-eqb m.captured 0 z))).0

-- ---- a list of plays
record Run (start : Board) (g : Game) (b : Book) (ms : List Move) : Type 0 where
  answers : answers_to play_of g ms ≡ book_answers b ms
  stands : Stands start (game_after play_of g ms) (book_after b ms)
  most : AtAccepted TakesMost b ms
  none : AtAccepted NoneOpen b ms

runs : (start : Board) (g : Game) (b : Book) → Stands start g b → (ms : List Move) → Run start g b ms
unfolding answers_to game_after book_answers book_after AtAccepted
runs start g b r [] = record { answers = refl; stands = r; most = tt; none = tt }
runs start g b r (m ∷ ms) =
    let s = step start g b r m in
    let t = runs start (after_play g (play_of g m)) (book_next b m) s.stands ms in
    record {
      answers = ap₂ (λ (x : ℕ) (l : List ℕ). x ∷ l) s.answer t.answers;
      stands = t.stands;
      most = (most_at start g b r m, t.most);
      none = (none_at start g b r m, t.none);
    }

-- ---- the law
pub new_is : (p : Position) → sound p ≡ true → new_of p ≡ Ok (fresh_of p)
unfolding new_of
new_is p s = ap (λ (t : Bool). cond t (Ok (fresh_of p)) (Err (refusal 12))) s

outcome_is : (g : Game) → valid g ≡ true → outcome_of g ≡ Ok (judged_of g)
unfolding outcome_of
outcome_is g v = ap (λ (t : Bool). cond t (Ok (judged_of g)) (Err BadGame)) v

pub demand3 : (start : Position) → sound start ≡ true → (moves : List Move) → Demand3 start moves (heard start moves)
unfolding heard_of
demand3 start s moves =
    let z = begun_stands start s in
    let n = new_is start s in
    let t = runs (board_of start) (fresh_of start) (begun_book (board_of start)) z moves in
    let r = t.stands in
    rw n record {
      begins = refl;
      start_stands = unfold fresh_of in ap board_of (alone_last start 0);
      answers = t.answers;
      position = sym r.last;
      outcome = outcome_is (game_after play_of (fresh_of start) moves) r.valid ∙ ap Ok (same_outcome (board_of start) _ _ r);
      hash = (now_sound (board_of start) _ _ r).hash;
      men = λ c. ap (λ (x : Board). size (men_of c x) + (tally_of c (book_of start moves)).promotions + (tally_of c (book_of start moves)).men_taken) (sym r.last) ∙ r.men c;
      kings = λ c. ap (λ (x : Board). size (kings_of c x) + (tally_of c (book_of start moves)).kings_taken) (sym r.last) ∙ r.kings c;
      most = t.most;
      none_open = t.none;
    }
