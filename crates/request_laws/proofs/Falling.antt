-- What is written of a play grows by three bytes for each piece that it takes, and a piece is taken only once. So the plays of a whole
-- game need a fixed number of bytes each, and at most three more for each piece on the board at its start.
use Rattle.std.specs.Prelude.{Err, None, Ok, Result, Some}
use Prim.Native.Nat.{ℕ, suc, ◌+◌, ◌*◌, ◌≤◌, ◌<◌}
use mathlib.Core.Path.{◌≡◌, refl, ap, ap₂, sym, ◌∙◌, subst}
use mathlib.Core.List.{List, [], ◌∷◌, ◌++◌}
use mathlib.Core.Bool.{Bool, true, false, cond}
use native.Mathlib.Omega.{arith}
use lib.Dec.{eqb, ltb}
use lib.ListN.{length, take, length-append, length-take}
use Rattle.squares.specs.Refusals.{number_of}
use Rattle.squares.specs.Sets.{size}
use Rattle.squares.specs.declared.piece.Color.TheVariants.{White, Black}
use Rattle.squares.specs.declared.refusal.Refusal.{Refusal}
use Rattle.squares.specs.declared.refusal.Refusal.TheVariants.{NoSuchSquare, BadPosition, BadGame, GameOver, NoMoveFits, TooManyMoves, BadMoveText}
use Rattle.squares.proofs.Sizes.{size_most}
use Rattle.positions.specs.Acceptance.{sound}
use Rattle.positions.specs.Boards.{board_of}
use Rattle.positions.specs.Hash.{position_of}
use Rattle.positions.proofs.Measure.{pieces_on}
use Rattle.positions.specs.Moves.{squares_of}
use Rattle.positions.specs.Successor.{successor}
use Rattle.positions.specs.declared.moves.Move.{Move}
use Rattle.positions.specs.declared.position.Position.{Position}
use Rattle.positions.proofs.Accepts.{sound_says, says_sound, position_sound}
use Rattle.positions.proofs.Kept.{successor_accepted}
use Rattle.positions.proofs.Measures.{pieces_after}
use Rattle.rules.specs.Lists.{times}
use Rattle.rules.specs.Ordered.{legal, listed}
use Rattle.rules.proofs.Laws.{fair_of_accepted, listed_legal, legal_playable}
use Rattle.movegen.specs.Lists.{after_of}
use Rattle.movegen.proofs.Answers.{after_many, after_none, after_one}
use Rattle.notation.specs.Choice.{fit_of}
use Rattle.notation.specs.Notation.{read_move_of}
use Rattle.notation.specs.declared.notation.Said.{Said}
use Rattle.games.specs.Games.{blank_position, window_of, last_of, valid, stood, same_position, irreversible, material_after, judged_of, ended}
use Rattle.games.specs.Demand3.{game_of}
use Rattle.games.specs.Play.{empty_game, alone_of, fresh_of, new_of, appended_of, moved_of, reached_of, play_of, outcome_of, stands_of, repetitions_of, reversible_plies_of, legal_moves_of}
use Rattle.captures.specs.declared.moves.MoveList.{MoveList}
use Rattle.games.specs.declared.game.Game.{Game}
use Rattle.games.specs.declared.game.Termination.{Termination}
use Rattle.games.specs.declared.game.Termination.TheVariants.{NoMoves, Repetition, TwentyFiveMoves, SixteenMoves, FiveMoves}
use Rattle.games.proofs.Stands.{room_left}
use Rattle.positions.proofs.Accepts.{blank_sound}
use Rattle.games.proofs.Valid.{valid_says, material_fits, alone_last, alone_long, alone_valid, more_last, more_long, more_valid}
use Rattle.gametexts.specs.Texts.{beside, play_found, play_said, play_heard, play_str_of, played_on}
use Rattle.gametexts.specs.declared.game.PlayedText.{PlayedText}
use Rattle.wording.specs.Escapes.{undone}
use Rattle.wording.specs.Output.{decimal, number_word}
use Rattle.texts.specs.Bytes.{cons_head, parts_at}
use Rattle.replies.specs.Answers.{move_word, count_word}
use Rattle.replies.specs.States.{winner_word, ending_word, judged_word, plies_text, state_text, stand_word, moves_word, end_text}
use Rattle.requests.specs.Plays.{words_of, record_of, play_text_of, play_move, play_record_of, text_told, record_told, game_text}
use Rattle.request_laws.proofs.Lengths.{decimal_most, decimal_two, fen_most, move_by}
use Rattle.squares.specs.declared.piece.Color.{Color}
use Rattle.std.specs.declared.option.Option.{Option}
use Rattle.games.specs.declared.game.Outcome.{Outcome}

-- ---- a game that goes on
pub record Good (g : Game) : Type 0 where
  pub valid : valid g ≡ true
  pub long : length g.kept ≡ 51
  pub sound : sound (last_of g) ≡ true

-- the pieces on the board
unfoldable pub pieces : Game → ℕ
pieces g = pieces_on (board_of (last_of g))

alone_good : (p : Position) (n : ℕ) → sound p ≡ true → n ≤ 32 → Good (alone_of p n)
alone_good p n s h = record { valid = alone_valid p n s h; long = alone_long p n; sound = ap sound (alone_last p n) ∙ s }

-- every game that is begun, the one of a refusal too
pub new_good : (p : Position) → Good (game_of (new_of p))
unfolding new_of fresh_of empty_game
new_good p = go (sound p) refl
  where
    go : (t : Bool) → sound p ≡ t → Good (game_of (cond t (Ok (alone_of p 0)) (Err BadPosition)))
    go true e = alone_good p 0 e (omega arith)
    go false e = alone_good blank_position 0 blank_sound (omega arith)

-- ---- a move played
record Moved (n : Game) (q : Position) : Type 0 where
  good : Good n
  last : last_of n ≡ q

moved : (g : Game) → Good g → g.reversible < 50 → (m : Move) (q : Position) → sound q ≡ true → Moved (moved_of g m q) q
unfolding moved_of
moved g r o m q s = go (irreversible (board_of (last_of g)) m)
  where
    go : (t : Bool) → let n = material_after (board_of (last_of g)) m g.material in Moved (cond t (alone_of q n) (appended_of g q n)) q
    go true =
        let n = material_after (board_of (last_of g)) m g.material in
        record { good = alone_good q n s (material_fits (board_of (last_of g)) m g.material); last = alone_last q n }
    go false =
        let n = material_after (board_of (last_of g)) m g.material in
        let v = valid_says g r.valid in
        let l = more_last g q n v r.long o in
        record {
          good = record {
            valid = more_valid g q n v r.long o s (material_fits (board_of (last_of g)) m g.material);
            long = more_long g q n v r.long o;
            sound = ap sound l ∙ s;
          };
          last = l;
        }

-- the game after it: as many pieces fewer as are taken
record Went (g : Game) (m : Move) (n : Game) : Type 0 where
  good : Good n
  fallen : pieces n + size m.captured ≡ pieces g

data Case (g : Game) (m : Move) : Type 0 where
  refused : (e : Refusal) → play_of g m ≡ Err e → Case g m
  done : (n : Game) → play_of g m ≡ Ok n → Went g m n → Case g m

module _ (g : Game) (r : Good g) (m : Move) where
  abbrev told : Bool → Bool → Result Game Refusal
  told q o = cond q (cond o (Err GameOver) (reached_of g m (after_of (last_of g) m))) (Err NoSuchSquare)

  play_at : (q o : Bool) → squares_of m ≡ q → ended (judged_of g) ≡ o → play_of g m ≡ told q o
  unfolding play_of
  play_at q o e f = ap (λ (t : Bool). cond t (told (squares_of m) (ended (judged_of g))) (Err BadGame)) r.valid ∙ ap₂ told e f

  went : ended (judged_of g) ≡ false → listed (legal (board_of (last_of g))) m ≡ true → Went g m (moved_of g m (position_of (successor (board_of (last_of g)) m)))
  unfolding pieces
  went o l =
      let b = board_of (last_of g) in
      let a = (sound_says (last_of g) r.sound).accepted in
      let fair = fair_of_accepted b a in
      let y = legal_playable b fair m ((listed_legal b fair m).0 l) in
      let q = position_of (successor b m) in
      let s = says_sound q (position_sound (successor b m) (successor_accepted b m a y)) in
      let v = moved g r (room_left g o) m q s in
      record { good = v.good; fallen = ap (λ (p : Position). pieces_on (board_of p) + size m.captured) v.last ∙ pieces_after b m a y }

  play_case : Case g m
  play_case = go (squares_of m) refl (ended (judged_of g)) refl (ltb 256 (length (legal (board_of (last_of g))))) refl (listed (legal (board_of (last_of g))) m) refl
    where
      go : (q : Bool) → squares_of m ≡ q → (o : Bool) → ended (judged_of g) ≡ o → (n : Bool) → ltb 256 (length (legal (board_of (last_of g)))) ≡ n
          → (l : Bool) → listed (legal (board_of (last_of g))) m ≡ l → Case g m
      go false q o f n h l k = refused NoSuchSquare (play_at false o q f)
      go true q true f n h l k = refused GameOver (play_at true true q f)
      go true q false f true h l k = refused TooManyMoves (play_at true false q f ∙ ap (reached_of g m) (after_many (last_of g) r.sound m q h))
      go true q false f false h false k = refused NoMoveFits (play_at true false q f ∙ ap (reached_of g m) (after_none (last_of g) r.sound m q h k))
      go true q false f false h true k =
          done (moved_of g m (position_of (successor (board_of (last_of g)) m)))
          (play_at true false q f ∙ ap (reached_of g m) (after_one (last_of g) r.sound m q h k)) (went f k)

-- ---- the state of a game
winner_most : (w : Option Color) → length (winner_word w) ≤ 6
winner_most (Some White) = omega arith
winner_most (Some Black) = omega arith
winner_most None = omega arith

ending_most : (t : Termination) (w : Option Color) → length (ending_word t w) ≤ 6
ending_most NoMoves w = winner_most w
ending_most Repetition w = omega arith
ending_most TwentyFiveMoves w = omega arith
ending_most SixteenMoves w = omega arith
ending_most FiveMoves w = omega arith

pub judged_most : (j : Result (Option Outcome) Refusal) → length (judged_word j) ≤ 6
judged_most (Ok (Some o)) = ending_most o.termination o.winner
judged_most (Ok None) = omega arith
judged_most (Err e) = omega arith

pub count_most : (c : Result ℕ Refusal) → length (count_word c) ≤ 20
count_most (Ok n) = decimal_most n
count_most (Err e) = omega arith

state_length : (mark : ℕ) (g : Game)
    → length (state_text mark g) ≡ 4 + length (judged_word (outcome_of g)) + length (count_word (reversible_plies_of g)) + length (decimal g.material) + length (count_word (repetitions_of g))
unfolding state_text plies_text
state_length mark g =
    let j = judged_word (outcome_of g) in
    let r = count_word (reversible_plies_of g) in
    let d = decimal g.material in
    let t = count_word (repetitions_of g) in
    omega (
      arith,
      length-append j ((mark ∷ (r ++ (mark ∷ d))) ++ (mark ∷ t)),
      length-append (r ++ (mark ∷ d)) (mark ∷ t),
      length-append r (mark ∷ d),
    )

state_most : (mark : ℕ) (g : Game) → length (state_text mark g) ≤ 70
state_most mark g =
    omega (arith, state_length mark g, judged_most (outcome_of g), count_most (reversible_plies_of g), decimal_most g.material, count_most (repetitions_of g))

times_most : {A : Type 0} (same : A → A → Bool) (l : List A) (x : A) → times same l x ≤ length l
unfolding times
times_most same [] x = omega arith
times_most same (y ∷ l) x = go (same y x) (times_most same l x)
  where
    go : (t : Bool) → times same l x ≤ length l → cond t 1 0 + times same l x ≤ suc (length l)
    go true h = omega arith
    go false h = omega arith

module _ (g : Game) (r : Good g) where
  plies_two : length (count_word (reversible_plies_of g)) ≤ 2
  unfolding reversible_plies_of
  plies_two = rw r.valid (decimal_two g.reversible (omega (arith, (valid_says g r.valid).reversible)))

  stood_two : length (count_word (repetitions_of g)) ≤ 2
  unfolding repetitions_of stood window_of
  stood_two =
      let v = valid_says g r.valid in
      rw r.valid
      (decimal_two (times same_position (take g.len g.kept) (last_of g))
      (omega (arith, times_most same_position (take g.len g.kept) (last_of g), length-take g.len g.kept, v.len, v.reversible)))

  -- an outcome, and three numbers of two digits
  state_short : (mark : ℕ) → length (state_text mark g) ≤ 16
  state_short mark =
      omega (arith, state_length mark g, judged_most (outcome_of g), plies_two, decimal_two g.material (omega (arith, (valid_says g r.valid).material)), stood_two)

-- ---- what is written of a word
pub record Word (g : Game) (told : List ℕ) (n : Game) : Type 0 where
  pub good : Good n
  pub cost : length told + 3 * pieces n ≤ 22 + 3 * pieces g

-- the words that are played and told so: each costs at most 22 bytes, and three for each piece that it takes
abbrev pub Costs : (Game → List ℕ → Result PlayedText Refusal) → (Result PlayedText Refusal → List ℕ) → Type 0
Costs play tell = (g : Game) → Good g → (w : List ℕ) → Word g (tell (play g w)) (played_on g (play g w))

-- the word plays a move, or it is refused
data Case_of (g : Game) (a : Result PlayedText Refusal) : Type 0 where
  plays : (m : Move) → a ≡ beside m (play_of g m) → Case_of g a
  leaves : (e : Refusal) → a ≡ Err e → Case_of g a

module _ (g : Game) (r : Good g) where
  str_is : (t : List ℕ) → play_str_of g t ≡ play_heard g (read_move_of t)
  unfolding play_str_of
  str_is t = rw r.valid

  said_case : (h : Said) → Case_of g (play_said g h)
  unfolding play_said
  said_case h = go (ended (judged_of g)) (fit_of (last_of g) h)
    where
      go : (o : Bool) (f : Result Move Refusal) → Case_of g (cond o (Err GameOver) (play_found g f))
      go true f = leaves GameOver refl
      go false (Ok m) = plays m refl
      go false (Err e) = leaves e refl

  text_case : (w : List ℕ) → Case_of g (play_text_of g w)
  unfolding play_text_of
  text_case w = subst (Case_of g) (sym (str_is (undone w))) (go (read_move_of (undone w)))
    where
      go : (h : Result Said Refusal) → Case_of g (play_heard g h)
      go (Ok h) = said_case h
      go (Err e) = leaves e refl

  record_case : (w : List ℕ) → Case_of g (play_record_of g w)
  unfolding play_record_of
  record_case w = go (record_of w)
    where
      go : (x : Option Move) → Case_of g (play_move g x)
      go (Some m) = plays m refl
      go None = leaves BadMoveText refl

  text_refused : (e : Refusal) (a : Result PlayedText Refusal) → a ≡ Err e → Word g (text_told a) (played_on g a)
  unfolding text_told number_word
  text_refused e a q = rw q (record { good = r; cost = omega (arith, decimal_most (number_of e)) })

  text_done : (m : Move) (n : Game) → Went g m n → (a : Result PlayedText Refusal) → a ≡ Ok (record { game = n; mv = m }) → Word g (text_told a) (played_on g a)
  unfolding text_told
  text_done m n v a q =
      rw q
      (record {
        good = v.good;
        cost = omega (arith, length-append (move_word m) (state_text 47 n), move_by m, state_short n v.good 47, v.fallen);
      })

  record_refused : (e : Refusal) (a : Result PlayedText Refusal) → a ≡ Err e → Word g (record_told a) (played_on g a)
  unfolding record_told
  record_refused e a q = rw q (record { good = r; cost = omega (arith, decimal_most (number_of e)) })

  record_done : (m : Move) (n : Game) → Went g m n → (a : Result PlayedText Refusal) → a ≡ Ok (record { game = n; mv = m }) → Word g (record_told a) (played_on g a)
  unfolding record_told
  record_done m n v a q = rw q (record { good = v.good; cost = omega (arith, decimal_most 0, v.fallen) })

  -- what is written of a word, by what became of it
  module _ (told : Result PlayedText Refusal → List ℕ)
      (refused-cost : (e : Refusal) (a : Result PlayedText Refusal) → a ≡ Err e → Word g (told a) (played_on g a))
      (done-cost : (m : Move) (n : Game) → Went g m n → (a : Result PlayedText Refusal) → a ≡ Ok (record { game = n; mv = m }) → Word g (told a) (played_on g a)) where
    by_case : (a : Result PlayedText Refusal) → Case_of g a → Word g (told a) (played_on g a)
    by_case a (plays m p) = go (play_case g r m)
      where
        go : Case g m → Word g (told a) (played_on g a)
        go (refused e q) = refused-cost e a (p ∙ ap (beside m) q)
        go (done n q v) = done-cost m n v a (p ∙ ap (beside m) q)
    by_case a (leaves e p) = refused-cost e a p

  pub text_cost : (w : List ℕ) → Word g (text_told (play_text_of g w)) (played_on g (play_text_of g w))
  text_cost w = by_case text_told text_refused text_done (play_text_of g w) (text_case w)

  pub record_cost : (w : List ℕ) → Word g (record_told (play_record_of g w)) (played_on g (play_record_of g w))
  record_cost w = by_case record_told record_refused record_done (play_record_of g w) (record_case w)

-- ---- all words, then the end
stand_most : (p : Result Position Refusal) → length (stand_word p) ≤ 196
stand_most (Ok p) = fen_most p
stand_most (Err e) = omega arith

length_most : (l : Result MoveList Refusal) → length (moves_word l) ≤ 21
unfolding number_word
length_most (Ok l) = omega (arith, decimal_most l.len)
length_most (Err e) = omega (arith, decimal_most (number_of e))

end_most : (g : Game) → length (end_text g) ≤ 291
unfolding end_text
end_most g =
    let l = legal_moves_of g 256 in
    let s = stand_word (stands_of g) in
    let t = state_text 32 g in
    let w = moves_word l in
    omega (
      arith,
      length-append s (t ++ (32 ∷ w)),
      length-append t (32 ∷ w),
      stand_most (stands_of g),
      state_most 32 g,
      length_most l,
    )

module _ (play : Game → List ℕ → Result PlayedText Refusal) (tell : Result PlayedText Refusal → List ℕ) (cost : Costs play tell) where
  pub game_cost : (g : Game) → Good g → (ws : List (List ℕ)) → length (game_text play tell g ws) ≤ 22 * length ws + 3 * pieces g + 291
  unfolding game_text
  game_cost g r [] = omega (arith, end_most g)
  game_cost g r (w ∷ ws) =
      let a = play g w in
      let v = cost g r w in
      let i = game_cost (played_on g a) v.good ws in
      omega (arith, length-append (tell a) (game_text play tell (played_on g a) ws), v.cost, i)

pub pieces_most : (g : Game) → pieces g ≤ 128
unfolding pieces pieces_on
pieces_most g = omega (arith, size_most (board_of (last_of g)).white, size_most (board_of (last_of g)).black)

-- there are no more words than bytes
pub words_most : (s : List ℕ) → length (words_of s) ≤ length s
unfolding parts_at cons_head
words_most [] = omega arith
words_most (b ∷ s) = go (eqb b 32) (words_of s) (words_most s)
  where
    go : (t : Bool) (l : List (List ℕ)) → length l ≤ length s → length (cond t ([] ∷ l) (cons_head b l)) ≤ suc (length s)
    go true l h = omega arith
    go false [] h = omega arith
    go false (f ∷ l) h = omega arith
