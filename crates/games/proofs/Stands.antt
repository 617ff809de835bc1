-- The game stands for the book: the book's positions are older ones and then the kept window; every older one has a larger
-- measure, so it cannot come back; every kept one is sound; the counters agree, the second up to 32; the pieces add up.
use mathlib.Core.Path.{◌≡◌, refl, sym, ap, ap₂, ◌∙◌}
use Prim.Native.Nat.{ℕ, ◌+◌, ◌<◌, min}
use native.Mathlib.Omega.{arith}
use mathlib.Core.Bool.{Bool, true, false, cond, ◌||◌, true≢false}
use mathlib.Core.List.{List, [], ◌∷◌, ◌++◌, map, map-append, append_assoc}
use lib.Dec.{leb}
use lib.ListN.{length}
use borrow.Author.Tests.{leb-false}
use Rattle.squares.specs.Sets.{size}
use Rattle.squares.specs.Pieces.{other}
use Rattle.squares.specs.declared.piece.Color.{Color}
use Rattle.squares.specs.declared.piece.Color.TheVariants.{White, Black}
use Rattle.positions.specs.Acceptance.{Accepted, sound, Sound}
use Rattle.positions.specs.Boards.{Board, board_of, men_of, kings_of}
use Rattle.positions.proofs.Measure.{Smaller, Level}
use Rattle.positions.specs.Successor.{Playable}
use Rattle.positions.specs.declared.moves.Move.{Move}
use Rattle.positions.specs.declared.position.Position.{Position}
use Rattle.positions.proofs.Accepts.{sound_says}
use Rattle.positions.proofs.Measures.{level_refl, level_trans, smaller_level, level_smaller, smaller_trans}
use Rattle.rules.specs.Rules.{Legal}
use Rattle.rules.proofs.Laws.{fair_of_accepted, legal_playable}
use Rattle.games.specs.Book.{Tally, Book, tally_of, last_in, standing, begun_book, times_in, first_to_hold, tests_at, book_outcome, tallied, reached, book_played}
use Rattle.games.specs.Demand3.{told_as}
use Rattle.games.specs.Games.{window_of, last_of, valid, stood, irreversible, material_after, can_move, won, drawn, king_ending, judge, judged_of, ended}
use Rattle.games.specs.declared.game.Termination.TheVariants.{Repetition, TwentyFiveMoves}
use Rattle.games.specs.Play.{alone_of, fresh_of, appended_of, moved_of}
use Rattle.games.specs.declared.game.Game.{Game}
use Rattle.games.proofs.Boards.{last_snoc, Each, each_none, each_one, each_append, each_from, times_append, times_none, times_boards}
use Rattle.games.proofs.Moves.{man_agrees, promotion_agrees, taking_agrees, men_add, kings_add, Measured, falls, stays, measured}
use Rattle.games.proofs.Counters.{second_agrees}
use Rattle.games.proofs.Tests.{outcome_agrees}
use Rattle.games.proofs.Valid.{valid_says, material_fits, alone_window, alone_last, alone_long, alone_first, alone_second, alone_valid, more_window, more_last, more_long, more_first, more_second, more_valid}
use Rattle.std.specs.Prelude.{Some}

-- the window as boards
abbrev pub boards : Game → List Board
boards g = map board_of (window_of g)

pub record Stands (start : Board) (g : Game) (b : Book) : Type 0 where
  pub older : List Board
  pub valid : valid g ≡ true
  pub long : length g.kept ≡ 51
  pub sound : sound (last_of g) ≡ true
  pub parts : b.positions ≡ older ++ boards g
  pub last : standing b ≡ board_of (last_of g)
  pub first : g.reversible ≡ b.first
  pub second : g.material ≡ min 32 b.second
  pub above : Each (Smaller (board_of (last_of g))) older
  pub level : Each (Level (board_of (last_of g))) (boards g)
  pub men : (c : Color) → size (men_of c (standing b)) + (tally_of c b).promotions + (tally_of c b).men_taken ≡ size (men_of c start)
  pub kings : (c : Color) → size (kings_of c (standing b)) + (tally_of c b).kings_taken ≡ size (kings_of c start) + (tally_of c b).promotions

-- ---- at the start
pub begun_stands : (p : Position) → sound p ≡ true → Stands (board_of p) (fresh_of p) (begun_book (board_of p))
unfolding fresh_of begun_book last_in
begun_stands p s =
    record {
      older = [];
      valid = alone_valid p 0 s (omega arith);
      long = alone_long p 0;
      sound = ap sound (alone_last p 0) ∙ s;
      parts = sym (ap (map board_of) (alone_window p 0));
      last = sym (ap board_of (alone_last p 0));
      first = alone_first p 0;
      second = alone_second p 0;
      above = each_none (Smaller (board_of (last_of (alone_of p 0))));
      level = rw (alone_window p 0, alone_last p 0) (each_one (Level (board_of p)) (board_of p) (level_refl (board_of p)));
      men = λ c. sums c;
      kings = λ c. king_sums c;
    }
  where
    sums : (c : Color) → size (men_of c (board_of p)) + (tally_of c (begun_book (board_of p))).promotions + (tally_of c (begun_book (board_of p))).men_taken ≡ size (men_of c (board_of p))
    sums White = omega arith
    sums Black = omega arith

    king_sums : (c : Color) → size (kings_of c (board_of p)) + (tally_of c (begun_book (board_of p))).kings_taken ≡ size (kings_of c (board_of p)) + (tally_of c (begun_book (board_of p))).promotions
    king_sums White = omega arith
    king_sums Black = omega arith

module _ (start : Board) (g : Game) (b : Book) (r : Stands start g b) where
  pub now_sound : Sound (last_of g)
  now_sound = sound_says (last_of g) r.sound

  pub now_accepted : Accepted (standing b)
  now_accepted = rw r.last now_sound.accepted

  -- ---- the outcome
  stood_is : times_in (standing b) b.positions ≡ stood g
  unfolding stood
  stood_is =
      ap₂ times_in r.last r.parts
      ∙ times_append (board_of (last_of g)) r.older (boards g)
      ∙ ap₂ ◌+◌ (times_none (board_of (last_of g)) r.older r.above) (times_boards (last_of g) (window_of g))
      ∙ omega arith

  pub same_outcome : judged_of g ≡ told_as (book_outcome b)
  unfolding judged_of book_outcome
  same_outcome =
      ap₂ (λ (x y : ℕ). judge (board_of (last_of g)) (stood g) x y) r.first r.second
      ∙ outcome_agrees (board_of (last_of g)) now_sound.accepted (stood g) b.first b.second
      ∙ sym (ap₂ (λ (p : Board) (n : ℕ). told_as (first_to_hold (tests_at p n b.first b.second))) r.last stood_is)

-- ---- an accepted play
-- no outcome leaves room for one more position
pub room : (p : Board) (n f s : ℕ) → ended (judge p n f s) ≡ false → f < 50
unfolding judge
room p n f s e = leb-false 50 f (go (can_move p) (leb 3 n) (leb 50 f) e)
  where
    go : (x y z : Bool) → ended (cond x (cond y (Some (drawn Repetition)) (cond z (Some (drawn TwentyFiveMoves)) (king_ending p s))) (Some (won (other p.side)))) ≡ false → z ≡ false
    go false y z q = absurd (true≢false q)
    go true true z q = absurd (true≢false q)
    go true false true q = absurd (true≢false q)
    go true false false q = refl

pub room_left : (g : Game) → ended (judged_of g) ≡ false → g.reversible < 50
unfolding judged_of
room_left g e = room (board_of (last_of g)) (stood g) g.reversible g.material e

module _ (start : Board) (g : Game) (b : Book) (r : Stands start g b) (m : Move) (o : g.reversible < 50) (h : Legal (standing b) m) (q : Position) (s : sound q ≡ true) (e : board_of q ≡ reached b m) where
  a : Accepted (standing b)
  a = now_accepted start g b r

  y : Playable (standing b) m
  y = legal_playable (standing b) (fair_of_accepted (standing b) a) m h

  -- the game's measure, from that of the book's last position
  down : {x : Board} → Smaller (reached b m) (standing b) → Level (board_of (last_of g)) x → Smaller (board_of q) x
  down {x} f v = rw e (smaller_level f (rw r.last v))

  new_last : standing (book_played b m) ≡ board_of q
  unfolding book_played
  new_last = last_snoc b.positions (reached b m) ∙ sym e

  new_tally : (c : Color) → tally_of c (book_played b m) ≡ tallied c (standing b) m (tally_of c b)
  unfolding book_played
  new_tally White = refl
  new_tally Black = refl

  new_men : (c : Color) → size (men_of c (standing (book_played b m))) + (tally_of c (book_played b m)).promotions + (tally_of c (book_played b m)).men_taken ≡ size (men_of c start)
  new_men c =
      ap₂ (λ (x : Board) (t : Tally). size (men_of c x) + t.promotions + t.men_taken) (new_last ∙ e) (new_tally c)
      ∙ men_add b m a y c (tally_of c b) (size (men_of c start)) (r.men c)

  new_kings : (c : Color) → size (kings_of c (standing (book_played b m))) + (tally_of c (book_played b m)).kings_taken ≡ size (kings_of c start) + (tally_of c (book_played b m)).promotions
  new_kings c =
      ap₂ (λ (x : Board) (t : Tally). size (kings_of c x) + t.kings_taken) (new_last ∙ e) (new_tally c)
      ∙ kings_add b m a y c (tally_of c b) (size (kings_of c start)) (r.kings c)
      ∙ sym (ap (λ (t : Tally). size (kings_of c start) + t.promotions) (new_tally c))

  -- the second counter
  new_second : material_after (standing b) m g.material ≡ min 32 (book_played b m).second
  unfolding book_played
  new_second = second_agrees (standing b) m g.material b.second r.second (taking_agrees (standing b) m a y) (promotion_agrees (standing b) m a y)

  -- the first count, by the game's word for it
  new_first : (book_played b m).first ≡ cond (irreversible (standing b) m) 0 (b.first + 1)
  unfolding book_played irreversible
  new_first = sym (ap₂ (λ (x z : Bool). cond (x || z) 0 (b.first + 1)) (taking_agrees (standing b) m a y) (man_agrees (standing b) m a y))

  -- a capture or a man move: what was kept is older now
  fallen : irreversible (standing b) m ≡ true → Smaller (reached b m) (standing b)
      → Stands start (alone_of q (material_after (standing b) m g.material)) (book_played b m)
  fallen i f =
      let n = material_after (standing b) m g.material in
      record {
        older = b.positions;
        valid = alone_valid q n s (material_fits (standing b) m g.material);
        long = alone_long q n;
        sound = ap sound (alone_last q n) ∙ s;
        parts = unfold book_played in ap (λ (x : Board). b.positions ++ (x ∷ [])) (sym e) ∙ sym (ap (λ (l : List Position). b.positions ++ map board_of l) (alone_window q n));
        last = new_last ∙ sym (ap board_of (alone_last q n));
        first = alone_first q n ∙ sym (new_first ∙ ap (λ (t : Bool). cond t 0 (b.first + 1)) i);
        second = alone_second q n ∙ new_second;
        above = rw (alone_last q n, r.parts)
            (each_append (Smaller (board_of q)) r.older (boards g)
            (each_from (Smaller (board_of q)) (Smaller (board_of (last_of g))) (λ x v. smaller_trans (down f (level_refl (board_of (last_of g)))) v) r.older r.above)
            (each_from (Smaller (board_of q)) (Level (board_of (last_of g))) (λ x v. down f v) (boards g) r.level));
        level = rw (alone_last q n, alone_window q n) (each_one (Level (board_of q)) (board_of q) (level_refl (board_of q)));
        men = new_men;
        kings = new_kings;
      }

  -- a quiet king move: it is kept behind the others
  level_now : Level (reached b m) (standing b) → Level (board_of q) (board_of (last_of g))
  level_now v = rw (e, ← r.last) v

  kept : irreversible (standing b) m ≡ false → Level (reached b m) (standing b)
      → Stands start (appended_of g q (material_after (standing b) m g.material)) (book_played b m)
  kept i f =
      let n = material_after (standing b) m g.material in
      let v = valid_says g r.valid in
      let w = more_window g q n v r.long o in
      let l = more_last g q n v r.long o in
      record {
        older = r.older;
        valid = more_valid g q n v r.long o s (material_fits (standing b) m g.material);
        long = more_long g q n v r.long o;
        sound = ap sound l ∙ s;
        parts = unfold book_played in
            ap₂ (λ (k : List Board) (x : Board). k ++ (x ∷ [])) r.parts (sym e)
            ∙ append_assoc r.older (boards g) (board_of q ∷ [])
            ∙ sym (ap (λ (k : List Position). r.older ++ map board_of k) w ∙ ap (λ (k : List Board). r.older ++ k) (map-append board_of (window_of g) (q ∷ [])));
        last = new_last ∙ sym (ap board_of l);
        first = more_first g q n v r.long o ∙ ap (λ (k : ℕ). k + 1) r.first ∙ sym (new_first ∙ ap (λ (t : Bool). cond t 0 (b.first + 1)) i);
        second = more_second g q n v r.long o ∙ new_second;
        above = rw l (each_from (Smaller (board_of q)) (Smaller (board_of (last_of g))) (λ x u. level_smaller (level_now f) u) r.older r.above);
        level = rw (l, w, map-append board_of (window_of g) (q ∷ []))
            (each_append (Level (board_of q)) (boards g) (board_of q ∷ [])
            (each_from (Level (board_of q)) (Level (board_of (last_of g))) (λ x u. level_trans (level_now f) u) (boards g) r.level)
            (each_one (Level (board_of q)) (board_of q) (level_refl (board_of q))));
        men = new_men;
        kings = new_kings;
      }

  pub moved_stands : Stands start (moved_of g m q) (book_played b m)
  unfolding moved_of
  moved_stands = rw (← r.last) (go (measured b m a h))
    where
      go : Measured b m
          → Stands start (cond (irreversible (standing b) m) (alone_of q (material_after (standing b) m g.material)) (appended_of g q (material_after (standing b) m g.material))) (book_played b m)
      go (falls i f) = rw i (fallen i f)
      go (stays i f) = rw i (kept i f)
