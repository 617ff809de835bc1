-- The book (docs/RULES.md, "The book"): a game as an arbiter would keep it by hand. It is given the start and the moves
-- in the order of play, and nothing of the program's game. It keeps every position, two counts of plies, and for each
-- colour its promotions and its pieces taken. From these alone it says which moves are accepted and how the game ends.
-- Demand3.antt claims that the program says the same. The book shares three things with the program's definitions:
-- boards, the list of legal moves, and the board after a move.
use Rattle.std.specs.Prelude.{ℕ, suc, ◌+◌, Bool, true, false, not, cond, ◌&&◌, ◌||◌, List, [], ◌∷◌, ◌++◌, eqb, leb, ltb, length, None, Some}
use Rattle.std.specs.Int.Bits.{bit_and}
use Rattle.squares.specs.Sets.{has, size}
use Rattle.squares.specs.Squares.{all, bit_of, promotion}
use Rattle.squares.specs.Pieces.{other}
use Rattle.squares.specs.declared.piece.Color.{Color}
use Rattle.squares.specs.declared.piece.Color.TheVariants.{White, Black}
use Rattle.positions.specs.Boards.{Board, board, men_of, kings_of, same_color, same_board}
use Rattle.positions.specs.Successor.{successor}
use Rattle.positions.specs.declared.moves.Move.{Move}
use Rattle.rules.specs.Ordered.{legal, listed}
use Rattle.games.specs.declared.game.Outcome.{Outcome}
use Rattle.games.specs.declared.game.Termination.{Termination}
use Rattle.games.specs.declared.game.Termination.TheVariants.{NoMoves, Repetition, TwentyFiveMoves, SixteenMoves, FiveMoves}

-- what is counted for one colour: how many of its men became kings, how many of its men and kings were taken
pub record Tally : Type 0 where
  pub promotions : ℕ
  pub men_taken : ℕ
  pub kings_taken : ℕ

pub record Book : Type 0 where
  -- every position so far, the start first
  pub positions : List Board
  -- plies since the last capture or man move, or since the start
  pub first : ℕ
  -- plies since the last capture or promotion, or since the start
  pub second : ℕ
  pub white : Tally
  pub black : Tally

abbrev pub tally_of : Color → Book → Tally
tally_of White b = b.white
tally_of Black b = b.black

-- the last of the positions; a book always has one, so the first line is never used
unfoldable pub last_in : List Board → Board
last_in [] = board 0 0 0 White
last_in (p ∷ []) = p
last_in (p ∷ (q ∷ l)) = last_in (q ∷ l)

-- the position on the board
abbrev pub standing : Book → Board
standing b = last_in b.positions

abbrev nothing_yet : Tally
nothing_yet = record { promotions = 0; men_taken = 0; kings_taken = 0 }

-- a new book: the start, and every count 0
unfoldable pub begun_book : Board → Book
begun_book p = record { positions = p ∷ []; first = 0; second = 0; white = nothing_yet; black = nothing_yet }

-- ---- the outcome

-- the game goes on, or it has ended with this outcome
pub data Verdict : Type 0 where
  goes_on : Verdict
  ends : Outcome → Verdict

-- how often p is among these positions: the same pieces on the same squares, and the same side to move
unfoldable pub times_in : Board → List Board → ℕ
times_in p [] = 0
times_in p (q ∷ l) = elim (same_board q p) [ true ↦ suc (times_in p l) | false ↦ times_in p l ]

-- the colour has one king and no other piece, and the other side has a king too
unfoldable pub lone_king : Color → Board → Bool
lone_king c p = eqb (size (men_of c p)) 0 && (eqb (size (kings_of c p)) 1 && leb 1 (size (kings_of (other c) p)))

-- the number of pieces of the other side
unfoldable pub against : Color → Board → ℕ
against c p = size (men_of (other c) p) + size (kings_of (other c) p)

-- one side has a lone king, the other has three pieces, a king among them
unfoldable pub three_pieces : Board → Bool
three_pieces p = (lone_king White p && eqb (against White p) 3) || (lone_king Black p && eqb (against Black p) 3)

-- one side has a lone king, the other has one or two pieces, a king among them
unfoldable pub two_pieces : Board → Bool
two_pieces p = (lone_king White p && leb (against White p) 2) || (lone_king Black p && leb (against Black p) 2)

-- a test for the end of the game, and the outcome that it gives where it holds
pub record Test : Type 0 where
  pub holds : Bool
  pub gives : Outcome

-- where t holds, c cannot move and the other side has won
abbrev pub lost : Color → Bool → Test
lost c t = record { holds = t; gives = record { winner = Some (other c); termination = NoMoves } }

-- where t holds, the game is drawn for this reason
abbrev pub draw : Termination → Bool → Test
draw why t = record { holds = t; gives = record { winner = None; termination = why } }

-- the first test that holds gives the outcome; where none holds, the game goes on
unfoldable pub first_to_hold : List Test → Verdict
first_to_hold [] = goes_on
first_to_hold (t ∷ ts) = elim t.holds [ true ↦ ends t.gives | false ↦ first_to_hold ts ]

-- the five tests in order: no legal move; the position has occurred three times; 50 plies by the first count; a lone
-- king against three pieces and 32 plies by the second count; against one or two pieces and 10 plies by the second
unfoldable pub tests_at : Board → ℕ → ℕ → ℕ → List Test
tests_at p times first second =
    lost p.side (eqb (length (legal p)) 0)
    ∷ draw Repetition (leb 3 times)
    ∷ draw TwentyFiveMoves (leb 50 first)
    ∷ draw SixteenMoves (three_pieces p && leb 32 second)
    ∷ draw FiveMoves (two_pieces p && leb 10 second)
    ∷ []

-- the position is looked for in the whole book, not only since the last capture or man move
unfoldable pub book_outcome : Book → Verdict
book_outcome b = first_to_hold (tests_at (standing b) (times_in (standing b) b.positions) b.first b.second)

-- the game has ended
abbrev pub over : Verdict → Bool
over goes_on = false
over (ends o) = true

-- ---- a play

-- n is the number of a square, 1 to 50
unfoldable pub numbers_square : ℕ → Bool
numbers_square n = ltb 0 n && ltb n 51

-- first and last square are squares, and the set has only squares in it
unfoldable pub on_the_board : Move → Bool
on_the_board m = (numbers_square m.from && numbers_square m.to) && eqb (bit_and m.captured all) m.captured

-- the answer to a play: 0 where it is accepted, else the number of the first refusal that applies: 11 a square that
-- is not on the board, 14 the game is over, 17 more than 256 legal moves, 15 not a legal move
unfoldable pub book_answer : Book → Move → ℕ
book_answer b m =
    cond (not (on_the_board m)) 11
    (cond (over (book_outcome b)) 14
    (cond (ltb 256 (length (legal (standing b)))) 17
    (cond (not (listed (legal (standing b)) m)) 15
    0)))

-- the move is a capture
unfoldable pub takes : Move → Bool
takes m = ltb 0 (size m.captured)

-- the piece that moves is a man
unfoldable pub man_move : Board → Move → Bool
man_move p m = has (men_of p.side p) (bit_of m.from)

-- a man moves and ends on its promotion row
unfoldable pub is_promotion : Board → Move → Bool
is_promotion p m = man_move p m && has (promotion p.side) (bit_of m.to)

-- the tally of the colour c after the move: one promotion more if a man of c became a king, and the men and kings of c
-- that the move took, each counted as what it was before the move
unfoldable pub tallied : Color → Board → Move → Tally → Tally
tallied c p m t =
    record {
      promotions = t.promotions + cond (same_color c p.side && is_promotion p m) 1 0;
      men_taken = t.men_taken + size (bit_and m.captured (men_of c p));
      kings_taken = t.kings_taken + size (bit_and m.captured (kings_of c p));
    }

-- the position after the move: the taken pieces are gone, the mover is on its last square, a promoted man is a king,
-- and the other side is to move
unfoldable pub reached : Book → Move → Board
reached b m = successor (standing b) m

-- the book after an accepted play. A capture sets both counts back to 0, a man move the first, a promotion the second;
-- otherwise a count goes up by one.
unfoldable pub book_played : Book → Move → Book
book_played b m =
    record {
      positions = b.positions ++ (reached b m ∷ []);
      first = cond (takes m || man_move (standing b) m) 0 (b.first + 1);
      second = cond (takes m || is_promotion (standing b) m) 0 (b.second + 1);
      white = tallied White (standing b) m b.white;
      black = tallied Black (standing b) m b.black;
    }

-- the book after a play; a refused play changes nothing
unfoldable pub book_next : Book → Move → Book
book_next b m = cond (eqb (book_answer b m) 0) (book_played b m) b

-- ---- a list of plays

-- the answer to each play; each is asked of the book as the plays before it left it
unfoldable pub book_answers : Book → List Move → List ℕ
book_answers b [] = []
book_answers b (m ∷ ms) = book_answer b m ∷ book_answers (book_next b m) ms

-- the book after all the plays
unfoldable pub book_after : Book → List Move → Book
book_after b [] = b
book_after b (m ∷ ms) = book_after (book_next b m) ms
