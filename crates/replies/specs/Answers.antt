-- What is written of a position, a move, a list of moves or a count.
use Rattle.std.specs.Prelude.{◌≡◌, ℕ, List, [], ◌∷◌, ◌++◌, flat_map, zip, Bool, true, false, cond, length, ◌≤◌, Err, Ok, Result, ℤ}
use denote.Ref.{MutBor}
use Prim.Native.Char.{code}
use Rattle.squares.specs.Pieces.{color_char}
use Rattle.squares.specs.Squares.{bit_of, row_of, of_square}
use Rattle.positions.specs.Moves.{squares_of}
use Rattle.positions.specs.declared.moves.Move.{Move}
use Rattle.captures.specs.Lists.{entries}
use Rattle.positions.specs.Boards.{board_of}
use Rattle.positions.specs.Acceptance.{sound}
use Rattle.positions.specs.declared.position.Position.{Position}
use Rattle.captures.specs.declared.moves.MoveList.{MoveList}
use Rattle.movegen.specs.declared.perft.Divided.{Divided}
use Rattle.texts.specs.Bytes.{bytes}
use Rattle.texts.specs.Fen.{fen_text}
use Rattle.texts.specs.Hub.{hub_text}
use Rattle.texts.specs.Lent.{over, emit_of, emitted}
use Rattle.texts.specs.declared.space.Space.{Space}
use Rattle.notation.specs.MoveText.{move_text}
use Rattle.wording.specs.Output.{decimal, hex, hash, signed, refusal_text}
use Rattle.squares.specs.declared.refusal.Refusal.{Refusal}

abbrev pub ok : List ℕ → List ℕ
ok t = bytes "ok " ++ t

-- what is said of what was found, or the refusal
abbrev pub on_ok : {A : Type 0} → Result A Refusal → (A → List ℕ) → List ℕ
on_ok (Ok x) say = say x
on_ok (Err e) say = refusal_text e

-- where a call of `put` writes the word of x, the space b is a with `ok` and the word of what was found, or the refusal
abbrev pub Tells : {A : Type 0} → (MutBor Space → A → Unit {0} → MutBor Space → Type 0) → Result A Refusal → Space → Space → Type 0
Tells {A} put r a b =
    (word : A → List ℕ) → ((m n : MutBor Space) (x : A) → put m x tt n → n.now ≡ over (word x) m.now) → b ≡ over (on_ok r (λ x. ok (word x))) a

-- where a call of `write` with 200 lent bytes writes the text t, which they hold, over their start if it may, and else
-- refuses, the space b is a with that text or with none
abbrev pub PutsWritten : (List ℕ → Result ℕ Refusal → List ℕ → Type 0) → Space → Space → Type 0
PutsWritten write a b =
    (may : Bool) (t : List ℕ) (f : Refusal) → (may ≡ true → length t ≤ 200)
    → ((old new : List ℕ) (r : Result ℕ Refusal) → length old ≡ 200 → write old r new → (r ≡ cond may (emit_of t old) (Err f)) × (new ≡ cond may (emitted t old) old))
    → b ≡ over (cond may t []) a

-- the texts of a position; every position that a request makes is sound
unfoldable pub fen_word : Position → List ℕ
fen_word p = cond (sound p) (fen_text (board_of p)) []

unfoldable pub hub_word : Position → List ℕ
hub_word p = cond (sound p) (hub_text (board_of p)) []

unfoldable pub fen_answer : Position → List ℕ
fen_answer p = ok (fen_word p)

unfoldable pub hub_answer : Position → List ℕ
hub_answer p = ok (hub_word p)

unfoldable pub hash_answer : Position → List ℕ
hash_answer p = ok (hash p.hash)

-- a set and a space
unfoldable pub set_word : ℕ → List ℕ
set_word s = hex s ++ (code " " ∷ [])

-- white, black, kings, side, hash
abbrev pub bits_word : Position → List ℕ
bits_word p = set_word p.white ++ (set_word p.black ++ (set_word p.kings ++ (color_char p.side ∷ (code " " ∷ hash p.hash))))

unfoldable pub bits_answer : Position → List ℕ
bits_answer p = ok (bits_word p)

abbrev pub placed_answer : Result Position Refusal → List ℕ
placed_answer p = on_ok p fen_answer

abbrev pub scored_answer : Result ℤ Refusal → List ℕ
scored_answer s = on_ok s (λ z. ok (signed z))

abbrev pub yes_no : Bool → ℕ
yes_no true = code "1"
yes_no false = code "0"

abbrev pub tested_answer : Result Bool Refusal → List ℕ
tested_answer t = on_ok t (λ b. ok (yes_no b ∷ []))

abbrev pub counted_answer : Result ℕ Refusal → List ℕ
counted_answer c = on_ok c (λ n. ok (decimal n))

-- ---- squares

-- a number; nothing where it is refused
abbrev pub count_word : Result ℕ Refusal → List ℕ
count_word (Ok n) = decimal n
count_word (Err e) = []

-- number, bit, row
abbrev pub square_word : ℕ → List ℕ
square_word n = decimal n ++ (code " " ∷ (count_word (of_square n (bit_of n)) ++ (code " " ∷ count_word (of_square n (row_of (bit_of n))))))

abbrev pub square_answer : ℕ → List ℕ
square_answer n = ok (square_word n)

-- ---- moves

-- a move's Hub text; every move that a request finds is on the board
unfoldable pub move_word : Move → List ℕ
move_word m = cond (squares_of m) (move_text m) []

-- some moves, a space before each
unfoldable pub moves_text : List Move → List ℕ
moves_text l = flat_map (λ m. code " " ∷ move_word m) l

-- the same, each with its count
unfoldable pub counts_text : List (Move × ℕ) → List ℕ
counts_text l = flat_map (λ p. code " " ∷ (move_word p.0 ++ (code "=" ∷ decimal p.1))) l

-- how many there are, then each
abbrev pub list_word : MoveList → List ℕ
list_word l = decimal l.len ++ moves_text (entries l)

abbrev pub list_answer : Result MoveList Refusal → List ℕ
list_answer r = on_ok r (λ l. ok (list_word l))

abbrev pub divided_word : Divided → List ℕ
divided_word d = decimal d.list.len ++ counts_text (zip (entries d.list) d.counts)

abbrev pub divided_answer : Result Divided Refusal → List ℕ
divided_answer r = on_ok r (λ d. ok (divided_word d))

-- first square, last square, set
unfoldable pub record_word : Move → List ℕ
record_word m = decimal m.from ++ (code "," ∷ (decimal m.to ++ (code "," ∷ hex m.captured)))

-- the move's Hub text, then the record
abbrev pub full_word : Move → List ℕ
full_word m = move_word m ++ (code " " ∷ record_word m)

unfoldable pub move_answer : Move → List ℕ
move_answer m = ok (full_word m)

-- the position's FEN and its hash
abbrev pub after_text : Position → List ℕ
after_text p = fen_word p ++ (code " " ∷ hash p.hash)

abbrev pub after_answer : Result Position Refusal → List ℕ
after_answer r = on_ok r (λ p. ok (after_text p))
