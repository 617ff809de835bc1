-- How long the texts are that answers consist of.
use Rattle.std.specs.Prelude.{Err, Ok, Result, zip}
use Rattle.std.proofs.lemmas.Slice.Zip.{length-zip}
use Prim.Native.Nat.{ℕ, zero, suc, ◌+◌, ◌-◌, ◌*◌, ◌/◌, ◌%◌, ◌≤◌, ◌<◌, min}
use mathlib.Core.Path.{◌≡◌, refl, ◌∙◌}
use mathlib.Core.List.{List, [], ◌∷◌, ◌++◌, map}
use mathlib.Core.Bool.{Bool, true, false, cond}
use native.Mathlib.Omega.{arith}
use native.Mathlib.Nat.{div-lt_iff_lt-mul}
use lib.Dec.{ltb, leb}
use lib.IntN.{ℤ, pos, negsuc}
use lib.ListN.{length, take, replicate, length-append, length-map, length-take, length-replicate}
use borrow.Author.Tests.{lt-ltb}
use Rattle.io.specs.Digits as io
use Rattle.squares.specs.Refusals.{number_of, square_of, refusal}
use Rattle.squares.specs.Sets.{members, size}
use Rattle.squares.specs.Squares.{square_at_bit}
use Rattle.squares.specs.declared.refusal.Refusal.{Refusal}
use Rattle.squares.proofs.Lengths.{members_length}
use Rattle.captures.specs.Lists.{blank, entries, list_of}
use Rattle.positions.specs.Acceptance.{sound}
use Rattle.positions.specs.Boards.{Board, board_of}
use Rattle.positions.specs.Moves.{squares_of}
use Rattle.positions.specs.declared.moves.Move.{Move}
use Rattle.positions.specs.declared.position.Position.{Position}
use Rattle.positions.proofs.Accepts.{sound_says}
use Rattle.texts.specs.Bytes.{joined, digits}
use Rattle.texts.specs.Fen.{fen_text}
use Rattle.texts.specs.Hub.{hub_text}
use Rattle.texts.proofs.FenLength.{fen_short}
use Rattle.texts.proofs.HubTrip.{hub_length}
use Rattle.notation.specs.MoveText.{separator_of, named, move_text}
use Rattle.texts.proofs.Writers.{joined_short}
use Rattle.notation.proofs.MoveTexts.{move_short}
use Rattle.captures.specs.declared.moves.MoveList.{MoveList}
use Rattle.rules.specs.Ordered.{legal}
use Rattle.movegen.specs.Lists.{listed_of, legal_moves_of}
use Rattle.movegen.specs.Counts.{depth_count, counts_below, divided_by, divided_of, divide_of}
use Rattle.movegen.specs.declared.perft.Divided.{Divided}
use Rattle.wording.specs.Output.{places, decimal, hex, hash, signed, refusal_text, flaw_word, bad}
use Rattle.wording.specs.declared.output.Flaw.{Flaw}
use Rattle.wording.specs.declared.output.Flaw.TheVariants as flaw
use Rattle.replies.specs.Answers.{fen_word, hub_word, move_word, moves_text, counts_text, ok, on_ok, list_word, list_answer, divided_word, divided_answer}

-- ---- numbers
digits_long : (b k n : ℕ) → length (io.last_digits b k n) ≡ k
digits_long b zero n = refl
digits_long b (suc k) n = length-append (io.last_digits b k (n / b)) (io.hex_digit_ascii (n % b) ∷ []) ∙ omega (arith, digits_long b k (n / b))

places_most : (b f n : ℕ) → places b f n ≤ suc f
unfolding places
places_most b zero n = omega arith
places_most b (suc f) n = go (ltb n b) (places_most b f (n / b))
  where
    go : (t : Bool) → places b f (n / b) ≤ suc f → elim t [ true ↦ 1 | false ↦ suc (places b f (n / b)) ] ≤ suc (suc f)
    go true h = omega arith
    go false h = omega arith

places_one : (f n : ℕ) → n < 10 → places 10 f n ≤ 1
unfolding places
places_one zero n h = omega arith
places_one (suc f) n h = go (ltb n 10) (lt-ltb n 10 h)
  where
    go : (t : Bool) → t ≡ true → elim t [ true ↦ 1 | false ↦ suc (places 10 f (n / 10)) ] ≤ 1
    go true e = omega arith
    go false e = absurd (mathlib.Core.Bool.false≢true e)

places_two : (f n : ℕ) → n < 100 → places 10 (suc f) n ≤ 2
unfolding places
places_two f n h = go (ltb n 10)
  where
    go : (t : Bool) → elim t [ true ↦ 1 | false ↦ suc (places 10 f (n / 10)) ] ≤ 2
    go true = omega arith
    go false = omega (arith, places_one f (n / 10) ((div-lt_iff_lt-mul {k = 10} {x = n} {y = 10} (omega arith)).1 (omega arith)))

pub decimal_most : (n : ℕ) → length (decimal n) ≤ 20
unfolding decimal
decimal_most n = omega (arith, digits_long 10 (places 10 19 n) n, places_most 10 19 n)

pub decimal_two : (n : ℕ) → n < 100 → length (decimal n) ≤ 2
unfolding decimal
decimal_two n h = omega (arith, digits_long 10 (places 10 19 n) n, places_two 18 n h)

pub hex_most : (n : ℕ) → length (hex n) ≤ 16
unfolding hex
hex_most n = omega (arith, digits_long 16 (places 16 15 n) n, places_most 16 15 n)

pub hash_long : (n : ℕ) → length (hash n) ≡ 16
unfolding hash
hash_long n = digits_long 16 16 n

pub signed_most : (z : ℤ) → length (signed z) ≤ 21
unfolding signed
signed_most (pos n) = omega (arith, decimal_most n)
signed_most (negsuc n) = omega (arith, decimal_most (suc n))

pub refusal_most : (e : Refusal) → length (refusal_text e) ≤ 45
unfolding refusal_text
refusal_most e = omega (arith, length-append (decimal (number_of e)) (32 ∷ decimal (square_of e)), decimal_most (number_of e), decimal_most (square_of e))

pub bad_most : (f : Flaw) → length (bad f) ≤ 19
unfolding bad flaw_word
bad_most flaw.Length = omega arith
bad_most flaw.Escape = omega arith
bad_most flaw.Name = omega arith
bad_most flaw.Words = omega arith
bad_most flaw.Number = omega arith
bad_most flaw.Side = omega arith

-- ---- positions and moves
pub fen_most : (p : Position) → length (fen_word p) ≤ 196
unfolding fen_word
fen_most p = go (sound p) refl
  where
    go : (t : Bool) → sound p ≡ t → length (cond t (fen_text (board_of p)) []) ≤ 196
    go true e = fen_short (board_of p) (sound_says p e).accepted
    go false e = omega arith

pub hub_most : (p : Position) → length (hub_word p) ≤ 51
unfolding hub_word
hub_most p = go (sound p)
  where
    go : (t : Bool) → length (cond t (hub_text (board_of p)) []) ≤ 51
    go true = omega (arith, hub_length (board_of p))
    go false = omega arith

pub move_most : (m : Move) → length (move_word m) ≤ 155
unfolding move_word
move_most m = go (squares_of m) refl
  where
    go : (t : Bool) → squares_of m ≡ t → length (cond t (move_text m) []) ≤ 155
    go true e = move_short m e
    go false e = omega arith

-- three bytes for each piece taken
pub move_by : (m : Move) → length (move_word m) ≤ 5 + 3 * size m.captured
unfolding move_word move_text named
move_by m = go (squares_of m)
  where
    go : (t : Bool) → length (cond t (joined (separator_of m) (map digits (m.from ∷ m.to ∷ map square_at_bit (members m.captured)))) []) ≤ 5 + 3 * size m.captured
    go true =
        omega (
          arith,
          joined_short (separator_of m) m.from (m.to ∷ map square_at_bit (members m.captured)),
          length-map (members m.captured) square_at_bit,
          members_length m.captured,
        )
    go false = omega arith

-- ---- lists of moves
moves_most : (l : List Move) → length (moves_text l) ≤ 156 * length l
unfolding moves_text
moves_most [] = omega arith
moves_most (m ∷ l) = omega (arith, moves_most l, length-append (32 ∷ move_word m) (moves_text l), move_most m)

counts_most : (l : List (Move × ℕ)) → length (counts_text l) ≤ 177 * length l
unfolding counts_text
counts_most [] = omega arith
counts_most (p ∷ l) =
    let m = move_word p.0 in
    let d = decimal p.1 in
    omega (
      arith,
      counts_most l,
      length-append (32 ∷ (m ++ (61 ∷ d))) (counts_text l),
      length-append m (61 ∷ d),
      move_most p.0,
      decimal_most p.1,
    )

-- ---- a list is an array of 256 entries, as its type says
entries_most : (l : MoveList) → length l.moves ≡ 256 → length (entries l) ≤ 256
entries_most l h = omega (arith, length-take l.len l.moves, h)

list_whole : (l : MoveList) → length l.moves ≡ 256 → length (list_answer (Ok l)) ≤ 45380
list_whole l h = omega (arith, length-append (decimal l.len) (moves_text (entries l)), decimal_most l.len, moves_most (entries l), entries_most l h)

divided_whole : (d : Divided) → length d.list.moves ≡ 256 → length (divided_answer (Ok d)) ≤ 45380
divided_whole d h =
    let z = zip (entries d.list) d.counts in
    omega (
      arith,
      length-append (decimal d.list.len) (counts_text z),
      decimal_most d.list.len,
      counts_most z,
      length-zip (entries d.list) d.counts,
      entries_most d.list h,
    )

pub list_most : (r : Result MoveList Refusal) → ((l : MoveList) → r ≡ Ok l → length l.moves ≡ 256) → length (list_answer r) ≤ 45380
list_most (Ok l) h = list_whole l (h l refl)
list_most (Err e) h = omega (arith, refusal_most e)

pub divided_most : (r : Result Divided Refusal) → ((d : Divided) → r ≡ Ok d → length d.list.moves ≡ 256) → length (divided_answer r) ≤ 45380
divided_most (Ok d) h = divided_whole d (h d refl)
divided_most (Err e) h = omega (arith, refusal_most e)

-- ---- the legal moves are such a list
of_array : (xs : List Move) → length (list_of xs).moves ≡ 256
unfolding list_of
of_array xs = omega (arith, length-take 256 (xs ++ replicate 256 blank), length-append xs (replicate 256 blank), length-replicate 256 blank)

-- what is said of what is found where t, of the refusal e elsewhere
refused : {A : Type 0} (t : Bool) (r : Result A Refusal) (e : Refusal) (say : A → List ℕ) → length (on_ok r say) ≤ 45380 → length (on_ok (cond t r (Err e)) say) ≤ 45380
refused true r e say h = h
refused false r e say h = omega (arith, refusal_most e)

pub legal_most : (p : Position) (n : ℕ) → length (list_answer (legal_moves_of p n)) ≤ 45380
unfolding legal_moves_of listed_of
legal_most p n =
    let xs = legal (board_of p) in
    let say = λ (l : MoveList). ok (list_word l) in
    refused (sound p) _ (refusal 12) say
    (refused (leb n 256) _ (refusal 10) say (refused (leb (length xs) n) _ (refusal 17) say (list_whole (list_of xs) (of_array xs))))

counted_most : (n : ℕ) (b : Board) → length (divided_answer (divided_of n b)) ≤ 45380
unfolding divided_of
counted_most n b = go (depth_count (suc n) b)
  where
    go : (r : Result ℕ Refusal) → length (divided_answer (divided_by r (record { list = list_of (legal b); counts = counts_below n b }))) ≤ 45380
    go (Ok k) = divided_whole (record { list = list_of (legal b); counts = counts_below n b }) (of_array (legal b))
    go (Err e) = omega (arith, refusal_most e)

pub legal_divided_most : (p : Position) (depth : ℕ) → length (divided_answer (divide_of p depth)) ≤ 45380
unfolding divide_of
legal_divided_most p depth =
    let say = λ (d : Divided). ok (divided_word d) in
    refused (sound p) _ (refusal 12) say (refused (leb depth 7) _ (refusal 10) say (counted_most (depth - 1) (board_of p)))
