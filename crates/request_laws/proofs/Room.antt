-- No answer, with its line feed, is longer than the room that is kept for one: 23 bytes for each byte that a line may have.
use Rattle.std.specs.Prelude.{Err, None, Ok, Result, Some, ℤ}
use Prim.Native.Nat.{ℕ, suc, ◌+◌, ◌≤◌}
use mathlib.Core.Path.{◌≡◌, refl, ap}
use mathlib.Core.Bool.{Bool, true, false, cond}
use mathlib.Core.List.{List, [], ◌∷◌, ◌++◌}
use native.Mathlib.Omega.{arith}
use lib.Dec.{eqb, ltb}
use lib.ListN.{length, length-append, length-drop}
use borrow.Author.Tests.{ltb-false}
use Rattle.squares.specs.Pieces.{color_char}
use Rattle.squares.specs.Squares.{bit_of, row_of, of_square}
use Rattle.squares.specs.declared.piece.Color.{Color}
use Rattle.positions.specs.Acceptance.{from_parts_of}
use Rattle.positions.specs.Flip.{flipped_of}
use Rattle.positions.specs.declared.moves.Move.{Move}
use Rattle.positions.specs.declared.position.Position.{Position}
use Rattle.scores.specs.Score.{default, evaluate_of}
use Rattle.scores.specs.declared.eval.Classical.{Classical}
use Rattle.movegen.specs.Counts.{perft_of, divide_of}
use Rattle.movegen.specs.Lists.{legal_moves_of, has_captures_of, has_quiet_moves_of, after_of}
use Rattle.games.specs.Demand3.{game_of}
use Rattle.games.specs.Play.{new_of, outcome_of}
use Rattle.games.specs.declared.game.Game.{Game}
use Rattle.gametexts.specs.declared.game.PlayedText.{PlayedText}
use Rattle.texts.specs.Bytes.{is, index_of}
use Rattle.texts.proofs.Cuts.{after_is}
use Rattle.wording.specs.Numbers.{unsigned_of, set_of}
use Rattle.wording.specs.Escapes.{plain, is_plain}
use Rattle.wording.specs.Output.{decimal, hex, hash, signed, bad}
use Rattle.wording.specs.Words.{first_word, after_word, word_at, blanks_in}
use Rattle.wording.specs.declared.output.Flaw.{Flaw}
use Rattle.wording.specs.declared.output.Flaw.TheVariants as flaw
use Rattle.replies.specs.Answers.{ok, fen_answer, hub_answer, hash_answer, set_word, bits_answer, placed_answer, scored_answer, tested_answer, counted_answer, move_word, record_word, move_answer, after_answer, list_answer, divided_answer, on_ok, fen_word, after_text, yes_no, count_word}
use Rattle.requests.specs.Asked.{on_parsed, on_sided, on_weights, moves_request, atmost_request, parse_request, after_request, perft_request, divide_request, eval_request, weights_of, evalw_request, square_request, side_of, sets_answer, parts_request}
use Rattle.requests.specs.Plays.{words_of, all_records, play_text_of, play_record_of, text_told, record_told, game_answer, play_request, record_request, outcome_request}
use Rattle.requests.specs.Reading.{fen_in, hub_in, position_in, move_in, square_in}
use Rattle.requests.specs.Requests.{whole_position, first_position, request_of, request_answer, named_answer, longest, answer_room, answer_of}
use Rattle.replies.specs.States.{judged_word}
use Rattle.requests.specs.declared.requests.Request.{Request}
use Rattle.requests.specs.declared.requests.Request.TheVariants as request
use Rattle.request_laws.proofs.Lengths.{decimal_most, hex_most, hash_long, signed_most, refusal_most, bad_most, fen_most, hub_most, move_most, legal_most, legal_divided_most}
use Rattle.request_laws.proofs.Falling.{Costs, new_good, judged_most, count_most, text_cost, record_cost, game_cost, pieces_most, words_most}
use Rattle.std.specs.declared.option.Option.{Option}
use Rattle.squares.specs.declared.refusal.Refusal.{Refusal}

-- ---- what is said of what was found, or the refusal
on_ok_lem : {A : Type 0} (x : Result A Refusal) (k : A → List ℕ) (z : ℕ) → 45 ≤ z → ((y : A) → length (k y) ≤ z) → length (on_ok x k) ≤ z
on_ok_lem (Ok y) k z g h = h y
on_ok_lem (Err e) k z g h = omega (arith, refusal_most e)

about : {A : Type 0} (x : Result A Refusal) (k : A → List ℕ) → ((y : A) → length (k y) ≤ 45380) → length (on_ok x k) ≤ 45380
about x k h = on_ok_lem x k 45380 (omega arith) h

-- ---- what is written of a position: never more than a list of moves with their counts
bits_most : (p : Position) → length (bits_answer p) ≤ 45380
unfolding bits_answer set_word
bits_most p =
    let s = color_char p.side ∷ (32 ∷ hash p.hash) in
    let k = (hex p.kings ++ (32 ∷ [])) ++ s in
    let b = (hex p.black ++ (32 ∷ [])) ++ k in
    omega (
      arith,
      length-append (hex p.white ++ (32 ∷ [])) b,
      length-append (hex p.black ++ (32 ∷ [])) k,
      length-append (hex p.kings ++ (32 ∷ [])) s,
      length-append (hex p.white) (32 ∷ []),
      length-append (hex p.black) (32 ∷ []),
      length-append (hex p.kings) (32 ∷ []),
      hex_most p.white,
      hex_most p.black,
      hex_most p.kings,
      hash_long p.hash,
    )

fen_answer_lem : (p : Position) → length (fen_answer p) ≤ 199
unfolding fen_answer
fen_answer_lem p = omega (arith, fen_most p)

hub_answer_lem : (p : Position) → length (hub_answer p) ≤ 45380
unfolding hub_answer
hub_answer_lem p = omega (arith, hub_most p)

hash_answer_lem : (p : Position) → length (hash_answer p) ≤ 45380
unfolding hash_answer
hash_answer_lem p = omega (arith, hash_long p.hash)

placed_most : (q : Result Position Refusal) → length (placed_answer q) ≤ 45380
placed_most q = about q fen_answer (λ p. omega (arith, fen_answer_lem p))

scored_most : (s : Result ℤ Refusal) → length (scored_answer s) ≤ 45380
scored_most s = about s (λ z. ok (signed z)) (λ z. omega (arith, signed_most z))

tested_most : (t : Result Bool Refusal) → length (tested_answer t) ≤ 45380
tested_most t = about t (λ b. ok (yes_no b ∷ [])) (λ b. omega arith)

counted_most : (c : Result ℕ Refusal) → length (counted_answer c) ≤ 45380
counted_most c = about c (λ n. ok (decimal n)) (λ n. omega (arith, decimal_most n))

after_most : (q : Result Position Refusal) → length (after_answer q) ≤ 45380
after_most q = about q (λ p. ok (after_text p)) (λ p. omega (arith, length-append (fen_word p) (32 ∷ hash p.hash), fen_most p, hash_long p.hash))

move_answer_lem : (m : Move) → length (move_answer m) ≤ 45380
unfolding move_answer record_word
move_answer_lem m =
    let h = hex m.captured in
    let t = decimal m.to ++ (44 ∷ h) in
    let r = decimal m.from ++ (44 ∷ t) in
    omega (
      arith,
      length-append (move_word m) (32 ∷ r),
      length-append (decimal m.from) (44 ∷ t),
      length-append (decimal m.to) (44 ∷ h),
      move_most m,
      decimal_most m.from,
      decimal_most m.to,
      hex_most m.captured,
    )

-- ---- what goes on with what was read
on_parsed_lem : (x : Option ℕ) (k : ℕ → List ℕ) → ((n : ℕ) → length (k n) ≤ 45380) → length (on_parsed x k) ≤ 45380
on_parsed_lem (Some n) k h = h n
on_parsed_lem None k h = omega (arith, bad_most flaw.Number)

on_sided_lem : (x : Result Color Refusal) (k : Color → List ℕ) → ((c : Color) → length (k c) ≤ 45380) → length (on_sided x k) ≤ 45380
on_sided_lem (Ok c) k h = h c
on_sided_lem (Err e) k h = omega (arith, bad_most flaw.Side)

cond_most : (t : Bool) (x : List ℕ) (f : Flaw) (z : ℕ) → 19 ≤ z → length x ≤ z → length (cond t x (bad f)) ≤ z
cond_most true x f z g h = h
cond_most false x f z g h = omega (arith, bad_most f)

-- ---- the requests about a position, short ones
moves_most : (x : Result Position Refusal) (n : ℕ) → length (moves_request x n) ≤ 45380
moves_most x n = about x (λ q. list_answer (legal_moves_of q n)) (λ q. legal_most q n)

atmost_most : (arg : List ℕ) → length (atmost_request arg) ≤ 45380
unfolding atmost_request
atmost_most arg = on_parsed_lem (unsigned_of (first_word arg)) _ (λ n. moves_most (position_in (after_word arg)) n)

parse_most : (x : Result Position Refusal) (t : List ℕ) → length (parse_request x t) ≤ 45380
parse_most x t = about x (λ q. on_ok (move_in q t) move_answer) (λ q. about (move_in q t) move_answer move_answer_lem)

after_request_lem : (x : Result Position Refusal) (t : List ℕ) → length (after_request x t) ≤ 45380
after_request_lem x t =
    about x (λ q. on_ok (move_in q t) (λ m. after_answer (after_of q m))) (λ q. about (move_in q t) (λ m. after_answer (after_of q m)) (λ m. after_most (after_of q m)))

perft_most : (x : Result Position Refusal) (t : List ℕ) → length (perft_request x t) ≤ 45380
perft_most x t =
    about x (λ q. on_parsed (unsigned_of t) (λ n. counted_answer (perft_of q n))) (λ q. on_parsed_lem (unsigned_of t) (λ n. counted_answer (perft_of q n)) (λ n. counted_most (perft_of q n)))

divide_most : (x : Result Position Refusal) (t : List ℕ) → length (divide_request x t) ≤ 45380
divide_most x t =
    about x (λ q. on_parsed (unsigned_of t) (λ n. divided_answer (divide_of q n))) (λ q. on_parsed_lem (unsigned_of t) (λ n. divided_answer (divide_of q n)) (λ n. legal_divided_most q n))

eval_most : (x : Result Position Refusal) (w : Classical) → length (eval_request x w) ≤ 45380
eval_most x w = about x (λ q. scored_answer (evaluate_of w q)) (λ q. scored_most (evaluate_of w q))

evalw_most : (arg : List ℕ) → length (evalw_request arg) ≤ 45380
unfolding evalw_request
evalw_most arg = cond_most (eqb (blanks_in arg) 5) _ flaw.Words 45380 (omega arith) (go (weights_of arg))
  where
    go : (x : Option Classical) → length (on_weights x (λ w. eval_request (position_in (first_word arg)) w)) ≤ 45380
    go (Some w) = eval_most (position_in (first_word arg)) w
    go None = omega (arith, bad_most flaw.Number)

outcome_most : (x : Result Position Refusal) → length (outcome_request x) ≤ 45380
outcome_most x = about x (λ q. ok (judged_word (outcome_of (game_of (new_of q))))) (λ q. omega (arith, judged_most (outcome_of (game_of (new_of q)))))

-- ---- squares and sets
square_most : (x : Result ℕ Refusal) → length (square_request x) ≤ 45380
square_most (Ok n) =
    let b = count_word (of_square n (bit_of n)) in
    let r = count_word (of_square n (row_of (bit_of n))) in
    omega (
      arith,
      length-append (decimal n) (32 ∷ (b ++ (32 ∷ r))),
      length-append b (32 ∷ r),
      decimal_most n,
      count_most (of_square n (bit_of n)),
      count_most (of_square n (row_of (bit_of n))),
    )
square_most (Err e) = omega (arith, refusal_most e)

sets_most : (arg : List ℕ) → length (sets_answer arg) ≤ 45380
unfolding sets_answer
sets_most arg =
    on_parsed_lem (set_of (word_at 0 arg)) _ (λ w. on_parsed_lem (set_of (word_at 1 arg)) _ (λ b. on_parsed_lem (set_of (word_at 2 arg)) _ (λ k.
    on_sided_lem (side_of (word_at 3 arg)) (λ c. placed_answer (from_parts_of w b k c)) (λ c. placed_most (from_parts_of w b k c)))))

parts_most : (arg : List ℕ) → length (parts_request arg) ≤ 45380
unfolding parts_request
parts_most arg = cond_most (eqb (blanks_in arg) 3) (sets_answer arg) flaw.Words 45380 (omega arith) (sets_most arg)

-- ---- games, the only long answers
module _ (play : Game → List ℕ → Result PlayedText Refusal) (tell : Result PlayedText Refusal → List ℕ) (cost : Costs play tell) where
  game_most : (p : Position) (s : List ℕ) → length s ≤ longest → length (game_answer play tell p s) ≤ 1442469
  unfolding game_answer
  game_most p s l = omega (arith, game_cost play tell cost (game_of (new_of p)) (new_good p) (words_of s), pieces_most (game_of (new_of p)), words_most s)

play_most : (x : Result Position Refusal) (s : List ℕ) → length s ≤ longest → length (play_request x s) ≤ 1442469
play_most x s l = on_ok_lem x (λ q. game_answer play_text_of text_told q s) 1442469 (omega arith) (λ q. game_most play_text_of text_told text_cost q s l)

record_most : (x : Result Position Refusal) (s : List ℕ) → length s ≤ longest → length (record_request x s) ≤ 1442469
record_most x s l =
    on_ok_lem x (λ q. cond (all_records (words_of s)) (game_answer play_record_of record_told q s) (bad flaw.Number)) 1442469 (omega arith)
    (λ q. cond_most (all_records (words_of s)) (game_answer play_record_of record_told q s) flaw.Number 1442469 (omega arith) (game_most play_record_of record_told record_cost q s l))

-- ---- the line
after_word_lem : (s : List ℕ) → length (after_word s) ≤ length s
unfolding after_word
after_word_lem s = omega (arith, ap length (after_is 32 s), length-drop (index_of (is 32) s + 1) s)

request_most : (r : Request) (arg : List ℕ) → length arg ≤ longest → length (request_answer r arg) ≤ 1442469
request_most request.Fen arg h = omega (arith, placed_most (fen_in arg))
request_most request.Hub arg h = omega (arith, about (hub_in arg) hub_answer hub_answer_lem)
request_most request.Fen2hub arg h = omega (arith, about (fen_in arg) hub_answer hub_answer_lem)
request_most request.Hub2fen arg h = omega (arith, placed_most (hub_in arg))
request_most request.Square arg h = omega (arith, square_most (square_in arg))
request_most request.Parts arg h = omega (arith, parts_most arg)
request_most request.Bits arg h = omega (arith, about (whole_position arg) bits_answer bits_most)
request_most request.Moves arg h = omega (arith, moves_most (whole_position arg) 256)
request_most request.Atmost arg h = omega (arith, atmost_most arg)
request_most request.Parse arg h = omega (arith, parse_most (first_position arg) (after_word arg))
request_most request.After arg h = omega (arith, after_request_lem (first_position arg) (after_word arg))
request_most request.Perft arg h = omega (arith, perft_most (first_position arg) (after_word arg))
request_most request.Divide arg h = omega (arith, divide_most (first_position arg) (after_word arg))
request_most request.Eval arg h = omega (arith, eval_most (whole_position arg) default)
request_most request.Evalw arg h = omega (arith, evalw_most arg)
request_most request.Hash arg h = omega (arith, about (whole_position arg) hash_answer hash_answer_lem)
request_most request.Flip arg h = omega (arith, about (whole_position arg) (λ q. placed_answer (flipped_of q)) (λ q. placed_most (flipped_of q)))
request_most request.Caps arg h = omega (arith, about (whole_position arg) (λ q. tested_answer (has_captures_of q)) (λ q. tested_most (has_captures_of q)))
request_most request.Quiet arg h = omega (arith, about (whole_position arg) (λ q. tested_answer (has_quiet_moves_of q)) (λ q. tested_most (has_quiet_moves_of q)))
request_most request.Play arg h = play_most (first_position arg) (after_word arg) (omega (arith, after_word_lem arg))
request_most request.Outcome arg h = omega (arith, outcome_most (whole_position arg))
request_most request.Record arg h = record_most (first_position arg) (after_word arg) (omega (arith, after_word_lem arg))

named_most : (r : Option Request) (arg : List ℕ) → length arg ≤ longest → length (named_answer r arg) ≤ 1442469
named_most (Some r) arg h = request_most r arg h
named_most None arg h = omega (arith, bad_most flaw.Name)

pub answer_short : (line : List ℕ) → suc (length (answer_of line)) ≤ answer_room
unfolding answer_of
answer_short line = go (ltb longest (length line)) refl (is_plain (plain line))
  where
    go : (t : Bool) → ltb longest (length line) ≡ t → (b : Bool)
        → suc (length (cond t (bad flaw.Length) (cond b (named_answer (request_of (first_word line)) (after_word line)) (bad flaw.Escape)))) ≤ answer_room
    go true e b = omega (arith, bad_most flaw.Length)
    go false e true = omega (arith, named_most (request_of (first_word line)) (after_word line) (omega (arith, after_word_lem line, ltb-false longest (length line) e)))
    go false e false = omega (arith, bad_most flaw.Escape)
