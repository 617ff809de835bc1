-- A request line and its answer (docs/PROTOCOL.md).
use Rattle.std.specs.Prelude.{ℕ, ◌*◌, List, [], ◌∷◌, ◌++◌, cond, length, ltb, None, Result, Some}
use Prim.Native.Char.{code}
use Prim.Native.String.{String}
use Rattle.std.specs.declared.option.Option.{Option}
use Rattle.scores.specs.Score.{default}
use Rattle.texts.specs.Bytes.{bytes}
use Rattle.wording.specs.Escapes.{plain, is_plain}
use Rattle.wording.specs.Output.{bad}
use Rattle.wording.specs.Words.{same_text, first_word, after_word}
use Rattle.wording.specs.declared.output.Flaw.TheVariants as flaw
use Rattle.requests.specs.Reading.{fen_in, hub_in, position_in, square_in}
use Rattle.requests.specs.Asked.{fen_request, hub_request, square_request, parts_request, bits_request, moves_request, atmost_request, parse_request, after_request, perft_request, divide_request, eval_request, evalw_request, hash_request, flip_request, caps_request, quiet_request}
use Rattle.requests.specs.Plays.{play_request, outcome_request, record_request}
use Rattle.requests.specs.declared.requests.Request.{Request}
use Rattle.requests.specs.declared.requests.Request.TheVariants as request
use Rattle.positions.specs.declared.position.Position.{Position}
use Rattle.squares.specs.declared.refusal.Refusal.{Refusal}

-- ---- the table
pub record Row : Type 0 where
  pub name : String
  pub arguments : String
  pub asks : Request

abbrev row : String → String → Request → Row
row n a r = record { name = n; arguments = a; asks = r }

-- FEN is a position: one word, or the rest of the line where nothing follows it
abbrev pub requests : List Row
requests =
    row "fen" "TEXT" request.Fen
    ∷ row "hub" "TEXT" request.Hub
    ∷ row "fen2hub" "TEXT" request.Fen2hub
    ∷ row "hub2fen" "TEXT" request.Hub2fen
    ∷ row "square" "TEXT" request.Square
    ∷ row "parts" "WHITE BLACK KINGS SIDE" request.Parts
    ∷ row "bits" "FEN" request.Bits
    ∷ row "moves" "FEN" request.Moves
    ∷ row "atmost" "LIMIT FEN" request.Atmost
    ∷ row "parse" "FEN TEXT" request.Parse
    ∷ row "after" "FEN TEXT" request.After
    ∷ row "perft" "FEN DEPTH" request.Perft
    ∷ row "divide" "FEN DEPTH" request.Divide
    ∷ row "eval" "FEN" request.Eval
    ∷ row "evalw" "FEN MAN KING ADVANCE CENTER GUARD" request.Evalw
    ∷ row "hash" "FEN" request.Hash
    ∷ row "flip" "FEN" request.Flip
    ∷ row "caps" "FEN" request.Caps
    ∷ row "quiet" "FEN" request.Quiet
    ∷ row "play" "FEN TEXT .." request.Play
    ∷ row "outcome" "FEN" request.Outcome
    ∷ row "record" "FEN FIRST,LAST,SET .." request.Record
    ∷ []

-- a row as `dame --help` prints it
abbrev pub row_line : Row → List ℕ
row_line r = bytes r.name ++ (code " " ∷ (bytes r.arguments ++ (10 ∷ [])))

abbrev pub row_lines : List Row → List ℕ
row_lines [] = []
row_lines (r ∷ rs) = row_line r ++ row_lines rs

unfoldable pub help_text : List ℕ
help_text = row_lines requests

-- the request of the row with this name, if there is one
abbrev pub named : List ℕ → List Row → Option Request
named name [] = None
named name (r ∷ rs) = cond (same_text name (bytes r.name)) (Some r.asks) (named name rs)

unfoldable pub request_of : List ℕ → Option Request
request_of name = named name requests

-- ---- the answers

-- the position that the whole argument means, or its first word alone
unfoldable pub whole_position : List ℕ → Result Position Refusal
whole_position arg = position_in arg

unfoldable pub first_position : List ℕ → Result Position Refusal
first_position arg = position_in (first_word arg)

-- what each request answers to its argument, which is what follows its name
abbrev pub request_answer : Request → List ℕ → List ℕ
request_answer request.Fen arg = fen_request (fen_in arg)
request_answer request.Hub arg = hub_request (hub_in arg)
request_answer request.Fen2hub arg = hub_request (fen_in arg)
request_answer request.Hub2fen arg = fen_request (hub_in arg)
request_answer request.Square arg = square_request (square_in arg)
request_answer request.Parts arg = parts_request arg
request_answer request.Bits arg = bits_request (whole_position arg)
request_answer request.Moves arg = moves_request (whole_position arg) 256
request_answer request.Atmost arg = atmost_request arg
request_answer request.Parse arg = parse_request (first_position arg) (after_word arg)
request_answer request.After arg = after_request (first_position arg) (after_word arg)
request_answer request.Perft arg = perft_request (first_position arg) (after_word arg)
request_answer request.Divide arg = divide_request (first_position arg) (after_word arg)
request_answer request.Eval arg = eval_request (whole_position arg) default
request_answer request.Evalw arg = evalw_request arg
request_answer request.Hash arg = hash_request (whole_position arg)
request_answer request.Flip arg = flip_request (whole_position arg)
request_answer request.Caps arg = caps_request (whole_position arg)
request_answer request.Quiet arg = quiet_request (whole_position arg)
request_answer request.Play arg = play_request (first_position arg) (after_word arg)
request_answer request.Outcome arg = outcome_request (whole_position arg)
request_answer request.Record arg = record_request (first_position arg) (after_word arg)

-- a name that is in no row is a bad request
abbrev pub named_answer : Option Request → List ℕ → List ℕ
named_answer (Some r) arg = request_answer r arg
named_answer None arg = bad flaw.Name

-- the most bytes that a line may have, and that an answer and its line feed have (law `answer_short`)
abbrev pub longest : ℕ
longest = 65536

abbrev pub answer_room : ℕ
answer_room = 23 * longest

-- a line that is too long is a bad request whatever it says, and so is one with a broken escape
unfoldable pub answer_of : List ℕ → List ℕ
answer_of line =
    cond (ltb longest (length line)) (bad flaw.Length)
    (cond (is_plain (plain line)) (named_answer (request_of (first_word line)) (after_word line)) (bad flaw.Escape))
