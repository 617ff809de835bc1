-- What is written where the program has arguments.
use Rattle.std.specs.Prelude.{ℕ, List, [], ◌∷◌, ◌++◌, cond}
use Rattle.texts.specs.Bytes.{bytes}
use Rattle.wording.specs.Words.{same_text}
use Rattle.requests.specs.Requests.{help_text, answer_of}

-- for the arguments as one line: the help for `--help`, else the answer and a line feed
unfoldable pub given_output : List ℕ → List ℕ
given_output line = cond (same_text line (bytes "--help")) help_text (answer_of line ++ (10 ∷ []))
