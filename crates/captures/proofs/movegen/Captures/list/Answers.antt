-- The entries are copied onto blanks, as many as go.
use Rattle.std.proofs.Common.{◌≡◌, ℕ, List, ◌++◌, ap, ap₂, ◌∙◌, drop, length, replicate, rules}
use Rattle.squares.proofs.Lengths.{length_of_map}
use Rattle.positions.specs.declared.moves.Move.{Move}
use Rattle.captures.specs.Lists.{blank}
use Rattle.captures.specs.Record.{list_in}
use Rattle.captures.proofs.Stored.{copied}
use Rattle.captures.proofs.movegen.Captures.list.Goals as goal

pub returns : goal.returns
unfolding list_in
returns g c =
    let s = c.args.self.now in
    let n = c.min-n.result in
    let is = c.min-n.ensures in
    let all : length s.moves ≡ g.row.N = search (rules, length_of_map) in
    ap₂ (λ (ms : List Move) (k : ℕ). record { moves = ms; len = k })
    (ap (λ (ms : List Move). ms ++ drop n (replicate 256 blank)) c.copy_from_slice.ensures.after ∙ copied blank g.row.N 256 n s.moves all is)
    c.unwrap_or.ensures
