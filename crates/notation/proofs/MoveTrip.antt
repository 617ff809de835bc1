-- The text of a listed move means that move, and it does so too where it was written into lent space.
use Rattle.std.specs.Prelude.{Ok}
use Prim.Native.Nat.{ℕ, ◌≤◌}
use mathlib.Core.Path.{◌≡◌, ap, ◌∙◌}
use mathlib.Core.List.{List}
use mathlib.Core.Bool.{true}
use lib.ListN.{length, take}
use Rattle.positions.specs.Acceptance.{Sound}
use Rattle.positions.specs.Boards.{board_of}
use Rattle.positions.specs.Moves.{squares_of}
use Rattle.positions.specs.declared.moves.Move.{Move}
use Rattle.positions.specs.declared.position.Position.{Position}
use Rattle.positions.proofs.Accepts.{says_sound}
use Rattle.rules.specs.Ordered.{legal, listed}
use Rattle.rules.proofs.Laws.{fair_of_accepted, listed_legal, legal_squares}
use Rattle.texts.specs.Lent.{emit_of}
use Rattle.texts.proofs.ReadBack.{lent_front}
use Rattle.notation.specs.Choice.{parse_move_of}
use Rattle.notation.specs.MoveText.{move_text, to_hub_of, to_hub_lent}
use Rattle.notation.proofs.Chosen.{parse_back}
use Rattle.notation.proofs.MoveSays.{said_of, says_move, move_says}

-- a listed move of a sound position with at most 256 moves
module _ (p : Position) (m : Move) (sound : Sound p) (few : length (legal (board_of p)) ≤ 256) (in_list : listed (legal (board_of p)) m ≡ true) where
  -- the writers do not refuse it 11
  pub listed_squares : squares_of m ≡ true
  listed_squares =
      let fair = fair_of_accepted (board_of p) sound.accepted in
      legal_squares (board_of p) fair m ((listed_legal (board_of p) fair m).0 in_list)

  -- reading what was written
  pub move_back : parse_move_of p (move_text m) ≡ Ok m
  move_back =
      parse_back (said_of m) m (says_move m listed_squares) p (move_text m) (move_says m listed_squares) (says_sound p sound) few in_list

  -- through lent space: n is the length that the writer told
  pub to_hub_lent_reads : (out : List ℕ) (n : ℕ) → to_hub_of m out ≡ Ok n → parse_move_of p (take n (to_hub_lent m out)) ≡ Ok m
  unfolding to_hub_of to_hub_lent
  to_hub_lent_reads out n e =
      let f : emit_of (move_text m) out ≡ Ok n = rw listed_squares at e in
      rw listed_squares (ap (parse_move_of p) (lent_front (move_text m) out n f) ∙ move_back)
