-- The laws that crates above cite: on a fair board the quiet list and the tests by sets are those of the rules.
use mathlib.Core.Path.{◌≡◌, sym, ap, ◌∙◌}
use mathlib.Core.Bool.{true, false, false≢true}
use mathlib.Core.List.{◌++◌, map}
use mathlib.Core.Logic.{◌↔◌}
use lib.ListN.{length}
use Rattle.squares.specs.declared.piece.PieceKind.TheVariants.{Man, King}
use Rattle.squares.proofs.Bools.{not_so}
use Rattle.positions.specs.Boards.{Board, enemy, empty, pieces}
use Rattle.captures.specs.Lists.{no_moves, whole_list}
use Rattle.rules.specs.Ordered.{captures, quiets, legal}
use Rattle.rules.specs.Rules.{numbered, Open, NoJump, Fair}
use Rattle.rules.proofs.Laws.{quiet_list}
use Rattle.quiets.specs.Quiets.{men_quiets, king_quiets, put_all, all_quiets, quiet_moves_of}
use Rattle.quiets.proofs.Filled.{marked_list, fill_law}
use Rattle.quiets.specs.Tests.{has_quiet_of, has_capture_of}
use Rattle.rules.specs.Lists.{some}
use Rattle.quiet_laws.proofs.HasCapture.{open_tested, capture_test}
use Rattle.quiet_laws.proofs.HasQuiet.{quiet_test}
use Rattle.quiet_laws.proofs.Lists.{lists_law}

module _ (b : Board) (fair : Fair b) where
  -- ---- the list
  -- the moves, men's and kings', in the order of the rules' list
  pub quiet_moves : men_quiets (pieces b Man) (empty b) b.side ++ king_quiets (pieces b King) (empty b) ≡ map numbered (quiets b)
  quiet_moves = lists_law b fair

  -- ---- the tests
  pub has_quiet_law : has_quiet_of (pieces b Man) (pieces b King) (empty b) b.side ≡ some (quiets b)
  has_quiet_law = quiet_test b fair

  pub has_capture_law : has_capture_of (pieces b Man) (pieces b King) (enemy b) (empty b) ≡ some (captures b)
  has_capture_law = capture_test b fair

  -- true exactly where a jump is open, false exactly where none is
  pub capture_open : (has_capture_of (pieces b Man) (pieces b King) (enemy b) (empty b) ≡ true) ↔ Open b
  capture_open = open_tested b fair

  pub capture_shut : (has_capture_of (pieces b Man) (pieces b King) (enemy b) (empty b) ≡ false) ↔ NoJump b
  capture_shut = ((λ e o. false≢true (sym e ∙ capture_open.1 o)), (λ n. not_so _ (λ e. n (capture_open.0 e))))

  -- ---- where no jump is open
  pub quiets_legal : has_capture_of (pieces b Man) (pieces b King) (enemy b) (empty b) ≡ false → legal b ≡ map numbered (quiets b)
  quiets_legal e = quiet_list b fair (capture_shut.0 e)

  -- the quiet moves put into the empty list fill it with the first 256 legal moves, and the mark says whether there are
  -- more
  pub legal_filled : has_capture_of (pieces b Man) (pieces b King) (enemy b) (empty b) ≡ false
      → put_all no_moves (all_quiets (pieces b Man) (pieces b King) (empty b) b.side) ≡ marked_list (legal b)
  unfolding all_quiets
  legal_filled e =
      fill_law (men_quiets (pieces b Man) (empty b) b.side ++ king_quiets (pieces b King) (empty b)) ∙ ap marked_list (quiet_moves ∙ sym (quiets_legal e))

  -- so the quiet list is the list of legal moves, where there are at most 256
  pub legal_listed : has_capture_of (pieces b Man) (pieces b King) (enemy b) (empty b) ≡ false
      → quiet_moves_of (pieces b Man) (pieces b King) (empty b) b.side ≡ whole_list (legal b)
  unfolding quiet_moves_of all_quiets
  legal_listed e = ap whole_list (quiet_moves ∙ sym (quiets_legal e))

  -- and their number, for which no list is needed
  pub legal_number : has_capture_of (pieces b Man) (pieces b King) (enemy b) (empty b) ≡ false
      → length (all_quiets (pieces b Man) (pieces b King) (empty b) b.side) ≡ length (legal b)
  unfolding all_quiets
  legal_number e = ap length (quiet_moves ∙ sym (quiets_legal e))
