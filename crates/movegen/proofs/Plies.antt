-- When no move is legal, and the kind of a legal move: games cite this instead of opening the definitions.
use mathlib.Core.Path.{◌≡◌, refl, sym, ap, ◌∙◌}
use native.Mathlib.Omega.{arith}
use mathlib.Core.Bool.{Bool, true, false, not, ◌||◌}
use mathlib.Core.List.{List, [], ◌∷◌}
use lib.Dec.{eqb}
use lib.ListN.{length}
use borrow.Author.Tests.{eqb-true, eqb-false, ne_eqb, not-true, not-false}
use Rattle.squares.specs.Sets.{has}
use Rattle.squares.specs.Squares.{bit_of}
use Rattle.squares.proofs.Sizes.{size_some}
use Rattle.positions.specs.Acceptance.{Accepted}
use Rattle.positions.specs.Boards.{Board}
use Rattle.positions.proofs.Measure.{Ply, capture, man, king}
use Rattle.positions.specs.Moves.{is_capture}
use Rattle.positions.specs.Successor.{Playable}
use Rattle.positions.specs.declared.moves.Move.{Move}
use Rattle.positions.proofs.Records.{capture_is}
use Rattle.rules.specs.Lists.{some}
use Rattle.rules.specs.Ordered.{captures, quiets, legal}
use Rattle.rules.specs.Rules.{Legal, Fair}
use Rattle.rules.proofs.Laws.{fair_of_accepted, legal_playable, man_nearer}
use Rattle.quiet_laws.proofs.HasMove.{some_legal}

-- ---- no move is legal where neither a capture nor a quiet move is open
none_length : {A : Type 0} (l : List A) → eqb (length l) 0 ≡ not (some l)
unfolding some
none_length [] = refl
none_length (x ∷ l) = ne_eqb (length (x ∷ l)) 0 (λ e. omega arith)

pub none_open : (b : Board) → eqb (length (legal b)) 0 ≡ not (some (captures b) || some (quiets b))
none_open b = none_length (legal b) ∙ ap not (some_legal b)

-- ---- a legal move is a capture, a man's move nearer to its promotion row, or a king's
pub ply_of : (b : Board) (m : Move) → Accepted b → Legal b m → Ply b m
ply_of b m a h = go (is_capture m) refl
  where
    fair : Fair b
    fair = fair_of_accepted b a

    y : Playable b m
    y = legal_playable b fair m h

    none : is_capture m ≡ false → m.captured ≡ 0
    none e = eqb-true m.captured 0 (not-false (eqb m.captured 0) (sym (capture_is m) ∙ e))

    still : is_capture m ≡ false → (t : Bool) → has b.kings (bit_of m.from) ≡ t → Ply b m
    still e true k = king (none e) k
    still e false k = man (none e) k (let r = man_nearer b fair m h e k in omega arith)

    go : (t : Bool) → is_capture m ≡ t → Ply b m
    go true e =
        let n = eqb-false m.captured 0 (not-true (eqb m.captured 0) (sym (capture_is m) ∙ e)) in
        capture (size_some m.captured y.set_fits (omega arith))
    go false e = still e (has b.kings (bit_of m.from)) refl
