-- What the entries answer, in the numbers and order of docs/REFUSALS.md: a move text 1, 9; on a position 12, 1, 9,
-- 17, 15, 16; the writers 11, 19.
use Rattle.std.specs.Prelude.{Err, Ok}
use mathlib.Core.Path.{◌≡◌, refl, sym, ap₂}
use mathlib.Core.Bool.{Bool, true, false, not, cond}
use mathlib.Core.List.{List, [], ◌∷◌}
use Prim.Native.Nat.{ℕ}
use native.Mathlib.Omega.{arith}
use lib.Dec.{eqb, leb, ltb}
use lib.ListN.{length, get_or}
use borrow.Author.Tests.{ne_eqb, lt-ltb}
use Rattle.squares.specs.Refusals.{refusal}
use Rattle.squares.specs.Told.{told, result, turned_back, when, in_order}
use Rattle.squares.proofs.Orders.{refused_unless, none_left}
use Rattle.squares.specs.declared.refusal.Refusal.{Refusal}
use Rattle.positions.specs.Acceptance.{sound}
use Rattle.positions.specs.Boards.{board_of}
use Rattle.positions.specs.Moves.{squares_of}
use Rattle.positions.specs.declared.moves.Move.{Move}
use Rattle.positions.specs.declared.position.Position.{Position}
use Rattle.captures.specs.Lists.{blank}
use Rattle.rules.specs.Ordered.{legal}
use Rattle.texts.specs.Bytes.{longest_text, readable, trim}
use Rattle.texts.specs.Bytes as texts
use Rattle.texts.specs.Lent.{emit_of}
use Rattle.notation.specs.Choice.{fitting, only, fit_of, parse_move_of}
use Rattle.notation.specs.MoveText.{move_text, short_text, to_hub_of, display_of}
use Rattle.notation.specs.Notation.{heard_trimmed, read_move_of}
use Rattle.notation.specs.declared.notation.Said.{Said}

-- 1, then 9 or what was read
pub read_move_told : (s : List ℕ) → told (read_move_of s) ≡ in_order (when 1 (not (readable longest_text s)) ∷ []) (told (heard_trimmed (trim texts.blank s)))
unfolding read_move_of
read_move_told s = refused_unless told 1 0 (readable longest_text s) _ _ _ _ refl (none_left _)

-- what was read fits none, several, or one of the moves
only_told : (l : List Move) → told (only l) ≡ in_order (when 15 (eqb (length l) 0) ∷ when 16 (ltb 1 (length l)) ∷ []) (result (get_or l 0 blank))
unfolding only in_order
only_told [] = refl
only_told (m ∷ []) = refl
only_told (m ∷ (n ∷ l)) =
    sym (ap₂ (λ (x y : Bool). in_order (when 15 x ∷ when 16 y ∷ []) (result m)) (ne_eqb (length (m ∷ (n ∷ l))) 0 (λ e. omega arith)) (lt-ltb 1 (length (m ∷ (n ∷ l))) (omega arith)))

-- 12, 17, 15, 16 of what was read
pub fit_told : (p : Position) (h : Said)
    → told (fit_of p h)
    ≡ (let fits = fitting h (legal (board_of p)) in
    in_order
    (when 12 (not (sound p)) ∷ when 17 (not (leb (length (legal (board_of p))) 256)) ∷ when 15 (eqb (length fits) 0) ∷ when 16 (ltb 1 (length fits)) ∷ [])
    (result (get_or fits 0 blank)))
unfolding fit_of
fit_told p h =
    refused_unless told 12 0 (sound p) _ _ _ _ refl
    (refused_unless told 17 0 (leb (length (legal (board_of p))) 256) _ _ _ _ refl (only_told (fitting h (legal (board_of p)))))

-- 12, then 1 or 9
pub parse_refused_told : (p : Position) (s : List ℕ) (e : Refusal) → read_move_of s ≡ Err e
    → told (parse_move_of p s) ≡ in_order (when 12 (not (sound p)) ∷ []) (turned_back e)
unfolding parse_move_of
parse_refused_told p s e r = rw r (refused_unless told 12 0 (sound p) _ _ _ _ refl (none_left _))

-- a text that was read means what was read: 12, 17, 15, 16
pub parse_read_told : (p : Position) (s : List ℕ) (h : Said) → read_move_of s ≡ Ok h → told (parse_move_of p s) ≡ told (fit_of p h)
unfolding parse_move_of fit_of
parse_read_told p s h r = rw r (go (sound p))
  where
    go : (t : Bool)
        → told (cond t (cond t (cond (leb (length (legal (board_of p))) 256) (only (fitting h (legal (board_of p)))) (Err (refusal 17))) (Err (refusal 12))) (Err (refusal 12)))
        ≡ told (cond t (cond (leb (length (legal (board_of p))) 256) (only (fitting h (legal (board_of p)))) (Err (refusal 17))) (Err (refusal 12)))
    go true = refl
    go false = refl

-- 11, 19
pub to_hub_told : (m : Move) (out : List ℕ)
    → told (to_hub_of m out) ≡ in_order (when 11 (not (squares_of m)) ∷ when 19 (not (leb (length (move_text m)) (length out))) ∷ []) (result (length (move_text m)))
unfolding to_hub_of emit_of
to_hub_told m out =
    refused_unless told 11 0 (squares_of m) _ _ _ _ refl
    (refused_unless told 19 0 (leb (length (move_text m)) (length out)) _ _ _ _ refl (none_left _))

pub display_told : (m : Move) (out : List ℕ)
    → told (display_of m out) ≡ in_order (when 11 (not (squares_of m)) ∷ when 19 (not (leb (length (short_text m)) (length out))) ∷ []) (result (length (short_text m)))
unfolding display_of emit_of
display_told m out =
    refused_unless told 11 0 (squares_of m) _ _ _ _ refl
    (refused_unless told 19 0 (leb (length (short_text m)) (length out)) _ _ _ _ refl (none_left _))
