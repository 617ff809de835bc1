-- The sequences of the rules as paths from the start, by no jump or more: what the search follows.
use mathlib.Core.Path.{◌≡◌, sym, ap, ◌∙◌, subst}
use Prim.Native.Nat.{ℕ, ◌^◌, ◌<◌, suc-le-suc}
use native.Mathlib.Omega.{arith}
use mathlib.Core.Bool.{true}
use lib.Dec.{lit<}
use lib.Bits.{bit_or, or_zero_l}
use Rattle.squares.specs.declared.piece.PieceKind.{PieceKind}
use Rattle.squares.specs.Sets.{has, size, without}
use Rattle.squares.proofs.Pointwise.{member_lt}
use Rattle.squares.proofs.Sizes.{size_zero, size_bit, size_add, size_most}
use Rattle.rules.proofs.Tree.{From, stop, jump, from_then}
use Rattle.positions.specs.Boards.{Board, own, enemy, pieces}
use Rattle.rules.proofs.Boards.{enemy_lt, piece_own}
use Rattle.rules.specs.Ordered.{hop, jumps, enough, count}
use Rattle.rules.specs.Rules.{BitMove, bit_move, Jump, Sequence, first, then, Capture, Fair}
use Rattle.rules.proofs.Jumps.{of_jumps, jump_target, Good, remaining, in_jumps}

-- the piece that began on f stands on a square and has taken a set, after no jump or more
pub data Path (b : Board) (k : PieceKind) (f : ℕ) : ℕ → ℕ → Type 0 where
  begin : Path b k f f 0
  onward : {i taken o l : ℕ} → Path b k f i taken → Jump b f taken i k o l → Path b k f l (bit_or taken (2 ^ o))

pub of_sequence : {b : Board} {k : PieceKind} {f i t : ℕ} → Sequence b k f i t → Path b k f i t
of_sequence {b} {k} {f} (first {o = o} {l = l} j) = subst (λ t. Path b k f l t) (or_zero_l (2 ^ o)) (onward begin j)
of_sequence (then s j) = onward (of_sequence s) j

-- a path and a jump more is a sequence
pub to_sequence : {b : Board} {k : PieceKind} {f i t o l : ℕ} → Path b k f i t → Jump b f t i k o l → Sequence b k f l (bit_or t (2 ^ o))
to_sequence {b} {k} {f} {o = o} {l = l} begin j = subst (λ t. Sequence b k f l t) (sym (or_zero_l (2 ^ o))) (first j)
to_sequence (onward p i) j = then (to_sequence p i) j

pub path_sequence : {b : Board} {k : PieceKind} {f i t : ℕ} → Path b k f i t → 0 < size t → Sequence b k f i t
path_sequence begin h = absurd (omega (arith, size_zero))
path_sequence (onward p j) h = to_sequence p j

module _ (b : Board) (fair : Fair b) where
  pub over_lt : {f t i o l : ℕ} {k : PieceKind} → Jump b f t i k o l → o < 64
  over_lt {o = o} j = omega (arith, member_lt 54 (enemy b) o (enemy_lt b fair) (jump_target j).enemy)

  -- ---- a piece's sequences
  pub to_from : {k : PieceKind} {f i t : ℕ} → has (own b) f ≡ true → Path b k f i t → From (jumps b k) (bit_move f f 0) (bit_move f i t)
  unfolding hop
  to_from p begin = stop
  to_from p (onward s j) = from_then (jumps b _) (to_from p s) (in_jumps b fair p j)

  pub of_from : {k : PieceKind} {x z : BitMove} → From (jumps b k) x z → (f : ℕ) → x.from ≡ f → Path b k f x.to x.taken
      → (z.from ≡ f) × Path b k f z.to z.taken
  unfolding hop
  of_from stop f p s = (p, s)
  of_from {k} (jump {x = x} {y = y} m r) f p s =
      let j = of_jumps b k x y m in
      of_from r f (ap (λ (w : BitMove). w.from) j.is ∙ p)
      (subst (λ w. Path b k f w.to w.taken) (sym j.is)
      (onward s (subst (λ u. Jump b u x.taken x.to k j.over j.land) p j.jump)))

  pub starts : (k : PieceKind) (i : ℕ) → has (pieces b k) i ≡ true → Good b (bit_move i i 0)
  starts k i h = record { own = piece_own b fair k i h; small = lit< tt }

  pub fuel : (i : ℕ) → remaining b (bit_move i i 0) < enough
  unfolding enough
  fuel i = suc-le-suc (size_most (without (enemy b) 0))

  pub sequence_some : {k : PieceKind} {f i t : ℕ} → Sequence b k f i t → 0 < size t
  sequence_some (first {o = o} j) = omega (arith, size_bit o (over_lt j))
  sequence_some (then {taken = t} {o = o} s j) = omega (arith, size_add t o (over_lt j) (jump_target j).untaken)

  -- a capture takes a piece
  pub capture_some : (m : BitMove) → Capture b m → 0 < count m
  capture_some m c = sequence_some c.sequence
