-- The captures listed are legal jump sequences, and each legal jump sequence is listed or a longer one is.
use mathlib.Core.Path.{◌≡◌, refl, sym, ap, ◌∙◌, subst}
use Prim.Native.Nat.{ℕ, ◌^◌, ◌<◌}
use native.Mathlib.Omega.{arith}
use mathlib.Core.Bool.{true, not}
use mathlib.Core.List.Memᴰ.{append_cases as in-cases}
use mathlib.Core.List.Memᴰ.{append_left as in_left}
use mathlib.Core.List.Memᴰ.{append_right as in_right}
use mathlib.Core.List.Memᴰ.{head}
use mathlib.Core.List.Memᴰ.{not-nil}
use mathlib.Core.List.{List, [], ◌∷◌, Memᴰ as Member}
use mathlib.Core.Logic.{◌⊎◌, inl, inr, ◌↔◌}
use lib.Dec.{eqb}
use borrow.Author.Tests.{eqb-false, ne_eqb, not-true}
use Rattle.squares.specs.declared.piece.PieceKind.{PieceKind}
use Rattle.squares.specs.declared.piece.PieceKind.TheVariants.{Man, King}
use Rattle.squares.specs.Sets.{has, members}
use Rattle.squares.proofs.Members.{of_members}
use Rattle.rules.proofs.Tree.{Reached, wider, sound, complete}
use Rattle.positions.specs.Boards.{Board, pieces}
use Rattle.rules.proofs.Boards.{piece_own, piece_member}
use Rattle.rules.specs.Lists.{concat_map, keep}
use Rattle.rules.specs.Ordered.{jumps, enough, sequences, all_sequences, count, captures}
use Rattle.rules.specs.Rules.{BitMove, bit_move, Sequence, first, then, Capture, Open, NoJump, Fair}
use Rattle.rules.proofs.Jumps.{Good, remaining, good, grows, falls}
use Rattle.rules.proofs.Lists.{in_concat_map, of_concat_map, in_keep, of_keep}
use Rattle.rules.proofs.Paths.{Path, begin, of_sequence, path_sequence, to_from, of_from, starts, fuel, capture_some}

-- ---- an open jump is a capture, and a capture begins with one
abbrev pub opened : {b : Board} → Open b → BitMove
opened o = bit_move o.from o.land (2 ^ o.over)

pub of_open : {b : Board} (o : Open b) → Capture b (opened o)
of_open o = record { kind = o.kind; piece = o.piece; sequence = first o.jump }

pub open_of : {b : Board} (w : BitMove) → Capture b w → Open b
open_of {b} w c = go c.sequence c.piece
  where
    go : {k : PieceKind} {f i t : ℕ} → Sequence b k f i t → has (pieces b k) f ≡ true → Open b
    go {k} {f} (first {o = o} {l = l} j) p = record { kind = k; from = f; over = o; land = l; piece = p; jump = j }
    go (then s j) p = go s p

-- ---- all sequences
module _ (b : Board) (fair : Fair b) where
  pub of_sequences : (k : PieceKind) (i : ℕ) (m : BitMove) → Member m (sequences b k i) → (m.from ≡ i) × Path b k i m.to m.taken
  unfolding sequences
  of_sequences k i m h = of_from b fair (sound (jumps b k) enough (bit_move i i 0) m h) i refl begin

  in_sequences : (k : PieceKind) (m : BitMove) → has (pieces b k) m.from ≡ true → Path b k m.from m.to m.taken
      → Reached count m (sequences b k m.from)
  unfolding sequences
  in_sequences k m h s =
      complete (jumps b k) count (remaining b) (Good b) (good b fair k) (grows b fair k) (falls b fair k)
      (to_from b fair (piece_own b fair k m.from h) s) (starts b fair k m.from h) enough (omega (arith, fuel b fair m.from))

  -- ---- all pieces
  record Any (m : BitMove) : Type 0 where
    kind : PieceKind
    piece : has (pieces b kind) m.from ≡ true
    path : Path b kind m.from m.to m.taken

  of_kind_lem : (k : PieceKind) (m : BitMove) → Member m (concat_map (sequences b k) (members (pieces b k))) → Any m
  of_kind_lem k m h =
      let r = of_concat_map (sequences b k) (members (pieces b k)) h in
      let s = of_sequences k r.0 m r.2 in
      record {
        kind = k;
        piece = ap (has (pieces b k)) s.0 ∙ of_members (pieces b k) r.0 r.1;
        path = subst (λ u. Path b k u m.to m.taken) (sym s.0) s.1;
      }

  of_all : (m : BitMove) → Member m (all_sequences b) → Any m
  unfolding all_sequences
  of_all m h = go (in-cases (concat_map (sequences b Man) (members (pieces b Man))) h)
    where
      go : Member m (concat_map (sequences b Man) (members (pieces b Man))) ⊎ Member m (concat_map (sequences b King) (members (pieces b King))) → Any m
      go (inl k) = of_kind_lem Man m k
      go (inr k) = of_kind_lem King m k

  kind_all : (k : PieceKind) (w : BitMove) → Member w (concat_map (sequences b k) (members (pieces b k))) → Member w (all_sequences b)
  unfolding all_sequences
  kind_all Man w h = in_left _ h
  kind_all King w h = in_right (concat_map (sequences b Man) (members (pieces b Man))) h

  in_all : (m : BitMove) (k : PieceKind) → has (pieces b k) m.from ≡ true → Path b k m.from m.to m.taken → Reached count m (all_sequences b)
  in_all m k h s =
      wider count m (sequences b k m.from) (all_sequences b)
      (λ w i. kind_all k w (in_concat_map (sequences b k) (piece_member b fair k m.from h) i))
      (in_sequences k m h s)

  pub of_captures : (m : BitMove) → Member m (captures b) → Capture b m
  unfolding captures
  of_captures m h =
      let r = of_keep (λ w. not (eqb (count w) 0)) (all_sequences b) h in
      let a = of_all m r.0 in
      let n = eqb-false (count m) 0 (not-true (eqb (count m) 0) r.1) in
      record { kind = a.kind; piece = a.piece; sequence = path_sequence a.path (omega arith) }

  pub in_captures : (m : BitMove) → Capture b m → Reached count m (captures b)
  unfolding captures
  in_captures m c = go (in_all m c.kind c.piece (of_sequence c.sequence))
    where
      pos : (w : BitMove) → 0 < count w → not (eqb (count w) 0) ≡ true
      pos w l = ap not (ne_eqb (count w) 0 (λ e. omega arith))

      go : Reached count m (all_sequences b) → Reached count m (keep (λ w. not (eqb (count w) 0)) (all_sequences b))
      go (inl h) = inl (in_keep (λ w. not (eqb (count w) 0)) h (pos m (capture_some b fair m c)))
      go (inr h) = inr (h.0, in_keep (λ w. not (eqb (count w) 0)) h.1 (pos h.0 (omega (arith, h.2))), h.2)

  -- no jump is open exactly where the list of captures is empty
  pub shut_law : (captures b ≡ []) ↔ NoJump b
  shut_law = ((λ e o. none e o (in_captures (opened o) (of_open o))), (λ n. go (captures b) refl n))
    where
      none : captures b ≡ [] → (o : Open b) → Reached count (opened o) (captures b) → ⊥
      none e o (inl k) = not-nil (rw e at k)
      none e o (inr k) = not-nil (rw e at k.1)

      go : (l : List BitMove) → captures b ≡ l → NoJump b → captures b ≡ []
      go [] e n = e
      go (x ∷ xs) e n = absurd (n (open_of x (of_captures x (rw e (head refl)))))
