-- The laws that crates above cite. `Legal` is the rule, `legal` the list: by `listed_legal` each of the others speaks of both.
use mathlib.Core.Path.{◌≡◌, refl, sym, ap, ◌∙◌, subst}
use Prim.Native.Nat.{ℕ, ◌+◌, ◌≤◌}
use native.Mathlib.Omega.{arith}
use mathlib.Core.Bool.{true, false, not, true≢false, false≢true}
use mathlib.Core.List.{[], map, foldl}
use mathlib.Core.Logic.{inl, inr, ◌↔◌}
use borrow.Author.Tests.{eq-eqb, ne_eqb}
use Rattle.squares.specs.declared.piece.PieceKind.{PieceKind}
use Rattle.squares.specs.declared.piece.PieceKind.TheVariants.{King}
use Rattle.positions.specs.declared.moves.Move.{Move}
use Rattle.squares.specs.Sets.{has, size}
use Rattle.squares.specs.Squares.{bit_of}
use Rattle.squares.proofs.Numbers.{bit_back}
use Rattle.squares.proofs.Sizes.{size_zero}
use Rattle.positions.specs.Acceptance.{Accepted}
use Rattle.positions.specs.Boards.{Board, pieces}
use Rattle.positions.proofs.Measure.{rows_before}
use Rattle.positions.specs.Moves.{is_capture, squares_of, same}
use Rattle.positions.specs.Successor.{Playable}
use Rattle.rules.specs.Lists.{some, times}
use Rattle.rules.specs.Ordered.{sequences, count, captures, quiets, same_bits, legal, listed}
use Rattle.rules.specs.Rules.{BitMove, bit_move, numbered, Sequence, Capture, AtMost, Open, NoJump, Quiet, BitLegal, capture, quiet, Legal, Fair}
use Rattle.rules.proofs.Agreement.{bits_none}
use Rattle.rules.proofs.Captures.{opened, of_open, open_of, of_captures, in_captures, shut_law}
use Rattle.rules.proofs.Fold.{Found, note}
use Rattle.rules.proofs.Forward.{quiet_row}
use Rattle.rules.proofs.Lists.{of_some, some_in}
use Rattle.rules.proofs.Numbered.{legal_distinct, member_sound, member_complete}
use Rattle.rules.proofs.Paths.{capture_some}
use Rattle.rules.proofs.Places.{Goes, legal_goes, from_on, to_on_lem, goes_playable, goes_squares}
use Rattle.rules.proofs.Quiets.{quiet_none, of_quiets, in_quiets}
use Rattle.rules.proofs.Same.{same_refl, same_true, listed_member}
use Rattle.rules.proofs.Shortcut.{king_tried, king_law}
use Rattle.rules.proofs.Times.{times_most, times_some}
use Rattle.rules.proofs.Tree.{Reached}

-- a position that refusal 12 lets pass is accepted, and an accepted board is fair
pub fair_of_accepted : (b : Board) → Accepted b → Fair b
fair_of_accepted b a = record {
  white_on = a.white_on;
  black_on = a.black_on;
  apart = a.apart;
  white_fits = a.white_fits;
  black_fits = a.black_fits;
  kings_fits = a.kings_fits;
}

module _ (b : Board) (fair : Fair b) where
  -- ---- the list and the rules

  -- a move stands in the list exactly when it is legal
  pub listed_legal : (m : Move) → (listed (legal b) m ≡ true) ↔ Legal b m
  listed_legal m = ((λ e. member_sound b fair m ((listed_member (legal b) m).0 e)), (λ h. (listed_member (legal b) m).1 (member_complete b fair m h)))

  -- no entry stands twice
  pub no_doubles : (m : Move) → times same (legal b) m ≤ 1
  no_doubles m = times_most same same_refl same_true (legal b) m (legal_distinct b fair)

  pub listed_once : (m : Move) → listed (legal b) m ≡ true → times same (legal b) m ≡ 1
  listed_once m e = omega (arith, no_doubles m, times_some same same_refl same_true (legal b) m ((listed_member (legal b) m).0 e))

  -- two routes with equal first square, last square and set, where none takes more, are one entry
  pub one_entry : {k k' : PieceKind} {f i t : ℕ} (s : Sequence b k f i t) (r : Sequence b k' f i t)
      → has (pieces b k) f ≡ true → has (pieces b k') f ≡ true → AtMost b (size t) → times same (legal b) (numbered (bit_move f i t)) ≡ 1
  one_entry {k} {k'} {f} {i} {t} s r p q most =
      listed_once (numbered (bit_move f i t))
      ((listed_legal (numbered (bit_move f i t))).1
      (record { by = bit_move f i t; is = refl; legal = capture (record { kind = k; piece = p; sequence = s }) most }))

  -- ---- captures and quiet moves

  pub capture_takes : (w : BitMove) → Capture b w → is_capture (numbered w) ≡ true
  unfolding is_capture
  capture_takes w c = ap not (ne_eqb w.taken 0 (λ e. omega (arith, capture_some b fair w c, ap size e ∙ size_zero)))

  pub quiet_takes_none : (w : BitMove) → Quiet b w → is_capture (numbered w) ≡ false
  unfolding is_capture
  quiet_takes_none w q = ap not (eq-eqb w.taken 0 (quiet_none q))

  -- no legal jump sequence of the side takes more than a legal move
  pub legal_most : (m : Move) → Legal b m → AtMost b (size m.captured)
  legal_most m h = subst (λ n. AtMost b (size n.captured)) (sym h.is) (go h.legal)
    where
      go : {w : BitMove} → BitLegal b w → AtMost b (count w)
      go (capture c most) = most
      go (quiet none q) = λ v c. absurd (none (open_of v c))

  -- all legal moves take the same number
  pub same_number : (m n : Move) → Legal b m → Legal b n → size m.captured ≡ size n.captured
  same_number m n h k = ap (λ (u : Move). size u.captured) h.is ∙ go h.legal k.legal ∙ ap (λ (u : Move). size u.captured) (sym k.is)
    where
      go : {v w : BitMove} → BitLegal b v → BitLegal b w → count v ≡ count w
      go {v} {w} (capture c most) (capture d more) = omega (arith, most w d, more v c)
      go {v} {w} (capture c most) (quiet none q) = absurd (none (open_of v c))
      go {v} {w} (quiet none q) (capture d more) = absurd (none (open_of w d))
      go {v} {w} (quiet none q) (quiet none' r) = ap size (quiet_none q ∙ sym (quiet_none r))

  -- a legal move that takes a piece is a capture of the rules
  pub legal_capture : (m : Move) (h : Legal b m) → is_capture m ≡ true → Capture b h.by
  legal_capture m h e = go h.legal (ap is_capture (sym h.is) ∙ e)
    where
      go : {w : BitMove} → BitLegal b w → is_capture (numbered w) ≡ true → Capture b w
      go (capture c most) t = c
      go {w} (quiet none q) t = absurd (false≢true (sym (quiet_takes_none w q) ∙ t))

  -- one that takes none is a quiet move, and no jump is open
  pub legal_quiet : (m : Move) (h : Legal b m) → is_capture m ≡ false → NoJump b × Quiet b h.by
  legal_quiet m h e = go h.legal (ap is_capture (sym h.is) ∙ e)
    where
      go : {w : BitMove} → BitLegal b w → is_capture (numbered w) ≡ false → NoJump b × Quiet b w
      go {w} (capture c most) t = absurd (true≢false (sym (capture_takes w c) ∙ t))
      go (quiet none q) t = (none, q)

  -- ---- what a successor needs

  pub legal_playable : (m : Move) → Legal b m → Playable b m
  legal_playable m h = subst (Playable b) (sym h.is) (goes_playable b fair (legal_goes b fair h.by h.legal))

  -- the test of refusal 11 passes
  pub legal_squares : (m : Move) → Legal b m → squares_of m ≡ true
  legal_squares m h = ap squares_of h.is ∙ goes_squares b fair (legal_goes b fair h.by h.legal)

  -- a quiet move of a man goes one row nearer to its promotion row
  pub man_nearer : (m : Move) → Legal b m → is_capture m ≡ false → has b.kings (bit_of m.from) ≡ false
      → rows_before b.side (bit_of m.to) + 1 ≡ rows_before b.side (bit_of m.from)
  man_nearer m h e n =
      ap (λ (i : ℕ). rows_before b.side i + 1) to ∙ quiet_row b fair (legal_quiet m h e).1 (ap (has b.kings) (sym from) ∙ n)
      ∙ ap (rows_before b.side) (sym from)
    where
      goes : Goes b h.by
      goes = legal_goes b fair h.by h.legal

      from : bit_of m.from ≡ h.by.from
      from = ap (λ (u : Move). bit_of u.from) h.is ∙ bit_back h.by.from (from_on b fair goes)

      to : bit_of m.to ≡ h.by.to
      to = ap (λ (u : Move). bit_of u.to) h.is ∙ bit_back h.by.to (to_on_lem b fair goes)

  -- no jump is open exactly where the list of captures is empty
  pub no_jump : (captures b ≡ []) ↔ NoJump b
  no_jump = shut_law b fair

  -- the list of captures has an entry exactly where a jump is open
  pub some_open : (some (captures b) ≡ true) ↔ Open b
  some_open = ((λ e. let r = of_some (captures b) e in open_of r.0 (of_captures b fair r.0 r.1)), (λ o. go (in_captures b fair (opened o) (of_open o))))
    where
      go : {w : BitMove} → Reached count w (captures b) → some (captures b) ≡ true
      go (inl k) = some_in (captures b) k
      go (inr k) = some_in (captures b) k.1

  -- the list of quiet moves has one exactly where there is a quiet move
  pub some_quiet : (some (quiets b) ≡ true) ↔ ((w : BitMove) × Quiet b w)
  some_quiet = ((λ e. let r = of_some (quiets b) e in (r.0, of_quiets b fair r.0 r.1)), (λ q. some_in (quiets b) (in_quiets b fair q.1)))

  -- ---- the search of the code: the king's shortcut, for whatever was found before, with room for any number
  pub king_shortcut : (i : ℕ) → has (pieces b King) i ≡ true → (s : Found BitMove)
      → foldl (note same_bits count) s (king_tried b i) ≡ foldl (note same_bits count) s (sequences b King i)
  king_shortcut = king_law b fair

  -- where no jump is open the list is of the quiet moves
  pub quiet_list : NoJump b → legal b ≡ map numbered (quiets b)
  unfolding legal
  quiet_list n = ap (map numbered) (bits_none b ((shut_law b fair).1 n))
