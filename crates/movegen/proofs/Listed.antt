-- The list within a limit, the search in it, the position after a move of it.
use Rattle.std.specs.Prelude.{Some, None, Err, Ok}
use mathlib.Core.Path.{◌≡◌, refl, sym, ap, ap₂, ◌∙◌}
use Prim.Native.Nat.{ℕ, ◌≤◌}
use native.Mathlib.Omega.{arith}
use mathlib.Core.Bool.{Bool, true, false, cond}
use mathlib.Core.List.{List}
use lib.Bits.{bit_or, or_comm}
use lib.ListN.{length}
use lib.Dec.{leb, ltb}
use borrow.Author.Tests.{lt-ltb, le-ltb, lt-leb}
use Rattle.squares.specs.declared.refusal.Refusal.TheVariants.{TooManyMoves, NoMoveFits, NoSuchSquare, BadPosition}
use Rattle.positions.specs.Acceptance.{sound, Sound}
use Rattle.positions.specs.Boards.{Board, board_of, colored, enemy, of_kind, pieces, empty}
use Rattle.positions.specs.Hash.{position_of}
use Rattle.positions.specs.Moves.{squares_of}
use Rattle.positions.specs.Successor.{successor, Playable, play_of}
use Rattle.positions.specs.declared.moves.Move.{Move}
use Rattle.positions.specs.declared.position.Position.{Position}
use Rattle.positions.proofs.Accepts.{sound_says, position_sound, of_position}
use Rattle.positions.proofs.Hashes.{play_is}
use Rattle.positions.proofs.Kept.{successor_accepted}
use Rattle.squares.specs.Sets.{without}
use Rattle.squares.specs.Squares.{all}
use Rattle.squares.specs.Pieces.{other}
use Rattle.squares.specs.declared.piece.Color.{Color}
use Rattle.squares.specs.declared.piece.Color.TheVariants.{White, Black}
use Rattle.captures.specs.View.{view_of, own_men_of, own_kings_of, empty_of, sets_of}
use Rattle.captures.specs.declared.view.View.{View}
use Rattle.captures.specs.declared.view.Sets.{Sets}
use Rattle.captures.specs.Lists as codes
use Rattle.captures.specs.Lists.{list_of, whole_list, entries}
use Rattle.captures.proofs.Whole.{few_whole, many_whole}
use Rattle.rules.specs.Lists.{some}
use Rattle.rules.specs.Ordered.{captures, quiets, legal, listed}
use Rattle.rules.specs.Rules.{Fair}
use Rattle.rules.proofs.Laws.{fair_of_accepted, listed_legal, legal_playable}
use Rattle.quiets.specs.Tests.{has_quiet_of, has_capture_of}
use Rattle.movegen.specs.Lists.{listed_of, has_captures_of, has_quiet_moves_of, played_of, after_of}
use Rattle.captures.specs.declared.moves.MoveList.{MoveList}
use Rattle.capture_laws.proofs.Recorded.{listed_is}
use Rattle.capture_laws.proofs.Stored.{few_len, few_entries}
use Rattle.quiet_laws.proofs.Laws.{has_quiet_law, has_capture_law}

-- a position that passes the test of refusal 12 stands on a fair board
pub fair_of : (p : Position) → sound p ≡ true → Fair (board_of p)
fair_of p e = fair_of_accepted (board_of p) (sound_says p e).accepted

-- ---- the limit
module _ (xs : List Move) (limit : ℕ) where
  pub limit_none : limit ≤ 256 → None ≡ whole_list xs → Err TooManyMoves ≡ listed_of limit xs
  unfolding listed_of
  limit_none h e = sym (ap (λ (t : Bool). cond t (Ok (list_of xs)) (Err TooManyMoves)) (lt-leb (length xs) limit (omega (arith, many_whole xs e))))

  pub limit_some : (l : MoveList) → Some l ≡ whole_list xs → cond (leb l.len limit) (Ok l) (Err TooManyMoves) ≡ listed_of limit xs
  unfolding listed_of
  limit_some l e =
      let w = few_whole xs l e in
      ap₂ (λ (n : ℕ) (k : MoveList). cond (leb n limit) (Ok k) (Err TooManyMoves)) (ap (λ (k : MoveList). k.len) w.1 ∙ few_len xs w.0) w.1

-- ---- the room for a list
pub many_ltb : (xs : List Move) → None ≡ whole_list xs → ltb 256 (length xs) ≡ true
many_ltb xs e = lt-ltb 256 (length xs) (many_whole xs e)

pub few_ltb : (xs : List Move) (l : MoveList) → Some l ≡ whole_list xs → ltb 256 (length xs) ≡ false
few_ltb xs l e = le-ltb 256 (length xs) (few_whole xs l e).0

-- ---- the search
pub found_law : (l : MoveList) (xs : List Move) (m : Move) → Some l ≡ whole_list xs → codes.listed (entries l) m ≡ listed xs m
unfolding listed
found_law l xs m e =
    let w = few_whole xs l e in
    ap (λ (l : MoveList). codes.listed (entries l) m) w.1 ∙ ap (λ (ys : List Move). codes.listed ys m) (few_entries xs w.0) ∙ listed_is xs m

-- ---- the position after a move
pub played_many : (p : Position) (m : Move) → ltb 256 (length (legal (board_of p))) ≡ true → Err TooManyMoves ≡ played_of p m
unfolding played_of
played_many p m e =
    sym (ap (λ (t : Bool). cond t (Err TooManyMoves) (cond (listed (legal (board_of p)) m) (Ok (position_of (successor (board_of p) m))) (Err NoMoveFits))) e)

pub played_none : (p : Position) (m : Move) → ltb 256 (length (legal (board_of p))) ≡ false → listed (legal (board_of p)) m ≡ false → Err NoMoveFits ≡ played_of p m
unfolding played_of
played_none p m e n = sym (ap₂ (λ (s t : Bool). cond s (Err TooManyMoves) (cond t (Ok (position_of (successor (board_of p) m))) (Err NoMoveFits))) e n)

pub listed_playable : (p : Position) (m : Move) → sound p ≡ true → listed (legal (board_of p)) m ≡ true → Playable (board_of p) m
listed_playable p m s e = legal_playable (board_of p) (fair_of p s) m ((listed_legal (board_of p) (fair_of p s) m).0 e)

pub played_one : (p : Position) (m : Move) → sound p ≡ true → ltb 256 (length (legal (board_of p))) ≡ false → listed (legal (board_of p)) m ≡ true
    → Ok (play_of p m) ≡ played_of p m
unfolding played_of
played_one p m s e o =
    ap Ok (play_is p m (sound_says p s) (listed_playable p m s o))
    ∙ sym (ap₂ (λ (s t : Bool). cond s (Err TooManyMoves) (cond t (Ok (position_of (successor (board_of p) m))) (Err NoMoveFits))) e o)

-- past 12 and 11
pub after_at : (p : Position) (m : Move) → sound p ≡ true → squares_of m ≡ true → played_of p m ≡ after_of p m
unfolding after_of
after_at p m s q = sym (ap₂ (λ (s t : Bool). cond s (cond t (played_of p m) (Err NoSuchSquare)) (Err BadPosition)) s q)

-- what is handed back is sound
pub after_sound : (p q : Position) (m : Move) → after_of p m ≡ Ok q → Sound q
unfolding after_of played_of
after_sound p q m e = go (sound p) refl (squares_of m) (ltb 256 (length (legal (board_of p)))) (listed (legal (board_of p)) m) refl e
  where
    go : (s : Bool) → sound p ≡ s → (t n o : Bool) → listed (legal (board_of p)) m ≡ o
        → cond s (cond t (cond n (Err TooManyMoves) (cond o (Ok (position_of (successor (board_of p) m))) (Err NoMoveFits))) (Err NoSuchSquare)) (Err BadPosition)
        ≡ Ok q → Sound q
    go true s true false true o e =
        rw (← of_position e)
        (position_sound (successor (board_of p) m) (successor_accepted (board_of p) m (sound_says p s).accepted (listed_playable p m s o)))
    go true s true false false o e = absurd (let z : ◌≡◌ {A = ℕ} 0 1 = cc in omega arith)
    go true s true true t o e = absurd (let z : ◌≡◌ {A = ℕ} 0 1 = cc in omega arith)
    go true s false n t o e = absurd (let z : ◌≡◌ {A = ℕ} 0 1 = cc in omega arith)
    go false s t n u o e = absurd (let z : ◌≡◌ {A = ℕ} 0 1 = cc in omega arith)

-- ---- the tests
-- the sets that the code makes are those of the board
empty_is : (b : Board) → empty_of (view_of b) ≡ empty b
unfolding empty
empty_is b = ap (without all) (both b.side)
  where
    both : (s : Color) → bit_or (colored s b) (colored (other s) b) ≡ bit_or b.white b.black
    both White = refl
    both Black = or_comm b.black b.white

module _ (p : Position) (s : sound p ≡ true) (v : View) (e : v ≡ view_of (board_of p)) (w : Sets) (d : w ≡ sets_of v) where
  pub captures_tested : (r : Bool) → r ≡ has_capture_of w.men w.kings w.them w.empty → Ok r ≡ has_captures_of p
  unfolding has_captures_of pieces of_kind
  captures_tested r h =
      let b = board_of p in
      ap Ok
      (h ∙ ap (λ (x : Sets). has_capture_of x.men x.kings x.them x.empty) (d ∙ ap sets_of e)
      ∙ ap (has_capture_of (own_men_of (view_of b)) (own_kings_of (view_of b)) (enemy b)) (empty_is b)
      ∙ has_capture_law b (fair_of p s))
      ∙ sym (ap (λ (t : Bool). cond t (Ok (some (captures (board_of p)))) (Err BadPosition)) s)

  pub quiets_tested : (r : Bool) → r ≡ has_quiet_of w.men w.kings w.empty w.side → Ok r ≡ has_quiet_moves_of p
  unfolding has_quiet_moves_of pieces of_kind
  quiets_tested r h =
      let b = board_of p in
      ap Ok
      (h ∙ ap (λ (x : Sets). has_quiet_of x.men x.kings x.empty x.side) (d ∙ ap sets_of e)
      ∙ ap (λ (x : ℕ). has_quiet_of (own_men_of (view_of b)) (own_kings_of (view_of b)) x p.side) (empty_is b)
      ∙ has_quiet_law b (fair_of p s))
      ∙ sym (ap (λ (t : Bool). cond t (Ok (some (quiets (board_of p)))) (Err BadPosition)) s)
