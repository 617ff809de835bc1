-- The whole search of the code, piece by piece, records what the rules' search tries, in the same order.
use mathlib.Core.Path.{◌≡◌, refl, sym, ap, ap₂, ◌∙◌, subst}
use Prim.Native.Nat.{ℕ, ◌^◌, ◌<◌}
use native.Mathlib.Omega.{arith}
use mathlib.Core.Bool.{true, false}
use mathlib.Core.List.Memᴰ.{head}
use mathlib.Core.List.Memᴰ.{tail}
use mathlib.Core.List.{List, [], ◌∷◌, map, map-append, foldl, foldl-append, Memᴰ as Member}
use lib.ListN.{length, take}
use lib.Dec.{ltb}
use Rattle.squares.specs.declared.piece.PieceKind.{PieceKind}
use Rattle.squares.specs.declared.piece.PieceKind.TheVariants.{Man, King}
use Rattle.squares.specs.Sets.{has, members}
use Rattle.squares.specs.Squares.{square_at_bit}
use Rattle.squares.proofs.Members.{of_members}
use Rattle.squares.proofs.Numbers.{on_lt}
use Rattle.positions.specs.Boards.{Board, enemy, empty, pieces}
use Rattle.positions.specs.Moves.{move}
use Rattle.positions.specs.declared.moves.Move.{Move}
use Rattle.captures.specs.declared.movegen.Came.TheVariants.{Nowhere}
use Rattle.captures.specs.declared.movegen.Captures.{Captures}
use Rattle.captures.specs.Kings.{skip_of, king_endings, king_captures, kings_captures_of}
use Rattle.captures.specs.Men.{onto, man_endings, man_captures, men_captures_of}
use Rattle.captures.specs.Record.{Ending, start_of, note_of}
use Rattle.captures.proofs.Limit.{Found, found, note_in}
use Rattle.rules.specs.Lists.{concat_map, best, longest}
use Rattle.rules.specs.Ordered.{enough, sequences, count, captures, same_bits}
use Rattle.rules.specs.Rules.{BitMove, numbered, space, Fair}
use Rattle.rules.proofs.Boards.{piece_lt}
use Rattle.rules.proofs.Bounded.{Bounded}
use Rattle.rules.proofs.Captures.{of_sequences}
use Rattle.rules.proofs.Paths.{Path}
use Rattle.rules.proofs.Search.{path_on, of_king_tried, searched_is}
use Rattle.rules.proofs.Shortcut.{king_tried, all_tried}
use Rattle.capture_laws.proofs.Kings.{king_endings_lem}
use Rattle.capture_laws.proofs.Men.{man_endings_lem}
use Rattle.squares.proofs.OneBit.{first_bit}
use Rattle.captures.proofs.Held.{Holds, move_to, Searched, none_holds, fold_holds}
use Rattle.capture_laws.proofs.Recorded.{fold_bound}
use Rattle.capture_laws.proofs.Steps.{ended}

-- the moves that the code makes of the endings of a piece that began on i
moves_of : (i : ℕ) → i < 64 → (ws : List BitMove) → ((w : BitMove) → Member w ws → (w.from ≡ i) × (w.to < 64))
    → map (move_to (2 ^ i)) (map ended ws) ≡ map numbered ws
moves_of i h [] p = refl
moves_of i h (w ∷ ws) p =
    let q = p w (head refl) in
    ap₂ (λ (m : Move) (l : List Move). m ∷ l)
    (ap₂ (λ (x y : ℕ). move x y w.taken) (first_bit i h ∙ ap square_at_bit (sym q.0)) (first_bit w.to q.1))
    (moves_of i h ws (λ z m. p z (tail m)))

-- all the captures of the code
abbrev pub search_of : Board → Captures 256
search_of b = kings_captures_of (men_captures_of (start_of 256 (enemy b) (empty b)) (pieces b Man) (empty b)) (pieces b King) (empty b)

module _ (b : Board) (fair : Fair b) where
  -- the state of the search between two pieces
  record State (s : Captures 256) (x : Found) : Type 0 where
    them : s.them ≡ enemy b
    holds : Holds s x

  -- one piece, whose endings are those of the moves ws
  piece : (k : PieceKind) (i : ℕ) → has (pieces b k) i ≡ true → (ws : List BitMove)
      → ((w : BitMove) → Member w ws → (w.from ≡ i) × Path b k i w.to w.taken)
      → (s : Captures 256) (x : Found) (es : List Ending) → es ≡ map ended ws → State s x
      → State (foldl note_of (onto (empty b) s i) es) (foldl (note_in 256) x (map numbered ws))
  piece k i h ws p s x es q t = record {
    them = r.kept.them ∙ t.them;
    holds = subst (λ (l : List Move). Holds (foldl note_of (onto (empty b) s i) es) (foldl (note_in 256) x l)) made r.holds;
  }
    where
      holds : Holds (onto (empty b) s i) x
      holds = record { room = t.holds.room; list = t.holds.list; len = t.holds.len; few = t.holds.few; full = t.holds.full; best = t.holds.best }

      r : Searched (onto (empty b) s i) (foldl note_of (onto (empty b) s i) es) (foldl (note_in 256) x (map (move_to (2 ^ i)) es))
      r = fold_holds es (onto (empty b) s i) x holds

      made : map (move_to (2 ^ i)) es ≡ map numbered ws
      made = ap (map (move_to (2 ^ i))) q
          ∙ moves_of i (omega (arith, piece_lt b fair k i h)) ws (λ w m. ((p w m).0, omega (arith, on_lt w.to (path_on b fair k i w h (p w m)).to)))

  man : (s : Captures 256) (x : Found) (i : ℕ) → has (pieces b Man) i ≡ true → State s x
      → State (man_captures (empty b) s i) (foldl (note_in 256) x (map numbered (sequences b Man i)))
  unfolding man_captures space enough
  man s x i h t =
      piece Man i h (sequences b Man i) (of_sequences b fair Man i) s x (man_endings s.them (space b i) enough (2 ^ i) 0)
      (ap (λ (e : ℕ). man_endings e (space b i) enough (2 ^ i) 0) t.them ∙ man_endings_lem b fair i h) t

  king : (s : Captures 256) (x : Found) (i : ℕ) → has (pieces b King) i ≡ true → State s x
      → State (king_captures (empty b) s i) (foldl (note_in 256) x (map numbered (king_tried b i)))
  unfolding king_captures space enough
  king s x i h t =
      piece King i h (king_tried b i) (of_king_tried b fair i) s x (king_endings s.them (space b i) enough (2 ^ i) 0 (skip_of Nowhere))
      (ap (λ (e : ℕ). king_endings e (space b i) enough (2 ^ i) 0 (skip_of Nowhere)) t.them ∙ king_endings_lem b fair i h) t

  -- pieces one after the other
  module _ (k : PieceKind) (step : Captures 256 → ℕ → Captures 256) (rule : ℕ → List BitMove)
      (one : (s : Captures 256) (x : Found) (i : ℕ) → has (pieces b k) i ≡ true → State s x
      → State (step s i) (foldl (note_in 256) x (map numbered (rule i)))) where
    each : (l : List ℕ) → ((i : ℕ) → Member i l → has (pieces b k) i ≡ true) → (s : Captures 256) (x : Found) → State s x
        → State (foldl step s l) (foldl (note_in 256) x (map numbered (concat_map rule l)))
    unfolding concat_map
    each [] p s x t = t
    each (i ∷ l) p s x t =
        subst (λ (y : Found). State (foldl step (step s i) l) y)
        (sym (ap (foldl (note_in 256) x) (map-append numbered (rule i) (concat_map rule l))
        ∙ foldl-append (note_in 256) x (map numbered (rule i)) (map numbered (concat_map rule l))))
        (each l (λ j m. p j (tail m)) (step s i) (foldl (note_in 256) x (map numbered (rule i))) (one s x i (p i (head refl)) t))

    every : (s : Captures 256) (x : Found) → State s x
        → State (foldl step s (members (pieces b k))) (foldl (note_in 256) x (map numbered (concat_map rule (members (pieces b k)))))
    every s x t = each (members (pieces b k)) (λ i m. of_members (pieces b k) i m) s x t

  pub search_holds : Holds (search_of b) (foldl (note_in 256) (found 0 [] false) (map numbered (all_tried b)))
  unfolding men_captures_of kings_captures_of all_tried
  search_holds =
      subst (λ (y : Found). Holds (search_of b) y)
      (sym (ap (foldl (note_in 256) (found 0 [] false)) (map-append numbered men kings)
      ∙ foldl-append (note_in 256) (found 0 [] false) (map numbered men) (map numbered kings)))
      (every King (king_captures (empty b)) (king_tried b) king _ _ (every Man (man_captures (empty b)) (sequences b Man) man _ _ begun)).holds
    where
      men : List BitMove
      men = concat_map (sequences b Man) (members (pieces b Man))

      kings : List BitMove
      kings = concat_map (king_tried b) (members (pieces b King))

      begun : State (start_of 256 (enemy b) (empty b)) (found 0 [] false)
      begun = record { them = refl; holds = none_holds (enemy b) (empty b) }

  -- the fold with any limit: the longest captures as far as the limit goes, and a mark where there are more
  pub found_law : (limit : ℕ) → let l = longest same_bits count (captures b) in
      foldl (note_in limit) (found 0 [] false) (map numbered (all_tried b)) ≡ found (best count (captures b)) (take limit (map numbered l)) (ltb limit (length l))
  found_law limit =
      ap (λ (y : Bounded Move). found y.most y.list y.over)
      (fold_bound limit (map numbered (all_tried b)) (found 0 [] false) ∙ searched_is b fair limit)
