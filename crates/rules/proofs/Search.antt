-- What a search of the code ends with, by square numbers: everything tried, folded with room and mark, is the list.
use mathlib.Core.Path.{◌≡◌, refl, sym, ap, ◌∙◌, subst}
use Prim.Native.Nat.{ℕ, zero, suc}
use mathlib.Core.Bool.{true, false}
use mathlib.Core.List.Memᴰ.{append_cases as in-cases}
use mathlib.Core.List.Memᴰ.{not-nil}
use mathlib.Core.List.{List, [], ◌∷◌, map, foldl, Memᴰ as Member}
use mathlib.Core.Logic.{◌⊎◌, inl, inr}
use lib.ListN.{length, take}
use lib.Dec.{ltb}
use Rattle.squares.specs.declared.piece.PieceKind.{PieceKind}
use Rattle.squares.specs.declared.piece.PieceKind.TheVariants.{Man, King}
use Rattle.positions.specs.declared.moves.Move.{Move}
use Rattle.squares.specs.Sets.{has, size, members}
use Rattle.squares.proofs.Members.{of_members}
use Rattle.rules.proofs.Tree.{pruned_sound}
use Rattle.positions.specs.Boards.{Board, own, pieces}
use Rattle.positions.specs.Moves.{same}
use Rattle.rules.proofs.Boards.{piece_own}
use Rattle.rules.specs.Lists.{concat_map, best, longest}
use Rattle.rules.specs.Ordered.{directions, jumps_along, jumps, enough, sequences, count, captures, same_bits}
use Rattle.rules.specs.Rules.{BitMove, bit_move, numbered, Fair}
use Rattle.rules.proofs.Bounded.{Bounded, bounded, note_in}
use Rattle.rules.proofs.Captures.{of_sequences}
use Rattle.rules.proofs.Lists.{of_concat_map}
use Rattle.rules.proofs.Numbered.{OnBoard, same_numbered}
use Rattle.rules.proofs.Paths.{Path, begin, of_from}
use Rattle.rules.proofs.Places.{Goes, path_stands, from_on, to_on_lem}
use Rattle.rules.proofs.Renamed.{renamed, fold_map}
use Rattle.rules.proofs.Shortcut.{back, aside, king_tried, all_tried, search_law}

-- the number taken by a move record
abbrev pub taking : Move → ℕ
taking m = size m.captured

-- everything tried, in the code's order, with room for that many
abbrev pub searched : Board → ℕ → Bounded Move
searched b room = foldl (note_in same taking room) (bounded 0 [] false) (map numbered (all_tried b))

map_take : {A B : Type 0} (f : A → B) (n : ℕ) (l : List A) → map f (take n l) ≡ take n (map f l)
map_take f zero l = refl
map_take f (suc n) [] = refl
map_take f (suc n) (x ∷ l) = ap (λ r. f x ∷ r) (map_take f n l)

module _ (b : Board) (fair : Fair b) where
  pub path_on : (k : PieceKind) (i : ℕ) (w : BitMove) → has (pieces b k) i ≡ true → (w.from ≡ i) × Path b k i w.to w.taken → OnBoard w
  path_on k i w h s =
      record { from = from_on b fair goes; to = to_on_lem b fair goes }
    where
      goes : Goes b w
      goes = record {
        mover = ap (has (own b)) s.0 ∙ piece_own b fair k i h;
        stands = path_stands b fair (subst (λ f. Path b k f w.to w.taken) (sym s.0) s.1);
      }

  pub of_king_tried : (i : ℕ) (w : BitMove) → Member w (king_tried b i) → (w.from ≡ i) × Path b King i w.to w.taken
  unfolding king_tried jumps
  of_king_tried i w h = of_from b fair (pruned_sound directions (jumps_along b King) back aside enough (λ d. false) (bit_move i i 0) w h) i refl begin

  -- all that is tried stays on the board
  pub tried_on : (w : BitMove) → Member w (all_tried b) → OnBoard w
  unfolding all_tried
  tried_on w h = go (in-cases (concat_map (sequences b Man) (members (pieces b Man))) h)
    where
      go : Member w (concat_map (sequences b Man) (members (pieces b Man))) ⊎ Member w (concat_map (king_tried b) (members (pieces b King))) → OnBoard w
      go (inl m) =
          let r = of_concat_map (sequences b Man) (members (pieces b Man)) m in
          path_on Man r.0 w (of_members (pieces b Man) r.0 r.1) (of_sequences b fair Man r.0 w r.2)
      go (inr m) =
          let r = of_concat_map (king_tried b) (members (pieces b King)) m in
          path_on King r.0 w (of_members (pieces b King) r.0 r.1) (of_king_tried r.0 w r.2)

  -- what it ends with: the longest captures as far as the room goes, and a mark where there are more
  pub searched_is : (room : ℕ) → let l = longest same_bits count (captures b) in
      searched b room ≡ bounded (best count (captures b)) (take room (map numbered l)) (ltb room (length l))
  searched_is room =
      fold_map numbered same_bits count same taking room OnBoard (λ v w p q. same_numbered v w p q) (λ w p. refl) (all_tried b) (bounded 0 [] false)
      (λ w m. absurd (not-nil m)) tried_on
      ∙ ap (renamed numbered) (search_law b fair room)
      ∙ ap (λ (r : List Move). bounded (best count (captures b)) r (ltb room (length (longest same_bits count (captures b)))))
      (map_take numbered room (longest same_bits count (captures b)))
