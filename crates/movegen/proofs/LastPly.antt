-- On a fair board the last ply's number is the depth count 1: the number of legal moves, or 17.
use Rattle.std.specs.Prelude.{Err, Ok}
use mathlib.Core.Path.{◌≡◌, refl, sym, ap, ◌∙◌}
use Prim.Native.Nat.{ℕ, ◌+◌}
use native.Mathlib.Omega.{arith}
use mathlib.Core.Bool.{Bool, true, false, cond}
use mathlib.Core.List.{List, [], ◌∷◌}
use lib.Bits.{bit_and, bit_or, or_comm}
use lib.Dec.{ltb}
use lib.ListN.{length}
use borrow.Author.Tests.{ltb-true, ltb-false}
use Rattle.squares.specs.Sets.{without}
use Rattle.squares.specs.Squares.{all}
use Rattle.squares.specs.Pieces.{other}
use Rattle.squares.specs.declared.piece.Color.{Color}
use Rattle.squares.specs.declared.piece.Color.TheVariants.{White, Black}
use Rattle.squares.specs.declared.piece.PieceKind.TheVariants.{Man, King}
use Rattle.squares.specs.declared.refusal.Refusal.TheVariants.{TooManyMoves}
use Rattle.positions.specs.Acceptance.{Accepted}
use Rattle.positions.specs.Boards.{Board, colored, own, enemy, empty, of_kind, pieces}
use Rattle.positions.specs.declared.moves.Move.{Move}
use Rattle.captures.specs.Lists.{whole_list}
use Rattle.captures.proofs.Whole.{whole_few, whole_many}
use Rattle.quiets.specs.Tests.{has_capture_of}
use Rattle.quiets.specs.Quiets.{all_quiets}
use Rattle.rules.specs.Ordered.{legal}
use Rattle.rules.specs.Rules.{Fair}
use Rattle.rules.proofs.Laws.{fair_of_accepted}
use Rattle.capture_laws.proofs.Stored.{few_len}
use Rattle.quiet_laws.proofs.Laws.{legal_number}
use Rattle.movegen.specs.Counts.{then_count, sum_from, depth_count}
use Rattle.captures.specs.View.{view_of}
use Rattle.movegen.specs.Generate.{seen, capture_moves_of}
use Rattle.movegen.specs.LastPly.{limited_count, listed_count, count_by_sets, last_ply_of}
use Rattle.captures.specs.declared.view.View.{View}
use Rattle.movegen.proofs.Generated.{captures_are, view_seen}

-- ---- depth 1
ones : (l : List Move) (s : ℕ) → sum_from (λ m. Ok 1) s l ≡ Ok (s + length l)
unfolding sum_from then_count
ones [] s = ap Ok (omega arith)
ones (m ∷ l) s = ones l (s + 1) ∙ ap Ok (omega arith)

pub depth_one : (b : Board) → depth_count 1 b ≡ limited_count (length (legal b))
unfolding depth_count limited_count
depth_one b = go (ltb 256 (length (legal b)))
  where
    go : (t : Bool) → elim t [ true ↦ Err TooManyMoves | false ↦ sum_from (λ m. Ok 1) 0 (legal b) ] ≡ cond t (Err TooManyMoves) (Ok (length (legal b)))
    go true = refl
    go false = ones (legal b) 0 ∙ ap Ok (omega arith)

-- ---- the formula
-- the number of a list, where there is room for all
whole_count : (xs : List Move) → listed_count (whole_list xs) ≡ limited_count (length xs)
unfolding listed_count limited_count
whole_count xs = go (ltb 256 (length xs)) refl
  where
    go : (t : Bool) → ltb 256 (length xs) ≡ t → listed_count (whole_list xs) ≡ cond (ltb 256 (length xs)) (Err TooManyMoves) (Ok (length xs))
    go true e = ap listed_count (whole_many xs (ltb-true 256 (length xs) e)) ∙ sym (ap (λ (t : Bool). cond t (Err TooManyMoves) (Ok (length xs))) e)
    go false e =
        let h = ltb-false 256 (length xs) e in
        ap listed_count (whole_few xs h) ∙ ap Ok (few_len xs h) ∙ sym (ap (λ (t : Bool). cond t (Err TooManyMoves) (Ok (length xs))) e)

by_sets : (b : Board) → Fair b → count_by_sets (pieces b Man) (pieces b King) (enemy b) (empty b) b.side ≡ limited_count (length (legal b))
unfolding count_by_sets
by_sets b fair = go (has_capture_of (pieces b Man) (pieces b King) (enemy b) (empty b)) refl
  where
    go : (t : Bool) → has_capture_of (pieces b Man) (pieces b King) (enemy b) (empty b) ≡ t
        → cond t (listed_count (capture_moves_of (pieces b Man) (pieces b King) (enemy b) (empty b))) (limited_count (length (all_quiets (pieces b Man) (pieces b King) (empty b) b.side)))
        ≡ limited_count (length (legal b))
    go true e =
        ap listed_count (captures_are b fair e) ∙ whole_count (legal b)
    go false e = ap limited_count (legal_number b fair e)

-- the sets that the code makes are those of the board
sets_are : (b : Board) → last_ply_of (view_of b) ≡ count_by_sets (pieces b Man) (pieces b King) (enemy b) (empty b) b.side
unfolding last_ply_of pieces of_kind empty
sets_are b = ap (λ (s : ℕ). count_by_sets (without (own b) b.kings) (bit_and (own b) b.kings) (enemy b) (without all s) b.side) (both b.side)
  where
    both : (s : Color) → bit_or (colored s b) (colored (other s) b) ≡ bit_or b.white b.black
    both White = refl
    both Black = or_comm b.black b.white

-- which of the two numbers the formula takes
module _ (men kings them empty : ℕ) (side : Color) where
  pub counts_captures : has_capture_of men kings them empty ≡ true → listed_count (capture_moves_of men kings them empty) ≡ count_by_sets men kings them empty side
  unfolding count_by_sets
  counts_captures e = sym (ap (λ (t : Bool). cond t (listed_count (capture_moves_of men kings them empty)) (limited_count (length (all_quiets men kings empty side)))) e)

  pub counts_quiets : has_capture_of men kings them empty ≡ false → limited_count (length (all_quiets men kings empty side)) ≡ count_by_sets men kings them empty side
  unfolding count_by_sets
  counts_quiets e = sym (ap (λ (t : Bool). cond t (listed_count (capture_moves_of men kings them empty)) (limited_count (length (all_quiets men kings empty side)))) e)

-- the law
pub last_ply : (v : View) → Accepted (seen v) → last_ply_of v ≡ depth_count 1 (seen v)
last_ply v a =
    ap last_ply_of (sym (view_seen v)) ∙ sets_are (seen v) ∙ by_sets (seen v) (fair_of_accepted (seen v) a) ∙ sym (depth_one (seen v))
