-- The book's play, case by case.
use mathlib.Core.Path.{◌≡◌, refl, ap, ap₂, ◌∙◌}
use Prim.Native.Nat.{ℕ}
use native.Mathlib.Omega.{arith}
use mathlib.Core.Bool.{Bool, true, false, not, cond}
use lib.Dec.{eqb, ltb}
use lib.ListN.{length}
use Rattle.positions.specs.declared.moves.Move.{Move}
use Rattle.rules.specs.Ordered.{legal, listed}
use Rattle.games.specs.Book.{Book, standing, book_outcome, over, on_the_board, book_answer, book_played, book_next}

module _ (b : Book) (m : Move) where
  abbrev pub met : Bool → Bool → Bool → Bool → ℕ
  met q o n l = cond (not q) 11 (cond o 14 (cond n 17 (cond (not l) 15 0)))

  pub meets : (q o n l : Bool) → on_the_board m ≡ q → over (book_outcome b) ≡ o → ltb 256 (length (legal (standing b))) ≡ n → listed (legal (standing b)) m ≡ l
      → book_answer b m ≡ met q o n l
  unfolding book_answer
  meets q o n l e f h k = ap₂ (λ (x y : Bool). met x y (ltb 256 (length (legal (standing b)))) (listed (legal (standing b)) m)) e f ∙ ap₂ (λ (x y : Bool). met q o x y) h k

  pub next_of : (t : Bool) → eqb (book_answer b m) 0 ≡ t → book_next b m ≡ cond t (book_played b m) b
  unfolding book_next
  next_of t e = ap (λ (t : Bool). cond t (book_played b m) b) e

  -- an accepted record is one of the legal moves
  pub accepted_listed : book_answer b m ≡ 0 → listed (legal (standing b)) m ≡ true
  unfolding book_answer
  accepted_listed e = go (on_the_board m) (over (book_outcome b)) (ltb 256 (length (legal (standing b)))) (listed (legal (standing b)) m) e
    where
      go : (q o n l : Bool) → ◌≡◌ {A = ℕ} (cond (not q) 11 (cond o 14 (cond n 17 (cond (not l) 15 0)))) 0 → l ≡ true
      go q o n true z = refl
      go false o n false z = absurd (omega arith)
      go true true n false z = absurd (omega arith)
      go true false true false z = absurd (omega arith)
      go true false false false z = absurd (omega arith)
