-- Moves put in one by one fill the list: it holds the first 256 of them, then blanks.
use Rattle.std.specs.Prelude.{Option, Some, None, Result, Ok, Err}
use mathlib.Core.Path.{◌≡◌, refl, sym, ap, ap₂, ◌∙◌}
use Prim.Native.Nat.{ℕ, ◌+◌, ◌≤◌, ◌<◌, min}
use native.Mathlib.Omega.{arith}
use mathlib.Core.Bool.{Bool, true, false, cond}
use mathlib.Core.List.{List, [], ◌∷◌, ◌++◌, append_assoc, append-nil}
use lib.ListN.{length, take, set, replicate, length-append}
use lib.Seq.{take-append-le}
use lib.Dec.{ltb}
use borrow.Author.Tests.{ltb-true, ltb-false, lt-ltb, le-ltb}
use Rattle.positions.specs.declared.moves.Move.{Move}
use Rattle.captures.specs.declared.moves.MoveList.{MoveList}
use Rattle.captures.specs.Lists.{blank, no_moves, list_of, kept, put_of, push_of, whole_list}
use Rattle.captures.proofs.Stored.{store}
use Rattle.captures.proofs.Whole.{none_listed, whole_few, whole_many}
use Rattle.squares.specs.declared.piece.Color.{Color}
use Rattle.captures.specs.Walks.{up_to}
use Rattle.quiets.specs.Tests.{forward_of}
use Rattle.quiets.specs.Quiets.{then_put, put_all, men_steps, men_quiets, king_quiets, all_quiets, quiet_moves_of}
use Rattle.quiets.proofs.Forward.{plus_zero}
use Rattle.quiets.proofs.Added.{put_on, put_off}

-- ---- one more
long : (xs : List Move) (m : Move) → length (xs ++ (m ∷ [])) ≡ length xs + 1
long xs m = length-append xs (m ∷ [])

-- the list of these moves, with the mark whether there are more than 256
abbrev pub marked_list : List Move → Result MoveList MoveList
marked_list xs = cond (ltb 256 (length xs)) (Err (list_of xs)) (Ok (list_of xs))

put_more : (xs : List Move) (m : Move) → length xs < 256 → put_of (list_of xs) m ≡ Ok (list_of (xs ++ (m ∷ [])))
unfolding put_of push_of list_of
put_more xs m h =
    let n : min 256 (length xs) ≡ length xs = omega arith in
    let k : length xs + 1 ≡ min 256 (length (xs ++ (m ∷ []))) = omega (arith, long xs m) in
    ap (λ (n : ℕ). put_of (record { moves = take 256 (xs ++ replicate 256 blank); len = n }) m) n
    ∙ ap (λ (b : Bool). cond b (Ok (cond b (record { moves = set (take 256 (xs ++ replicate 256 blank)) (length xs) m; len = length xs + 1 }) (record { moves = take 256 (xs ++ replicate 256 blank); len = length xs }))) (Err (record { moves = take 256 (xs ++ replicate 256 blank); len = length xs })))
    (lt-ltb (length xs) 256 h)
    ∙ ap₂ (λ (l : List Move) (n : ℕ). Ok (record { moves = l; len = n })) (store blank 256 256 xs m h (omega arith)) k

put_full : (xs : List Move) (m : Move) → length xs ≡ 256 → put_of (list_of xs) m ≡ Err (list_of xs)
unfolding put_of list_of
put_full xs m h =
    let n : min 256 (length xs) ≡ 256 = omega arith in
    ap (λ (b : Bool). cond b (Ok (push_of (list_of xs) m)) (Err (list_of xs))) (ap (λ (n : ℕ). ltb n 256) n)

-- what comes after 256 moves is not listed
only_first : (xs ys : List Move) → length xs ≡ 256 → list_of (xs ++ ys) ≡ list_of xs
unfolding list_of
only_first xs ys h =
    ap₂ (λ (l : List Move) (n : ℕ). record { moves = l; len = n })
    (ap (take 256) (append_assoc xs ys (replicate 256 blank)) ∙ take-append-le 256 xs (ys ++ replicate 256 blank) (omega (arith, h))
    ∙ sym (take-append-le 256 xs (replicate 256 blank) (omega (arith, h))))
    (omega (arith, h, length-append xs ys))

fold_filled : (ys xs : List Move) → length xs ≤ 256 → put_all (list_of xs) ys ≡ marked_list (xs ++ ys)
unfolding put_all
fold_filled [] xs h = sym (ap marked_list (append-nil xs) ∙ ap (λ (b : Bool). cond b (Err (list_of xs)) (Ok (list_of xs))) (le-ltb 256 (length xs) h))
fold_filled (y ∷ ys) xs h = go (ltb (length xs) 256) refl (fold_filled ys (xs ++ (y ∷ [])))
  where
    go : (b : Bool) → ltb (length xs) 256 ≡ b → (length (xs ++ (y ∷ [])) ≤ 256 → put_all (list_of (xs ++ (y ∷ []))) ys ≡ marked_list ((xs ++ (y ∷ [])) ++ ys))
        → then_put (λ k. put_all k ys) (put_of (list_of xs) y) ≡ marked_list (xs ++ (y ∷ ys))
    go true e ih =
        let lt = ltb-true (length xs) 256 e in
        ap (then_put (λ k. put_all k ys)) (put_more xs y lt) ∙ ih (omega (arith, long xs y)) ∙ ap marked_list (append_assoc xs (y ∷ []) ys)
    go false e ih =
        let ge = ltb-false (length xs) 256 e in
        let full : length xs ≡ 256 = omega (arith, h, ge) in
        ap (then_put (λ k. put_all k ys)) (put_full xs y full) ∙ ap Err (sym (only_first xs (y ∷ ys) full))
        ∙ sym (ap (λ (b : Bool). cond b (Err (list_of (xs ++ (y ∷ ys)))) (Ok (list_of (xs ++ (y ∷ ys))))) (lt-ltb 256 (length (xs ++ (y ∷ ys))) (omega (arith, full, length-append xs (y ∷ ys)))))

-- from the list without moves
pub fill_law : (xs : List Move) → put_all no_moves xs ≡ marked_list xs
fill_law xs = ap (λ (l : MoveList). put_all l xs) none_listed ∙ fold_filled xs [] (omega arith)

-- ---- all quiet moves: the men's in two directions, then the kings'
module _ (men kings empty : ℕ) (side : Color) (l : MoveList) where
  abbrev first : List Move
  first = men_steps men empty (forward_of side)

  abbrev second : List Move
  second = men_steps men empty (forward_of side + 1)

  all_put : put_all l ((first ++ second) ++ king_quiets kings empty) ≡ put_all l (all_quiets men kings empty side)
  unfolding all_quiets men_quiets up_to
  all_put = ap (λ (d : ℕ). put_all l ((men_steps men empty d ++ second) ++ king_quiets kings empty)) (sym (plus_zero side))

  pub first_full : (a : MoveList) → Err a ≡ put_all l first → Err a ≡ put_all l (all_quiets men kings empty side)
  first_full a e = sym (put_off l (first ++ second) (king_quiets kings empty) a (sym (put_off l first second a e))) ∙ all_put

  pub second_full : (a b : MoveList) → Ok a ≡ put_all l first → Err b ≡ put_all a second → Err b ≡ put_all l (all_quiets men kings empty side)
  second_full a b d e = sym (put_off l (first ++ second) (king_quiets kings empty) b (e ∙ sym (put_on l first second a d))) ∙ all_put

  pub kings_last : (a b : MoveList) (r : Result MoveList MoveList) → Ok a ≡ put_all l first → Ok b ≡ put_all a second → r ≡ put_all b (king_quiets kings empty)
      → r ≡ put_all l (all_quiets men kings empty side)
  kings_last a b r c d e = e ∙ sym (put_on l (first ++ second) (king_quiets kings empty) b (d ∙ sym (put_on l first second a c))) ∙ all_put

-- ---- the list that the empty one becomes
module _ (men kings empty : ℕ) (side : Color) (l : MoveList) where
  abbrev all : List Move
  all = all_quiets men kings empty side

  pub all_room : Ok l ≡ put_all no_moves all → Some l ≡ quiet_moves_of men kings empty side
  unfolding quiet_moves_of
  all_room e = go (ltb 256 (length all)) refl (e ∙ fill_law all)
    where
      go : (b : Bool) → ltb 256 (length all) ≡ b → Ok l ≡ cond b (Err (list_of all)) (Ok (list_of all)) → Some l ≡ whole_list all
      go true t q = absurd (let z : ◌≡◌ {A = ℕ} 0 1 = cc in omega arith)
      go false t q =
          let h = ltb-false 256 (length all) t in
          let k : l ≡ list_of all = cc in
          ap Some k ∙ sym (whole_few all h)

  pub no_room : Err l ≡ put_all no_moves all → None ≡ quiet_moves_of men kings empty side
  unfolding quiet_moves_of
  no_room e = go (ltb 256 (length all)) refl (e ∙ fill_law all)
    where
      go : (b : Bool) → ltb 256 (length all) ≡ b → Err l ≡ cond b (Err (list_of all)) (Ok (list_of all)) → None ≡ whole_list all
      go true t q = sym (whole_many all (ltb-true 256 (length all) t))
      go false t q = absurd (let z : ◌≡◌ {A = ℕ} 0 1 = cc in omega arith)

-- with room or without, it has the first of them
pub list_filled : (l k : MoveList) (r : Option Unit) (xs : List Move) → l ≡ no_moves → kept k r ≡ put_all l xs → k ≡ list_of xs
list_filled l k r xs e q = go (ltb 256 (length xs)) r (q ∙ ap (λ (a : MoveList). put_all a xs) e ∙ fill_law xs)
  where
    go : (b : Bool) (r : Option Unit) → kept k r ≡ cond b (Err (list_of xs)) (Ok (list_of xs)) → k ≡ list_of xs
    go true None p = cc
    go true (Some u) p = absurd (let z : ◌≡◌ {A = ℕ} 0 1 = cc in omega arith)
    go false None p = absurd (let z : ◌≡◌ {A = ℕ} 0 1 = cc in omega arith)
    go false (Some u) p = cc
