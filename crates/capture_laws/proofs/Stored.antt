-- The list of moves that its array holds: the moves and then blanks.
use mathlib.Core.Path.{◌≡◌, refl, ap, ap₂, sym, ◌∙◌}
use Prim.Native.Nat.{ℕ, ◌≤◌}
use mathlib.Core.Bool.{Bool, true, false}
use native.Mathlib.Omega.{arith}
use mathlib.Core.List.{List}
use lib.ListN.{length, take, length-take, replicate}
use lib.Seq.{take-append-le, take_all, take-take}
use lib.Dec.{ltb}
use borrow.Author.Tests.{ltb-true, ltb-false}
use Rattle.positions.specs.declared.moves.Move.{Move}
use Rattle.captures.specs.declared.moves.MoveList.{MoveList}
use Rattle.captures.specs.Lists.{blank, entries, list_of}
use Rattle.captures.proofs.Stored.{filled, front}

-- where all fit: their number, and that they come first
pub few_len : (xs : List Move) → length xs ≤ 256 → (list_of xs).len ≡ length xs
unfolding list_of
few_len xs h = omega arith

pub few_entries : (xs : List Move) → length xs ≤ 256 → entries (list_of xs) ≡ xs
unfolding list_of
few_entries xs h = front blank 256 xs h

-- what does not fit is not listed
pub cut_listed : (xs : List Move) → list_of (take 256 xs) ≡ list_of xs
unfolding list_of
cut_listed xs = ap₂ list (go (ltb (length xs) 256) refl) (omega (arith, length-take 256 xs))
  where
    list : List Move → ℕ → MoveList
    list ms n = record { moves = ms; len = n }

    go : (t : Bool) → ltb (length xs) 256 ≡ t → filled blank 256 (take 256 xs) ≡ filled blank 256 xs
    go true e =
        let h = ltb-true (length xs) 256 e in
        ap (filled blank 256) (take_all 256 xs (omega arith))
    go false e =
        let h = ltb-false (length xs) 256 e in
        take-append-le 256 (take 256 xs) (replicate 256 blank) (omega (arith, length-take 256 xs)) ∙ take-take 256 256 xs (omega arith)
        ∙ sym (take-append-le 256 xs (replicate 256 blank) h)

pub cut_entries : (xs : List Move) → (list_of (take 256 xs)).moves ≡ (list_of xs).moves
cut_entries xs = ap (λ l. l.moves) (cut_listed xs)
