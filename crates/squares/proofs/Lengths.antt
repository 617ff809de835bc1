-- Lengths of lists: a set has as many members as its list of members.
use Rattle.std.proofs.Common.{◌≡◌, ℕ, zero, suc, ◌+◌, ◌/◌, ◌%◌, Bool, true, false, cond, eqb, List, ◌∷◌, map, length, sym, refl, ◌∙◌, mod-lt, arith, eqb-true}
use lib.ListN.{length-map}
use lib.Count.{ones_in}
use borrow.Author.Tests.{eqb-false}
use Rattle.squares.specs.Sets.{size, members_from, members}
use Rattle.squares.proofs.Pointwise.{two_pos}

members_count : (n i s : ℕ) → length (members_from n i s) ≡ ones_in n s
unfolding members_from ones_in
members_count zero i s = refl
members_count (suc n) i s = go (members_count n (suc i) (s / 2)) (eqb (s % 2) 1) refl
  where
    go : length (members_from n (suc i) (s / 2)) ≡ ones_in n (s / 2) → (b : Bool) → eqb (s % 2) 1 ≡ b
        → length (cond b (i ∷ members_from n (suc i) (s / 2)) (members_from n (suc i) (s / 2))) ≡ s % 2 + ones_in n (s / 2)
    go ih true e = let one : s % 2 ≡ 1 = eqb-true (s % 2) 1 e in omega arith
    go ih false e = let none = eqb-false (s % 2) 1 e in let z : s % 2 ≡ 0 = omega (arith, none, mod-lt s two_pos) in omega arith

pub members_length : (s : ℕ) → length (members s) ≡ size s
unfolding members size
members_length s = members_count 64 0 s

-- the length of an array in a struct
pub length_of_map : (A B : Type 0) (f : A → B) (l : List A) (n : ℕ) → length (map f l) ≡ n → length l ≡ n
length_of_map A B f l n p = sym (length-map l f) ∙ p
