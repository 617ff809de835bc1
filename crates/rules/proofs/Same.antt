-- Moves by bits are compared by their three parts.
use mathlib.Core.Path.{◌≡◌, refl, ap₂}
use mathlib.Core.Bool.{Bool, true, ◌&&◌}
use mathlib.Core.List.{List, Memᴰ as Member}
use mathlib.Core.Logic.{◌↔◌}
use lib.Dec.{eqb}
use borrow.Author.Tests.{eqb-true, eq-eqb}
use Rattle.positions.specs.declared.moves.Move.{Move}
use Rattle.squares.proofs.Bools.{and_left, and_right, and_both}
use Rattle.positions.specs.Moves.{move, same}
use Rattle.rules.specs.Ordered.{same_bits, listed}
use Rattle.rules.specs.Rules.{BitMove, bit_move}
use Rattle.rules.proofs.Held.{contains_member, member_contains}

pub bits_refl : (m : BitMove) → same_bits m m ≡ true
unfolding same_bits
bits_refl m = ap₂ (λ (x y : Bool). x && y) (eq-eqb m.from m.from refl)
    (ap₂ (λ (x y : Bool). x && y) (eq-eqb m.to m.to refl) (eq-eqb m.taken m.taken refl))

pub bits_true : (m n : BitMove) → same_bits m n ≡ true → m ≡ n
unfolding same_bits
bits_true m n e =
    let rest : (eqb m.to n.to && eqb m.taken n.taken) ≡ true = and_right (eqb m.from n.from) _ e in
    let from : m.from ≡ n.from = eqb-true _ _ (and_left _ _ e) in
    let to : m.to ≡ n.to = eqb-true _ _ (and_left _ _ rest) in
    let taken : m.taken ≡ n.taken = eqb-true _ _ (and_right (eqb m.to n.to) _ rest) in
    λ i. bit_move (from i) (to i) (taken i)

-- and so are move records
pub same_refl : (m : Move) → same m m ≡ true
unfolding same
same_refl m = and_both _ _ (eq-eqb m.from m.from refl) (and_both _ _ (eq-eqb m.to m.to refl) (eq-eqb m.captured m.captured refl))

pub same_true : (m n : Move) → same m n ≡ true → m ≡ n
unfolding same
same_true m n e =
    let rest : (eqb m.to n.to && eqb m.captured n.captured) ≡ true = and_right (eqb m.from n.from) _ e in
    let from : m.from ≡ n.from = eqb-true _ _ (and_left _ _ e) in
    let to : m.to ≡ n.to = eqb-true _ _ (and_left _ _ rest) in
    let captured : m.captured ≡ n.captured = eqb-true _ _ (and_right (eqb m.to n.to) _ rest) in
    λ i. move (from i) (to i) (captured i)

-- a move is in a list
pub listed_member : (l : List Move) (m : Move) → (listed l m ≡ true) ↔ Member m l
unfolding listed
listed_member l m = (contains_member same same_refl same_true l m, member_contains same same_refl same_true l m)
