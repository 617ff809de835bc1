-- Moves by bits and move records: on the board each is the other's only one.
use mathlib.Core.Path.{◌≡◌, refl, sym, ap, ap₂, ◌∙◌, subst}
use Prim.Native.Nat.{ℕ}
use mathlib.Core.Bool.{Bool, true, ◌&&◌}
use mathlib.Core.List.Memᴰ.{head}
use mathlib.Core.List.Memᴰ.{tail}
use mathlib.Core.List.{List, [], ◌∷◌, map, Memᴰ as Member}
use lib.Dec.{eqb}
use borrow.Author.Tests.{eqb-true, eq-eqb}
use Rattle.positions.specs.declared.moves.Move.{Move}
use Rattle.squares.specs.Squares.{on_board, square_at_bit}
use Rattle.squares.proofs.Bools.{bool_ext}
use Rattle.squares.proofs.Numbers.{square_inj}
use Rattle.positions.specs.Boards.{Board}
use Rattle.positions.specs.Moves.{same}
use Rattle.rules.specs.Ordered.{same_bits, bit_legal, legal}
use Rattle.rules.specs.Rules.{BitMove, numbered, BitLegal, Legal, Fair}
use Rattle.rules.proofs.Agreement.{bits_sound, bits_complete}
use Rattle.rules.proofs.Held.{Distinct, nil, cons}
use Rattle.rules.proofs.Lists.{in_map, of_map}
use Rattle.rules.proofs.Once.{bits_once}
use Rattle.rules.proofs.Places.{legal_goes, from_on, to_on_lem}
use Rattle.rules.proofs.Same.{bits_true, same_refl}

pub record OnBoard (w : BitMove) : Type 0 where
  pub from : on_board w.from ≡ true
  pub to : on_board w.to ≡ true

square_eqb : (i j : ℕ) → on_board i ≡ true → on_board j ≡ true → eqb (square_at_bit i) (square_at_bit j) ≡ eqb i j
square_eqb i j p q =
    bool_ext _ _ (λ e. eq-eqb i j (square_inj i j p q (eqb-true (square_at_bit i) (square_at_bit j) e)))
    (λ e. eq-eqb (square_at_bit i) (square_at_bit j) (ap square_at_bit (eqb-true i j e)))

pub same_numbered : (v w : BitMove) → OnBoard v → OnBoard w → same (numbered v) (numbered w) ≡ same_bits v w
unfolding same same_bits
same_numbered v w p q =
    ap₂ (λ (x y : Bool). x && (y && eqb v.taken w.taken)) (square_eqb v.from w.from p.from q.from)
    (square_eqb v.to w.to p.to q.to)

pub numbered_inj : (v w : BitMove) → OnBoard v → OnBoard w → numbered v ≡ numbered w → v ≡ w
numbered_inj v w p q e = bits_true v w (sym (same_numbered v w p q) ∙ ap (λ (m : Move). same m (numbered w)) e ∙ same_refl (numbered w))

-- ---- images without doubles, where the map keeps apart what stands in the list
map_apart : {A B : Type 0} (f : A → B) (xs : List A) → ((x y : A) → Member x xs → Member y xs → f x ≡ f y → x ≡ y) → Distinct xs → Distinct (map f xs)
map_apart f [] inj d = nil
map_apart f (x ∷ xs) inj (cons h d) =
    cons (λ m. let r = of_map f xs m in h (subst (λ z. Member z xs) (sym (inj x r.0 (head refl) (tail r.1) r.2)) r.1))
    (map_apart f xs (λ y z m n. inj y z (tail m) (tail n)) d)

module _ (b : Board) (fair : Fair b) where
  pub legal_on : (w : BitMove) → BitLegal b w → OnBoard w
  legal_on w h = let g = legal_goes b fair w h in record { from = from_on b fair g; to = to_on_lem b fair g }

  pub legal_distinct : Distinct (legal b)
  unfolding legal
  legal_distinct =
      map_apart numbered (bit_legal b)
      (λ v w m n e. numbered_inj v w (legal_on v (bits_sound b fair v m)) (legal_on w (bits_sound b fair w n)) e) (bits_once b fair)

  pub member_sound : (m : Move) → Member m (legal b) → Legal b m
  unfolding legal
  member_sound m h = let r = of_map numbered (bit_legal b) h in record { by = r.0; is = r.2; legal = bits_sound b fair r.0 r.1 }

  pub member_complete : (m : Move) → Legal b m → Member m (legal b)
  unfolding legal
  member_complete m h = subst (λ z. Member z (map numbered (bit_legal b))) (sym h.is) (in_map numbered (bits_complete b fair h.by h.legal))
