-- What `Members` yields, each below 64, and the exclusive or over what it yields.
use Rattle.std.proofs.Common.{◌≡◌, ℕ, zero, suc, ◌-◌, ◌^◌, ◌<◌, List, [], ◌∷◌, sym, refl, ap, ◌∙◌, arith}
use lib.Bits.{bit_and, bit_xor, and_le_l, xor_comm, xor_zero_l, xor_zero_r}
use Rattle.std.proofs.lemmas.Iterator.{YieldsList}
use Rattle.std.specs.Iterator.{AlwaysYields, Yields}
use Rattle.std.specs.List.{fold}
use Rattle.std.specs.Prelude.{Some}
use Rattle.squares.specs.Sets.{lowest, members}
use Rattle.squares.specs.Steps.{member_steps}
use Rattle.squares.specs.Folds.{xor_over}
use Rattle.squares.specs.Keys.{block}
use Rattle.squares.specs.declared.bitboard.Members.{Members}
use Rattle.squares.specs.declared.piece.Color.{Color}
use Rattle.squares.specs.declared.piece.Color.TheVariants.{White, Black}
use Rattle.squares.specs.declared.piece.PieceKind.{PieceKind}
use Rattle.squares.specs.declared.piece.PieceKind.TheVariants.{Man, King}
use Rattle.squares.proofs.Folds.{xor_next, xor_none, xor_assoc}
use Rattle.squares.proofs.Members.{members_cons, members_none, lowest_lt}

-- a bit that comes is below 64
pub bit_below : (xs : List ℕ) (s t u : Members) (x : ℕ) → s.0 < 2 ^ 64 → Yields member_steps s xs t → member_steps t (Some x) u → x < 64
bit_below [] s t u x h y e = let q : t.0 < 2 ^ 64 = omega (arith, h, ap (λ (m : Members). m.0) y) in omega (arith, e.1, lowest_lt 64 t.0 e.0 q)
bit_below (z ∷ xs) s t u x h y e = bit_below xs y.0 t u x (omega (arith, h, y.1.2, and_le_l s.0 (s.0 - 1))) y.2 e

pub block_below : (c : Color) (k : PieceKind) → block c k < 4
block_below White Man = omega arith
block_below Black Man = omega arith
block_below White King = omega arith
block_below Black King = omega arith

-- the first member and the others
record Split (s x : ℕ) (xs : List ℕ) : Type 0 where
  pub some : 0 < s
  pub first : x ≡ lowest s
  pub others : members (bit_and s (s - 1)) ≡ xs

split : (s x : ℕ) (xs : List ℕ) → s < 2 ^ 64 → members s ≡ x ∷ xs → Split s x xs
split zero x xs h e = absurd (cc (e, members_none))
split (suc n) x xs h e =
    let p : 0 < suc n = omega arith in
    let q : x ∷ xs ≡ lowest (suc n) ∷ members (bit_and (suc n) (suc n - 1)) = sym e ∙ members_cons (suc n) p h in
    record { some = p; first = cc q; others = cc q }

none : (s : ℕ) → s < 2 ^ 64 → members s ≡ [] → s ≡ 0
none zero h e = refl
none (suc n) h e = let p : 0 < suc n = omega arith in absurd (cc (e, members_cons (suc n) p h))

come : (l : List ℕ) (s : Members) → s.0 < 2 ^ 64 → members s.0 ≡ l → AlwaysYields member_steps (λ x. x) s l
come [] s h e = λ x j k. let z = none s.0 h e in absurd (omega (arith, k.0, z))
come (x ∷ xs) s h e =
    let p = split s.0 x xs h e in (
      λ j k. absurd (omega (arith, k.0, p.some)),
      λ y j k. (k.1 ∙ sym p.first, come xs j (omega (arith, h, k.2, and_le_l s.0 (s.0 - 1))) (ap members k.2 ∙ p.others)),
    )

pub members_come : {s : Members} (m : ℕ) → s.0 ≡ m → m < 2 ^ 64 → YieldsList member_steps (λ x. x) s (members m)
members_come {s} m e h = record { runs = come (members m) s (omega (arith, e, h)) (ap members e) }

module _ (f : ℕ → ℕ) where
  all_in : (l : List ℕ) (s a : ℕ) → s < 2 ^ 64 → members s ≡ l → fold (λ k i. bit_xor k (f i)) a l ≡ bit_xor a (xor_over f s)
  all_in [] s a h e = sym (ap (λ (n : ℕ). bit_xor a (xor_over f n)) (none s h e) ∙ ap (bit_xor a) (xor_none f) ∙ xor_zero_r a)
  all_in (x ∷ xs) s a h e =
      let p = split s x xs h e in
      let rest = bit_and s (s - 1) in
      all_in xs rest (bit_xor a (f x)) (omega (arith, h, and_le_l s (s - 1))) p.others
      ∙ xor_assoc a (f x) (xor_over f rest)
      ∙ ap (bit_xor a) (ap (λ (n : ℕ). bit_xor (f n) (xor_over f rest)) p.first ∙ xor_comm (f (lowest s)) (xor_over f rest) ∙ sym (xor_next f s p.some h))

  pub xor_members : (s : ℕ) → s < 2 ^ 64 → fold (λ k i. bit_xor k (f i)) 0 (members s) ≡ xor_over f s
  xor_members s h = all_in (members s) s 0 h refl ∙ xor_zero_l (xor_over f s)
