-- The quiet man moves as the code finds them: the members of a shifted set, rising, are the shifted members.
use mathlib.Core.Path.{◌≡◌, refl, sym, ap, ap₂, ◌∙◌, subst}
use Prim.Native.Nat.{ℕ, suc, ◌^◌, ◌<◌}
use native.Mathlib.Omega.{arith}
use mathlib.Core.Bool.{Bool, true, false, ◌&&◌}
use mathlib.Core.List.Memᴰ.{head}
use mathlib.Core.List.Memᴰ.{tail}
use mathlib.Core.List.{List, [], ◌∷◌, map, Memᴰ as Member}
use lib.Bits.{bit_and}
use Rattle.squares.specs.declared.piece.PieceKind.TheVariants.{Man}
use Rattle.squares.specs.Directions.{Direction, up_left, up_right, down_left, down_right, next, opposite, shifted}
use Rattle.squares.specs.Sets.{has, members}
use Rattle.squares.proofs.Bools.{and_left, and_right}
use Rattle.squares.proofs.Members.{of_members, in_members, rising, members_rising}
use Rattle.squares.proofs.Pointwise.{has_and, member_lt}
use Rattle.squares.proofs.Shifts.{next_back, next_forth, has_shifted}
use Rattle.positions.specs.Boards.{Board, pieces, empty}
use Rattle.rules.proofs.Boards.{empty_lt, piece_lt, men_lt}
use Rattle.rules.specs.Lists.{keep}
use Rattle.rules.specs.Ordered.{man_steps}
use Rattle.rules.specs.Rules.{BitMove, bit_move, Fair}
use Rattle.rules.proofs.Lists.{in_map, of_map, keep_yes, keep_no, in_keep, of_keep}
use Rattle.squares.proofs.Rising.{rising_head, rising_tail, rising_cons, rising_lower, rising_map, rising_ext}

keep_rising : (p : ℕ → Bool) (n : ℕ) (l : List ℕ) → rising n l ≡ true → rising n (keep p l) ≡ true
unfolding keep
keep_rising p n [] e = e
keep_rising p n (x ∷ xs) e = go (p x) refl (keep_rising p (suc x) xs (rising_tail n x xs e))
  where
    go : (t : Bool) → p x ≡ t → rising (suc x) (keep p xs) ≡ true → rising n (keep p (x ∷ xs)) ≡ true
    go true q r = rw (keep_yes p x xs q) (rising_cons n x (keep p xs) (rising_head n x xs e) r)
    go false q r = rw (keep_no p x xs q) (rising_lower n (suc x) (keep p xs) (omega (arith, rising_head n x xs e)) r)

next_mono : (d : Direction) (i j : ℕ) → j < 54 → next d i < 54 → next d j < 54 → i < j → next d i < next d j
next_mono up_left i j h p q l = omega arith
next_mono up_right i j h p q l = omega arith
next_mono down_left i j h p q l = omega arith
next_mono down_right i j h p q l = omega arith

module _ (d : Direction) (s e : ℕ) (hs : s < 2 ^ 54) (he : e < 2 ^ 54) where
  left_in : (z : ℕ) → Member z (members (bit_and (shifted d s) e)) → Member z (map (next d) (keep (λ i. has e (next d i)) (members s)))
  left_in z m =
      let both = sym (has_and (shifted d s) e z) ∙ of_members _ z m in
      let in_e : has e z ≡ true = and_right (has (shifted d s) z) (has e z) both in
      let l = member_lt 54 e z he in_e in
      let i = next (opposite d) z in
      let at : next d i ≡ z = next_forth d z (omega arith) in
      let in-s : has s i ≡ true = sym (has_shifted d s z (omega arith) (omega arith)) ∙ and_left (has (shifted d s) z) (has e z) both in
      subst (λ u. Member u (map (next d) (keep (λ i. has e (next d i)) (members s)))) at
      (in_map (next d) (in_keep (λ i. has e (next d i)) (in_members s i (omega (arith, member_lt 54 s i hs in-s)) in-s) (ap (has e) at ∙ in_e)))

  right_in : (z : ℕ) → Member z (map (next d) (keep (λ i. has e (next d i)) (members s))) → Member z (members (bit_and (shifted d s) e))
  right_in z m =
      let r = of_map (next d) (keep (λ i. has e (next d i)) (members s)) m in
      let q = of_keep (λ i. has e (next d i)) (members s) r.1 in
      let in-s = of_members s r.0 q.0 in
      let l = member_lt 54 s r.0 hs in-s in
      let ez : has e z ≡ true = ap (has e) r.2 ∙ q.1 in
      let lz = member_lt 54 e z he ez in
      let back : next (opposite d) z ≡ r.0 = ap (next (opposite d)) r.2 ∙ next_back d r.0 (omega arith) in
      in_members (bit_and (shifted d s) e) z (omega arith)
      (has_and (shifted d s) e z ∙ ap₂ (λ (x y : Bool). x && y) (has_shifted d s z (omega arith) (omega arith) ∙ ap (has s) back ∙ in-s) ez)

  -- `for to in men.shift(dir) & empty`
  pub shifted_members : members (bit_and (shifted d s) e) ≡ map (next d) (keep (λ i. has e (next d i)) (members s))
  shifted_members =
      rising_ext 0 _ _ (members_rising (bit_and (shifted d s) e))
      (rising_map (next d) 0 _ (keep_rising (λ i. has e (next d i)) 0 (members s) (members_rising s)) 0 (λ x m. omega arith) mono) left_in right_in
    where
      mono : (x y : ℕ) → Member x (keep (λ i. has e (next d i)) (members s)) → Member y (keep (λ i. has e (next d i)) (members s)) → x < y
          → next d x < next d y
      mono x y m n l =
          let p = of_keep (λ i. has e (next d i)) (members s) m in
          let q = of_keep (λ i. has e (next d i)) (members s) n in
          next_mono d x y (member_lt 54 s y hs (of_members s y q.0)) (member_lt 54 e (next d x) he p.1) (member_lt 54 e (next d y) he q.1) l

-- the moves that the code pushes for a direction
map_back : (d : Direction) (xs : List ℕ) → ((i : ℕ) → Member i xs → i < 64)
    → map (λ (z : ℕ). bit_move (next (opposite d) z) z 0) (map (next d) xs) ≡ map (λ (i : ℕ). bit_move i (next d i) 0) xs
map_back d [] h = refl
map_back d (i ∷ xs) h = ap₂ (λ (u : ℕ) (l : List BitMove). bit_move u (next d i) 0 ∷ l) (next_back d i (h i (head refl)))
    (map_back d xs (λ j m. h j (tail m)))

pub man_steps_code : (b : Board) → Fair b → (d : Direction)
    → map (λ (z : ℕ). bit_move (next (opposite d) z) z 0) (members (bit_and (shifted d (pieces b Man)) (empty b))) ≡ man_steps b d
unfolding man_steps
man_steps_code b fair d =
    ap (map (λ (z : ℕ). bit_move (next (opposite d) z) z 0)) (shifted_members d (pieces b Man) (empty b) (men_lt b fair) (empty_lt b))
    ∙ map_back d (keep (λ i. has (empty b) (next d i)) (members (pieces b Man))) small
  where
    small : (i : ℕ) → Member i (keep (λ i. has (empty b) (next d i)) (members (pieces b Man))) → i < 64
    small i m = omega (arith, piece_lt b fair Man i (of_members (pieces b Man) i (of_keep (λ i. has (empty b) (next d i)) (members (pieces b Man)) m).0))
