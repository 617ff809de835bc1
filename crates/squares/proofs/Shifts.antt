-- What a shift does to a set, to one square of the board and at the edge.
use Rattle.std.proofs.Common.{◌≡◌, ℕ, ◌+◌, ◌-◌, ◌*◌, ◌%◌, ◌^◌, ◌<◌, ◌≤◌, Bool, true, false, cond, not, ◌&&◌, ◌||◌, eqb, ltb, sym, refl, ap, ◌∙◌, mod-lt, arith, lit<, pow_pos, ltb-false, ltb-true, eq-eqb, eqb-true}
use mathlib.Core.Bool.{and-true, and-false}
use lib.Bits.{bit_and, and_le_r}
use lib.Pow.{pow-lt, shr_le}
use Rattle.squares.specs.Sets.{has}
use Rattle.squares.specs.Squares.{on_board, row_of, file_of}
use Rattle.squares.specs.Directions.{Direction, up_left, up_right, down_left, down_right, places, next, opposite, index_of, direction_at, shifted}
use Rattle.squares.specs.Computed.{computed}
use Rattle.squares.proofs.Bools.{imp, imp_elim, iff, iff_eq, and_left, and_right, and_both, tested, bool_ext}
use Rattle.squares.proofs.Below.{below, below_at}
use Rattle.squares.proofs.Pointwise.{has_shr, has_shl, has_shl_low, has_mod, has_past, has_and, has_bit, has_zero, ext}
use Rattle.squares.proofs.Numbers.{on_lt}

-- ---- directions
pub direction_index : (d : Direction) → direction_at (index_of d) ≡ d
direction_index up_left = refl
direction_index up_right = refl
direction_index down_left = refl
direction_index down_right = refl

-- the opposite of the direction at index d stands at 3 - d
pub opposite_index : (d : Direction) → index_of (opposite d) ≡ 3 - index_of d
opposite_index up_left = refl
opposite_index up_right = refl
opposite_index down_left = refl
opposite_index down_right = refl

pub opposite_twice : (d : Direction) → opposite (opposite d) ≡ d
opposite_twice up_left = refl
opposite_twice up_right = refl
opposite_twice down_left = refl
opposite_twice down_right = refl

pub next_lt : (d : Direction) (i : ℕ) → next d i < 64
next_lt d i = mod-lt (i + places d) (lit< tt)

-- a step and a step back
pub next_back : (d : Direction) (i : ℕ) → i < 64 → next (opposite d) (next d i) ≡ i
next_back up_left i h = omega arith
next_back up_right i h = omega arith
next_back down_left i h = omega arith
next_back down_right i h = omega arith

pub next_forth : (d : Direction) (j : ℕ) → j < 64 → next d (next (opposite d) j) ≡ j
next_forth up_left j h = omega arith
next_forth up_right j h = omega arith
next_forth down_left j h = omega arith
next_forth down_right j h = omega arith

-- ---- a set
pub shifted_lt : (d : Direction) (s : ℕ) → s < 2 ^ 64 → shifted d s < 2 ^ 64
unfolding shifted
shifted_lt up_left s h = omega (arith, shr_le s 6)
shifted_lt up_right s h = omega (arith, shr_le s 5)
shifted_lt down_left s h = mod-lt (s * 2 ^ 5) (pow_pos 64)
shifted_lt down_right s h = mod-lt (s * 2 ^ 6) (pow_pos 64)

-- down by k places: what stood k bits lower, and nothing in the lowest k bits
down : (k s j : ℕ) → k ≤ 6 → s < 2 ^ 58 → j < 58 → has ((s * 2 ^ k) % 2 ^ 64) j ≡ has s ((j + (64 - k)) % 64)
down k s j l h m = has_mod 64 (s * 2 ^ k) j (omega arith) ∙ go (ltb j k) refl
  where
    go : (t : Bool) → ltb j k ≡ t → has (s * 2 ^ k) j ≡ has s ((j + (64 - k)) % 64)
    go true e =
        let low : j < k = ltb-true j k e in
        let at : (j + (64 - k)) % 64 ≡ j + (64 - k) = omega arith in
        has_shl_low s k j low ∙ sym (ap (has s) at ∙ has_past 58 s (j + (64 - k)) h (omega arith))
    go false e =
        let high : k ≤ j = ltb-false j k e in
        let at : (j + (64 - k)) % 64 ≡ j - k = omega arith in
        let back : j ≡ k + (j - k) = omega arith in
        ap (has (s * 2 ^ k)) back ∙ has_shl s k (j - k) ∙ ap (has s) (sym at)

-- the shift law: what stands at j came from the bit next to it on the other side.
-- A set of squares lies below 2 ^ 54.
pub has_shifted : (d : Direction) (s j : ℕ) → s < 2 ^ 58 → j < 58 → has (shifted d s) j ≡ has s (next (opposite d) j)
unfolding shifted
has_shifted up_left s j h l = let e : (j + 6) % 64 ≡ 6 + j = omega arith in has_shr s 6 j ∙ ap (has s) (sym e)
has_shifted up_right s j h l = let e : (j + 5) % 64 ≡ 5 + j = omega arith in has_shr s 5 j ∙ ap (has s) (sym e)
has_shifted down_left s j h l = down 5 s j (omega arith) h l
has_shifted down_right s j h l = down 6 s j (omega arith) h l

-- ---- one square
-- what the code asks of a one-bit set: the square next to bit i, where m has it, else nothing
module _ (d : Direction) (i : ℕ) (l : i < 54) where
  came : (j : ℕ) → j < 58 → has (shifted d (2 ^ i)) j ≡ eqb j (next d i)
  came j k =
      has_shifted d (2 ^ i) j (pow-lt {i = i} {j = 58} (omega arith)) k ∙ has_bit i (next (opposite d) j)
      ∙ bool_ext _ _
      (λ e. eq-eqb j (next d i) (sym (next_forth d j (omega arith)) ∙ ap (next d) (eqb-true (next (opposite d) j) i e)))
      (λ e. eq-eqb (next (opposite d) j) i (ap (next (opposite d)) (eqb-true j (next d i) e) ∙ next_back d i (omega arith)))

  pub step_and : (m : ℕ) → m < 2 ^ 54 → bit_and (shifted d (2 ^ i)) m ≡ cond (has m (next d i)) (2 ^ next d i) 0
  step_and m h = ext 64 _ _ lt (to_lt (has m (next d i))) (λ j k. has_and (shifted d (2 ^ i)) m j ∙ at j (ltb j 54) refl)
    where
      lt : bit_and (shifted d (2 ^ i)) m < 2 ^ 64
      lt = omega (arith, and_le_r (shifted d (2 ^ i)) m)

      to_lt : (t : Bool) → cond t (2 ^ next d i) 0 < 2 ^ 64
      to_lt true = pow-lt (next_lt d i)
      to_lt false = lit< tt

      to : (t : Bool) (j : ℕ) → has (cond t (2 ^ next d i) 0) j ≡ (eqb j (next d i) && t)
      to true j = has_bit (next d i) j ∙ sym (and-true (eqb j (next d i)))
      to false j = has_zero j ∙ sym (and-false (eqb j (next d i)))

      here : (j : ℕ) (t : Bool) → eqb j (next d i) ≡ t → (t && has m j) ≡ (t && has m (next d i))
      here j true e = ap (has m) (eqb-true j (next d i) e)
      here j false e = refl

      far : (j : ℕ) (t : Bool) → 54 ≤ j → eqb j (next d i) ≡ t → (t && has m (next d i)) ≡ false
      far j true k e = ap (has m) (sym (eqb-true j (next d i) e)) ∙ has_past 54 m j h k
      far j false k e = refl

      at : (j : ℕ) (t : Bool) → ltb j 54 ≡ t → (has (shifted d (2 ^ i)) j && has m j) ≡ has (cond (has m (next d i)) (2 ^ next d i) 0) j
      at j true q =
          ap (λ (x : Bool). x && has m j) (came j (omega (arith, ltb-true j 54 q)))
          ∙ here j (eqb j (next d i)) refl ∙ sym (to (has m (next d i)) j)
      at j false q =
          let k = ltb-false j 54 q in
          ap (λ (x : Bool). has (shifted d (2 ^ i)) j && x) (has_past 54 m j h k) ∙ and-false (has (shifted d (2 ^ i)) j)
          ∙ sym (to (has m (next d i)) j ∙ far j (eqb j (next d i)) k refl)

-- ---- the edge
-- the rows above and the files left of a square that a step needs
abbrev pub up : Direction → Bool
up up_left = true
up up_right = true
up down_left = false
up down_right = false

abbrev pub left : Direction → Bool
left up_left = true
left up_right = false
left down_left = true
left down_right = false

-- the square at bit i lies on the edge that a step in direction d crosses
abbrev pub at_edge : Direction → ℕ → Bool
at_edge d i = eqb (row_of i) (cond (up d) 0 9) || eqb (file_of i) (cond (left d) 0 9)

-- one row up or down, one file to the left or right
abbrev pub moved : Bool → ℕ → ℕ → Bool
moved back from to = cond back (eqb (to + 1) from) (eqb to (from + 1))

edge_test : Direction → ℕ → Bool
edge_test d i = imp (on_board i) (iff (on_board (next d i)) (not (at_edge d i)))

step_test : Direction → ℕ → Bool
step_test d i = imp (on_board i && on_board (next d i)) (moved (up d) (row_of i) (row_of (next d i)) && moved (left d) (file_of i) (file_of (next d i)))

edges_tested : (d : Direction) → below 54 (edge_test d) ≡ true
unfolding computed below tested edge_test
edges_tested up_left = refl
edges_tested up_right = refl
edges_tested down_left = refl
edges_tested down_right = refl

steps_tested : (d : Direction) → below 54 (step_test d) ≡ true
unfolding computed below tested step_test
steps_tested up_left = refl
steps_tested up_right = refl
steps_tested down_left = refl
steps_tested down_right = refl

-- a step from a square leaves the board exactly at the edge
pub next_edge : (d : Direction) (i : ℕ) → on_board i ≡ true → on_board (next d i) ≡ not (at_edge d i)
unfolding edge_test
next_edge d i e = iff_eq _ _ (imp_elim _ _ (below_at 54 (edge_test d) (edges_tested d) i (on_lt i e)) e)

-- and goes to the neighbouring row and file
next_moved : (d : Direction) (i : ℕ) → on_board i ≡ true → on_board (next d i) ≡ true
    → (moved (up d) (row_of i) (row_of (next d i)) && moved (left d) (file_of i) (file_of (next d i))) ≡ true
unfolding step_test
next_moved d i e f = imp_elim _ _ (below_at 54 (step_test d) (steps_tested d) i (on_lt i e)) (and_both _ _ e f)

pub next_row : (d : Direction) (i : ℕ) → on_board i ≡ true → on_board (next d i) ≡ true → moved (up d) (row_of i) (row_of (next d i)) ≡ true
next_row d i e f = and_left _ _ (next_moved d i e f)

pub next_file : (d : Direction) (i : ℕ) → on_board i ≡ true → on_board (next d i) ≡ true → moved (left d) (file_of i) (file_of (next d i)) ≡ true
next_file d i e f = and_right (moved (up d) (row_of i) (row_of (next d i))) _ (next_moved d i e f)
