-- A written board takes at most 196 bytes: each of the 50 squares pays for at most one item.
use Prim.Native.Nat.{ℕ, zero, suc, ◌+◌, ◌/◌, ◌%◌, ◌≤◌, ◌<◌}
use mathlib.Core.Path.{◌≡◌, refl, sym, ap₂, ◌∙◌}
use mathlib.Core.List.{List, [], ◌∷◌, map}
use mathlib.Core.Bool.{Bool, true, false, cond, ◌&&◌, true≢false}
use native.Mathlib.Omega.{arith}
use native.Mathlib.Nat.{zero-add}
use lib.Dec.{eqb, ltb}
use lib.ListN.{length, length-append}
use Rattle.squares.specs.Sets.{has, members, members_from}
use Rattle.squares.specs.Squares.{all, square_at_bit, contains_of}
use Rattle.squares.specs.Computed.{computed}
use Rattle.squares.proofs.Pointwise.{has_half, has_low}
use Rattle.squares.proofs.Numbers.{has_all}
use Rattle.positions.specs.Boards.{Board, board_of}
use Rattle.positions.specs.Acceptance.{Accepted, sound}
use Rattle.positions.specs.declared.position.Position.{Position}
use Rattle.positions.proofs.Accepts.{sound_says}
use Rattle.texts.specs.Bytes.{joined, digits}
use Rattle.texts.specs.Lent.{over, text_of}
use Rattle.texts.specs.declared.space.Space.{Space}
use Rattle.texts.specs.Fen.{item_text, list_text, fen_text}
use Rattle.texts.proofs.Overs.{over_text}

-- K, digits and comma of bit i
cost : ℕ → ℕ
cost i = cond (ltb (square_at_bit i) 10) 3 4

costs : List ℕ → ℕ
costs [] = 0
costs (i ∷ l) = cost i + costs l

step : (t : Bool) (i : ℕ) (l : List ℕ) → costs (cond t (i ∷ l) l) ≡ cond t (cost i) 0 + costs l
unfolding costs
step true i l = refl
step false i l = sym (zero-add (costs l))

-- two sets that are apart, within a third
low_le : (x y z : Bool) (c : ℕ) → (x ≡ true → z ≡ true) → (y ≡ true → z ≡ true) → (x && y) ≡ false → cond x c 0 + cond y c 0 ≤ cond z c 0
low_le true true z c p q h = absurd (true≢false h)
low_le true false z c p q h = rw (p refl) (omega arith)
low_le false true z c p q h = rw (q refl) (omega arith)
low_le false false z c p q h = omega arith

apart_costs : (n i x y z : ℕ) → ((k : ℕ) → k < n → has x k ≡ true → has z k ≡ true) → ((k : ℕ) → k < n → has y k ≡ true → has z k ≡ true)
    → ((k : ℕ) → k < n → (has x k && has y k) ≡ false)
    → costs (members_from n i x) + costs (members_from n i y) ≤ costs (members_from n i z)
unfolding members_from costs
apart_costs zero i x y z p q h = omega arith
apart_costs (suc n) i x y z p q h =
    let ih : costs (members_from n (suc i) (x / 2)) + costs (members_from n (suc i) (y / 2)) ≤ costs (members_from n (suc i) (z / 2))
    = apart_costs n (suc i) (x / 2) (y / 2) (z / 2)
    (λ k l e. has_half z k ∙ p (suc k) (omega arith) (sym (has_half x k) ∙ e))
    (λ k l e. has_half z k ∙ q (suc k) (omega arith) (sym (has_half y k) ∙ e))
    (λ k l. ap₂ ◌&&◌ (has_half x k) (has_half y k) ∙ h (suc k) (omega arith)) in
    let low : cond (eqb (x % 2) 1) (cost i) 0 + cond (eqb (y % 2) 1) (cost i) 0 ≤ cond (eqb (z % 2) 1) (cost i) 0
    = low_le (eqb (x % 2) 1) (eqb (y % 2) 1) (eqb (z % 2) 1) (cost i)
    (λ e. sym (has_low z) ∙ p 0 (omega arith) (has_low x ∙ e)) (λ e. sym (has_low z) ∙ q 0 (omega arith) (has_low y ∙ e))
    (ap₂ ◌&&◌ (sym (has_low x)) (sym (has_low y)) ∙ h 0 (omega arith)) in
    rw (step (eqb (x % 2) 1) i (members_from n (suc i) (x / 2)), step (eqb (y % 2) 1) i (members_from n (suc i) (y / 2)), step (eqb (z % 2) 1) i (members_from n (suc i) (z / 2)))
    (omega arith)

digits_cost : (n : ℕ) → suc (suc (length (digits n))) ≤ cond (ltb n 10) 3 4
unfolding digits
digits_cost n = go (ltb n 10)
  where
    go : (t : Bool) → suc (suc (length (cond t ((48 + n) ∷ []) ((48 + n / 10) ∷ (48 + n % 10) ∷ [])))) ≤ cond t 3 4
    go true = omega arith
    go false = omega arith

item_length : (kings n : ℕ) → length (item_text kings n) ≤ suc (length (digits n))
unfolding item_text
item_length kings n = go (contains_of kings n)
  where
    go : (t : Bool) → length (cond t (75 ∷ digits n) (digits n)) ≤ suc (length (digits n))
    go true = omega arith
    go false = omega arith

item_cost : (kings i : ℕ) → suc (length (item_text kings (square_at_bit i))) ≤ cost i
unfolding cost
item_cost kings i = omega (arith, item_length kings (square_at_bit i), digits_cost (square_at_bit i))

list_costs : (kings : ℕ) (l : List ℕ) → length (joined 44 (map (item_text kings) (map square_at_bit l))) ≤ costs l
unfolding joined costs
list_costs kings [] = omega arith
list_costs kings (i ∷ []) = omega (arith, item_cost kings i)
list_costs kings (i ∷ (j ∷ l)) =
    omega (arith, item_cost kings i, list_costs kings (j ∷ l), length-append (item_text kings (square_at_bit i)) (44 ∷ joined 44 (map (item_text kings) (map square_at_bit (j ∷ l)))))

board_costs : costs (members all) ≡ 191
unfolding computed costs cost
board_costs = refl

module _ (b : Board) (a : Accepted b) where
  apart : (i : ℕ) → (has b.white i && has b.black i) ≡ false
  apart i = go (has b.white i) (has b.black i) (a.apart i)
    where
      go : (x y : Bool) → (x ≡ true → y ≡ false) → (x && y) ≡ false
      go true y f = f refl
      go false y f = refl

  lists_short : length (list_text b.kings b.white) + length (list_text b.kings b.black) ≤ 191
  unfolding list_text members
  lists_short =
      omega (
        arith,
        list_costs b.kings (members b.white),
        list_costs b.kings (members b.black),
        board_costs,
        apart_costs 64 0 b.white b.black all (λ k l e. has_all k ∙ a.white_on k e) (λ k l e. has_all k ∙ a.black_on k e) (λ k l. apart k),
      )

  pub fen_short : length (fen_text b) ≤ 196
  unfolding fen_text joined
  fen_short = omega (arith, lists_short, length-append (list_text b.kings b.white) (58 ∷ 66 ∷ list_text b.kings b.black))

-- so that 200 bytes hold the text of a sound position
pub fen_fits : (p : Position) → sound p ≡ true → length (fen_text (board_of p)) ≤ 200
fen_fits p s = omega (arith, fen_short (board_of p) (sound_says p s).accepted)

pub fen_written : (p : Position) (s : Space) → sound p ≡ true → s.at ≡ 0 → length s.bytes.now ≡ 200 → text_of (over (fen_text (board_of p)) s) ≡ fen_text (board_of p)
fen_written p s h z e = over_text (fen_text (board_of p)) s z (omega (arith, fen_fits p h, e))
