-- Moves put in one by one: bit by bit, and square by square. Where one has no room, none is put in after it.
use Rattle.std.specs.Prelude.{Result, Ok, Err}
use mathlib.Core.Path.{◌≡◌, refl, sym, ap, ap₂, ◌∙◌}
use mathlib.Core.List.{List, [], ◌∷◌, ◌++◌, map, flat_map}
use Prim.Native.Nat.{ℕ, zero, suc, ◌+◌, ◌-◌, ◌^◌, ◌<◌}
use native.Mathlib.Numerals.{add-one}
use native.Mathlib.Omega.{arith}
use mathlib.Core.Bool.{Bool, true, false, true≢false}
use lib.Dec.{eqb}
use borrow.Author.Tests.{eqb-true, eq-eqb}
use Rattle.captures.specs.Walks.{up_to}
use lib.Bits.{bit_and}
use Rattle.squares.specs.Sets.{lowest, members}
use Rattle.squares.specs.Directions.{direction_at, shifted}
use Rattle.squares.proofs.Members.{members_cons, members_none}
use Rattle.squares.proofs.Pointwise.{and_lt}
use Rattle.positions.specs.declared.moves.Move.{Move}
use Rattle.captures.specs.declared.moves.MoveList.{MoveList}
use Rattle.captures.specs.Lists.{put_of}
use Rattle.quiets.specs.Quiets.{then_put, put_all, quiet_move, step_move}

-- ---- one move, and one list after another
pub put_one : (l : MoveList) (m : Move) → put_all l (m ∷ []) ≡ put_of l m
unfolding put_all
put_one l m = go (put_of l m)
  where
    go : (o : Result MoveList MoveList) → then_put (λ k. Ok k) o ≡ o
    go (Err k) = refl
    go (Ok k) = refl

pub put_append : (xs ys : List Move) (l : MoveList) → put_all l (xs ++ ys) ≡ then_put (λ k. put_all k ys) (put_all l xs)
unfolding put_all
put_append [] ys l = refl
put_append (m ∷ xs) ys l = go (put_of l m) (put_append xs ys)
  where
    go : (o : Result MoveList MoveList) → ((k : MoveList) → put_all k (xs ++ ys) ≡ then_put (λ j. put_all j ys) (put_all k xs))
        → then_put (λ k. put_all k (xs ++ ys)) o ≡ then_put (λ k. put_all k ys) (then_put (λ k. put_all k xs) o)
    go (Err k) h = refl
    go (Ok k) h = h k

module _ (l : MoveList) (xs ys : List Move) where
  -- the first ones had room
  pub put_on : (k : MoveList) → Ok k ≡ put_all l xs → put_all l (xs ++ ys) ≡ put_all k ys
  put_on k e = put_append xs ys l ∙ ap (then_put (λ k. put_all k ys)) (sym e)

  -- they had none
  pub put_off : (k : MoveList) → Err k ≡ put_all l xs → put_all l (xs ++ ys) ≡ Err k
  put_off k e = put_append xs ys l ∙ ap (then_put (λ k. put_all k ys)) (sym e)

-- ---- the lists g 0, g 1 and so on, one after the other
-- the first n had room, and left k
module _ (g : ℕ → List Move) (l : MoveList) (n : ℕ) (k : MoveList) (w : Ok k ≡ put_all l (up_to g n)) where
  -- so has the next
  pub some_in : (r : MoveList) → Ok r ≡ put_all k (g n) → Ok r ≡ put_all l (up_to g (n + 1))
  unfolding up_to
  some_in r e = e ∙ sym (put_on l (up_to g n) (g n) k w) ∙ ap (λ (m : ℕ). put_all l (up_to g m)) (sym (add-one n))

  -- the next has not, nor have more
  pub some_out : (r : MoveList) (m : ℕ) → n < m → Err r ≡ put_all k (g n) → Err r ≡ put_all l (up_to g m)
  unfolding up_to
  some_out r zero h e = absurd (omega (arith, h))
  some_out r (suc m) h e = go (eqb n m) refl (λ i. some_out r m i e)
    where
      go : (b : Bool) → eqb n m ≡ b → (n < m → Err r ≡ put_all l (up_to g m)) → Err r ≡ put_all l (up_to g m ++ g m)
      go true q out = e ∙ sym (put_on l (up_to g n) (g n) k w) ∙ ap (λ (i : ℕ). put_all l (up_to g i ++ g i)) (eqb-true n m q)
      go false q out = sym (put_off l (up_to g m) (g m) r (out (omega (arith, h, λ (i : n ≡ m). true≢false (sym (eq-eqb n m i) ∙ q)))))

-- ---- bit by bit
-- what is still to be put in for the members of m comes to x
pub record Adding (g : ℕ → List Move) (x : Result MoveList MoveList) (l : MoveList) (m : ℕ) : Type 0 where
  pub fits : m < 2 ^ 64
  pub same : put_all l (flat_map g (members m)) ≡ x

pub adding_start : (g : ℕ → List Move) (l : MoveList) (m n : ℕ) → m ≡ n → n < 2 ^ 64 → Adding g (put_all l (flat_map g (members n))) l m
adding_start g l m n e h = record { fits = rw e h; same = ap (λ (k : ℕ). put_all l (flat_map g (members k))) e }

module _ (g : ℕ → List Move) (x : Result MoveList MoveList) (l : MoveList) (m : ℕ) (w : Adding g x l m) where
  -- the lowest, then the rest
  lowest_first : 0 < m → put_all l (g (lowest m) ++ flat_map g (members (bit_and m (m - 1)))) ≡ x
  unfolding flat_map
  lowest_first p = ap (λ (is : List ℕ). put_all l (flat_map g is)) (sym (members_cons m p w.fits)) ∙ w.same

  pub adding_turn : (r : MoveList) → 0 < m → Ok r ≡ put_all l (g (lowest m)) → Adding g x r (bit_and m (m - 1))
  adding_turn r p e = record {
    fits = and_lt m (m - 1) w.fits;
    same = sym (put_on l (g (lowest m)) (flat_map g (members (bit_and m (m - 1)))) r e) ∙ lowest_first p;
  }

  pub adding_stop : (r : MoveList) → 0 < m → Err r ≡ put_all l (g (lowest m)) → Err r ≡ x
  adding_stop r p e = sym (put_off l (g (lowest m)) (flat_map g (members (bit_and m (m - 1)))) r e) ∙ lowest_first p

  pub adding_done : m ≡ 0 → Ok l ≡ x
  unfolding flat_map put_all
  adding_done z = ap (λ (is : List ℕ). put_all l (flat_map g is)) (sym members_none) ∙ ap (λ (n : ℕ). put_all l (flat_map g (members n))) (sym z) ∙ w.same

-- one move for each bit
pub ones : (g : ℕ → Move) (l : List ℕ) → flat_map (λ i. g i ∷ []) l ≡ map g l
unfolding flat_map
ones g [] = refl
ones g (x ∷ l) = ap (λ (r : List Move). g x ∷ r) (ones g l)

-- ---- square by square
-- what is left comes to x, and the first of it is m
module _ (l : MoveList) (m : Move) (ms : List Move) (x : Result MoveList MoveList) (w : put_all l (m ∷ ms) ≡ x) where
  pub next_in : (r : MoveList) → Ok r ≡ put_of l m → put_all r ms ≡ x
  unfolding put_all
  next_in r e = ap (then_put (λ k. put_all k ms)) e ∙ w

  pub next_out : (r : MoveList) → Err r ≡ put_of l m → Err r ≡ x
  unfolding put_all
  next_out r e = ap (then_put (λ k. put_all k ms)) e ∙ w

pub all_in : (l : MoveList) (x : Result MoveList MoveList) → put_all l [] ≡ x → Ok l ≡ x
unfolding put_all
all_in l x w = w

-- ---- the moves that the code makes
pub step_made : (d at j back : ℕ) (m : Move) → at ≡ 2 ^ j → back ≡ shifted (direction_at (3 - d)) at → m ≡ quiet_move back at → m ≡ step_move d j
step_made d at j back m ea eb em = em ∙ ap₂ quiet_move (eb ∙ ap (shifted (direction_at (3 - d))) ea) ea
