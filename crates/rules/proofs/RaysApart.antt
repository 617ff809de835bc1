-- Rays have no doubles, and two rays from one square of the board have no square in common.
use mathlib.Core.Path.{◌≡◌, refl, sym, ◌∙◌, subst}
use Prim.Native.Nat.{ℕ, zero, suc, ◌^◌, ◌<◌}
use native.Mathlib.Omega.{arith}
use mathlib.Core.Bool.{Bool, true, false, not, ◌&&◌, false≢true}
use mathlib.Core.List.Memᴰ.{cases_cons}
use mathlib.Core.List.Memᴰ.{not-nil}
use mathlib.Core.List.{List, [], ◌∷◌, Memᴰ as Member}
use mathlib.Core.Logic.{◌⊎◌, inl, inr}
use lib.Dec.{eqb}
use borrow.Author.Tests.{eq-eqb, not-true}
use Rattle.squares.specs.Directions.{Direction, up_left, up_right, down_left, down_right, next}
use Rattle.squares.specs.Sets.{has}
use Rattle.squares.specs.Squares.{all, on_board}
use Rattle.squares.proofs.Below.{below, below_at}
use Rattle.squares.proofs.Bools.{and_left, and_right, imp, imp_elim, tested}
use Rattle.squares.proofs.Numbers.{on_lt}
use Rattle.squares.proofs.Pointwise.{member_lt}
use Rattle.rules.specs.Ordered.{ahead, ray}
use Rattle.rules.proofs.Held.{Distinct, nil, cons}
use Rattle.rules.proofs.Ray.{ahead_on, ahead_end, of_ahead, flight_off}
use Rattle.rules.specs.Computed.{computed}

ahead_once : (e : ℕ) (d : Direction) → e < 2 ^ 54 → (n i : ℕ) → Distinct (ahead n e d i)
unfolding ahead
ahead_once e d small zero i = nil
ahead_once e d small (suc n) i = go (ahead_once e d small n (next d i)) (has e (next d i)) refl
  where
    go : Distinct (ahead n e d (next d i)) → (b : Bool) → has e (next d i) ≡ b → Distinct (ahead (suc n) e d i)
    go k true q = rw (ahead_on e d n i q) (cons
        (λ m. flight_off e d small (next d i) (next d i) (member_lt 54 e (next d i) small q) (of_ahead e d n (next d i) (next d i) m) refl) k)
    go k false q = rw (ahead_end e d (suc n) i q) nil

pub ray_once : (e : ℕ) (d : Direction) → e < 2 ^ 54 → (i : ℕ) → Distinct (ray e d i)
unfolding ray
ray_once e d small i = ahead_once e d small 64 i

-- two directions lead to two squares
pub next_inj : (d c : Direction) (i : ℕ) → next d i ≡ next c i → d ≡ c
next_inj up_left up_left i e = refl
next_inj up_left up_right i e = absurd (omega arith)
next_inj up_left down_left i e = absurd (omega arith)
next_inj up_left down_right i e = absurd (omega arith)
next_inj up_right up_left i e = absurd (omega arith)
next_inj up_right up_right i e = refl
next_inj up_right down_left i e = absurd (omega arith)
next_inj up_right down_right i e = absurd (omega arith)
next_inj down_left up_left i e = absurd (omega arith)
next_inj down_left up_right i e = absurd (omega arith)
next_inj down_left down_left i e = refl
next_inj down_left down_right i e = absurd (omega arith)
next_inj down_right up_left i e = absurd (omega arith)
next_inj down_right up_right i e = absurd (omega arith)
next_inj down_right down_left i e = absurd (omega arith)
next_inj down_right down_right i e = refl

-- ---- two rays: computed for the 50 squares (of the bits between them it is false)
unfoldable missing : ℕ → List ℕ → Bool
missing x [] = true
missing x (y ∷ ys) = not (eqb x y) && missing x ys

unfoldable disjoint : List ℕ → List ℕ → Bool
disjoint [] ys = true
disjoint (x ∷ xs) ys = missing x ys && disjoint xs ys

missing_at : (x : ℕ) (ys : List ℕ) → missing x ys ≡ true → Member x ys → ⊥
unfolding missing
missing_at x [] e m = not-nil m
missing_at x (y ∷ ys) e m = go (and_left _ _ e) (λ n. missing_at x ys (and_right (not (eqb x y)) (missing x ys) e) n) (cases_cons m)
  where
    go : not (eqb x y) ≡ true → (Member x ys → ⊥) → (x ≡ y) ⊎ Member x ys → ⊥
    go p ih (inl r) = false≢true (sym (not-true (eqb x y) p) ∙ eq-eqb x y r)
    go p ih (inr n) = ih n

disjoint_at : (xs ys : List ℕ) (z : ℕ) → disjoint xs ys ≡ true → Member z xs → Member z ys → ⊥
unfolding disjoint
disjoint_at [] ys z e m n = not-nil m
disjoint_at (x ∷ xs) ys z e m n = go (and_left _ _ e) (λ k. disjoint_at xs ys z (and_right (missing x ys) (disjoint xs ys) e) k n) (cases_cons m)
  where
    go : missing x ys ≡ true → (Member z xs → ⊥) → (z ≡ x) ⊎ Member z xs → ⊥
    go p ih (inl r) = missing_at x ys p (subst (λ u. Member u ys) r n)
    go p ih (inr k) = ih k

unfoldable parted : Direction → Direction → ℕ → Bool
parted d c i = imp (on_board i) (disjoint (ray all d i) (ray all c i))

tested_apart : (d c : Direction) → (d ≡ c) ⊎ (below 54 (parted d c) ≡ true)
unfolding computed below tested parted disjoint missing
tested_apart up_left up_left = inl refl
tested_apart up_left up_right = inr refl
tested_apart up_left down_left = inr refl
tested_apart up_left down_right = inr refl
tested_apart up_right up_left = inr refl
tested_apart up_right up_right = inl refl
tested_apart up_right down_left = inr refl
tested_apart up_right down_right = inr refl
tested_apart down_left up_left = inr refl
tested_apart down_left up_right = inr refl
tested_apart down_left down_left = inl refl
tested_apart down_left down_right = inr refl
tested_apart down_right up_left = inr refl
tested_apart down_right up_right = inr refl
tested_apart down_right down_left = inr refl
tested_apart down_right down_right = inl refl

pub rays_apart : (d c : Direction) (i j : ℕ) → on_board i ≡ true → Member j (ray all d i) → Member j (ray all c i) → d ≡ c
unfolding parted
rays_apart d c i j s m n = go (tested_apart d c)
  where
    go : (d ≡ c) ⊎ (below 54 (parted d c) ≡ true) → d ≡ c
    go (inl e) = e
    go (inr e) = absurd (disjoint_at (ray all d i) (ray all c i) j (imp_elim _ _ (below_at 54 (parted d c) e i (on_lt i s)) s) m n)
