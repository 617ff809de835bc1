-- Folds over the members of a set in a commutative monoid. The law is that of a disjoint union; counts, keys and rows follow.
use Rattle.std.proofs.Common.{◌≡◌, ℕ, zero, suc, ◌+◌, ◌-◌, ◌*◌, ◌^◌, ◌<◌, ◌≤◌, Bool, true, false, cond, not, ◌&&◌, ◌||◌, eqb, sym, refl, ap, ◌∙◌, ap₂, true≢false, not-suc-le-zero, add-zero, add_assoc, add_comm, pow-suc, zero-add, arith, eqb-true}
use mathlib.Core.Bool.{xor, false≢true}
use lib.Bits.{bit_and, bit_or, bit_xor, xor_comm, xor_zero_l, xor_lt}
use lib.Pow.{pow-lt}
use borrow.Author.Tests.{eqb-false}
use Rattle.squares.specs.Sets.{has, without, lowest}
use Rattle.squares.specs.Folds.{fold_to, over, xor_over, sum_over}
use Rattle.squares.proofs.Bools.{at2, at3, iff, iff_eq, tested}
use Rattle.squares.proofs.Pointwise.{has_zero, has_past, has_bit, has_bit_same, has_bit_other, has_and, has_or, has_xor, has_without, ext}
use Rattle.squares.proofs.Members.{lowest_in, lowest_lt, has_clear}

-- ---- disjoint unions
-- x exactly where one of y and z, never both
unfoldable pub parts : Bool → Bool → Bool → Bool
parts x y z = iff x (y || z) && not (y && z)

-- a is the union of b and c, which are apart
pub record Parts (a b c : ℕ) : Type 0 where
  pub part : (i : ℕ) → i < 64 → parts (has a i) (has b i) (has c i) ≡ true

pub parts_of_lem : {x x' y y' z z' : Bool} → x ≡ x' → y ≡ y' → z ≡ z' → parts x' y' z' ≡ true → parts x y z ≡ true
parts_of_lem p q r h = rw (p, q, r) h

-- what is in b and what is not
pub parts_split : (a b : ℕ) → a < 2 ^ 64 → b < 2 ^ 64 → Parts a (without a b) (bit_and a b)
unfolding tested parts
parts_split a b ha hb = record {
  part = λ i l. ap₂ (parts (has a i)) (has_without a b ha hb i l) (has_and a b i)
      ∙ at2 (λ x y. parts x (x && not y) (x && y)) refl (has a i) (has b i);
}

-- a part and the rest
pub parts_within : (a b : ℕ) → a < 2 ^ 64 → b < 2 ^ 64 → ((i : ℕ) → i < 64 → has b i ≡ true → has a i ≡ true) → Parts a (without a b) b
unfolding tested parts
parts_within a b ha hb f = record {
  part = λ i l. ap (λ (x : Bool). parts (has a i) x (has b i)) (has_without a b ha hb i l) ∙ go (has a i) (has b i) (f i l);
}
  where
    go : (x y : Bool) → (y ≡ true → x ≡ true) → parts x (x && not y) y ≡ true
    go true true g = refl
    go true false g = refl
    go false true g = absurd (false≢true (g refl))
    go false false g = refl

-- a member added
pub parts_add : (a j : ℕ) → has a j ≡ false → Parts (bit_or a (2 ^ j)) a (2 ^ j)
unfolding tested parts
parts_add a j e = record {
  part = λ i l.
      ap₂ (λ (x y : Bool). parts x (has a i) y) (has_or a (2 ^ j) i ∙ ap (λ (x : Bool). has a i || x) (has_bit j i)) (has_bit j i)
      ∙ go i (has a i) (eqb i j) refl refl;
}
  where
    go : (i : ℕ) (x y : Bool) → has a i ≡ x → eqb i j ≡ y → parts (x || y) x y ≡ true
    go i true true p q = absurd (true≢false (sym p ∙ ap (has a) (eqb-true i j q) ∙ e))
    go i true false p q = refl
    go i false true p q = refl
    go i false false p q = refl

-- a member removed
pub parts_remove : (a j : ℕ) → a < 2 ^ 64 → j < 64 → has a j ≡ true → Parts a (without a (2 ^ j)) (2 ^ j)
parts_remove a j ha hj e = parts_within a (2 ^ j) ha (pow-lt hj) (λ i l p. ap (has a) (eqb-true i j (sym (has_bit j i) ∙ p)) ∙ e)

-- the lowest member and the rest: one turn of a loop by trailing zeros
pub parts_lowest : (s : ℕ) → 0 < s → s < 2 ^ 64 → Parts s (bit_and s (s - 1)) (2 ^ lowest s)
unfolding tested parts
parts_lowest s p h = record {
  part = λ i l. ap₂ (parts (has s i)) (has_clear 64 s i p h) (has_bit (lowest s) i) ∙ go i (has s i) (eqb i (lowest s)) refl refl;
}
  where
    go : (i : ℕ) (x y : Bool) → has s i ≡ x → eqb i (lowest s) ≡ y → parts x (x && not y) y ≡ true
    go i true true e q = refl
    go i true false e q = refl
    go i false true e q = sym e ∙ ap (has s) (eqb-true i (lowest s) q) ∙ lowest_in 64 s p h
    go i false false e q = refl

-- the set of j where c holds, else empty
abbrev pub bit_if : Bool → ℕ → ℕ
bit_if c j = cond c (2 ^ j) 0

-- ---- the laws of a fold
module _ (op : ℕ → ℕ → ℕ) (z : ℕ)
    (assoc : (a b c : ℕ) → op (op a b) c ≡ op a (op b c))
    (comm : (a b : ℕ) → op a b ≡ op b a)
    (idl : (a : ℕ) → op z a ≡ a) where
  idr : (a : ℕ) → op a z ≡ a
  idr a = comm a z ∙ idl a

  swap : (a b c d : ℕ) → op (op a b) (op c d) ≡ op (op a c) (op b d)
  swap a b c d =
      assoc a b (op c d) ∙ ap (op a) (sym (assoc b c d) ∙ ap (λ (x : ℕ). op x d) (comm b c) ∙ assoc c b d) ∙ sym (assoc a c (op b d))

  fold_op : (n : ℕ) (f g : ℕ → ℕ) → fold_to op z (λ i. op (f i) (g i)) n ≡ op (fold_to op z f n) (fold_to op z g n)
  unfolding fold_to
  fold_op zero f g = sym (idl z)
  fold_op (suc n) f g = ap (λ (x : ℕ). op x (op (f n) (g n))) (fold_op n f g) ∙ swap (fold_to op z f n) (fold_to op z g n) (f n) (g n)

  pub fold_ext : (n : ℕ) (f g : ℕ → ℕ) → ((i : ℕ) → i < n → f i ≡ g i) → fold_to op z f n ≡ fold_to op z g n
  unfolding fold_to
  fold_ext zero f g h = refl
  fold_ext (suc n) f g h = ap₂ op (fold_ext n f g (λ i l. h i (omega arith))) (h n (omega arith))

  fold_none : (n : ℕ) (f : ℕ → ℕ) → ((i : ℕ) → i < n → f i ≡ z) → fold_to op z f n ≡ z
  unfolding fold_to
  fold_none zero f h = refl
  fold_none (suc n) f h = ap₂ op (fold_none n f (λ i l. h i (omega arith))) (h n (omega arith)) ∙ idl z

  one_more : (n j : ℕ) (f : ℕ → ℕ) (t : Bool) → eqb j n ≡ t → j < suc n → ((i : ℕ) → (i ≡ j → ⊥) → f i ≡ z)
      → (j < n → fold_to op z f n ≡ f j) → op (fold_to op z f n) (f n) ≡ f j
  one_more n j f true e l h ih =
      let q : j ≡ n = eqb-true j n e in
      ap (λ (x : ℕ). op x (f n)) (fold_none n f (λ i k. h i (λ r. omega arith))) ∙ idl (f n) ∙ ap f (sym q)
  one_more n j f false e l h ih =
      let q : j ≡ n → ⊥ = eqb-false j n e in
      ap₂ op (ih (omega arith)) (h n (λ r. q (sym r))) ∙ idr (f j)

  fold_one : (n j : ℕ) (f : ℕ → ℕ) → j < n → ((i : ℕ) → (i ≡ j → ⊥) → f i ≡ z) → fold_to op z f n ≡ f j
  unfolding fold_to
  fold_one zero j f l h = absurd (not-suc-le-zero l)
  fold_one (suc n) j f l h = one_more n j f (eqb j n) refl l h (λ k. fold_one n j f k h)

  pick : (x y w : Bool) (v : ℕ) → parts x y w ≡ true → cond x v z ≡ op (cond y v z) (cond w v z)
  unfolding parts iff
  pick true true true v h = absurd (false≢true h)
  pick true true false v h = sym (idr v)
  pick true false true v h = sym (idl v)
  pick true false false v h = absurd (false≢true h)
  pick false true true v h = absurd (false≢true h)
  pick false true false v h = absurd (false≢true h)
  pick false false true v h = absurd (false≢true h)
  pick false false false v h = sym (idl z)

  -- the law of a disjoint union
  pub over_parts : (f : ℕ → ℕ) {a b c : ℕ} → Parts a b c → over op z f a ≡ op (over op z f b) (over op z f c)
  unfolding over
  over_parts f {a} {b} {c} p =
      fold_ext 64 (λ i. cond (has a i) (f i) z) (λ i. op (cond (has b i) (f i) z) (cond (has c i) (f i) z)) (λ i l. pick (has a i) (has b i) (has c i) (f i) (p.part i l))
      ∙ fold_op 64 (λ i. cond (has b i) (f i) z) (λ i. cond (has c i) (f i) z)

  -- two functions that agree on the members
  pub over_same : (f g : ℕ → ℕ) (s : ℕ) → ((i : ℕ) → i < 64 → has s i ≡ true → f i ≡ g i) → over op z f s ≡ over op z g s
  unfolding over
  over_same f g s h = fold_ext 64 _ _ (λ i l. go i l (has s i) refl)
    where
      go : (i : ℕ) → i < 64 → (t : Bool) → has s i ≡ t → cond t (f i) z ≡ cond t (g i) z
      go i l true e = h i l e
      go i l false e = refl

  -- a function that gives nothing outside m need look at m only
  pub over_mask : (f : ℕ → ℕ) (s m : ℕ) → ((i : ℕ) → i < 64 → has m i ≡ false → f i ≡ z) → over op z f (bit_and s m) ≡ over op z f s
  unfolding over
  over_mask f s m h = fold_ext 64 _ _ (λ i l. ap (λ (x : Bool). cond x (f i) z) (has_and s m i) ∙ go i l (has s i) (has m i) refl)
    where
      go : (i : ℕ) → i < 64 → (x y : Bool) → has m i ≡ y → cond (x && y) (f i) z ≡ cond x (f i) z
      go i l false y e = refl
      go i l true true e = refl
      go i l true false e = sym (h i l e)

  pub over_none : (f : ℕ → ℕ) → over op z f 0 ≡ z
  unfolding over
  over_none f = fold_none 64 (λ i. cond (has 0 i) (f i) z) (λ i l. ap (λ (x : Bool). cond x (f i) z) (has_zero i))

  pub over_bit : (f : ℕ → ℕ) (j : ℕ) → j < 64 → over op z f (2 ^ j) ≡ f j
  unfolding over
  over_bit f j l =
      fold_one 64 j (λ i. cond (has (2 ^ j) i) (f i) z) l (λ i k. ap (λ (x : Bool). cond x (f i) z) (has_bit_other j i k))
      ∙ ap (λ (x : Bool). cond x (f j) z) (has_bit_same j)

  pub over_bit_if : (f : ℕ → ℕ) (c : Bool) (j : ℕ) → j < 64 → over op z f (bit_if c j) ≡ cond c (f j) z
  over_bit_if f true j l = over_bit f j l
  over_bit_if f false j l = over_none f

  -- one turn of a loop
  pub over_next : (f : ℕ → ℕ) (s : ℕ) → 0 < s → s < 2 ^ 64 → over op z f s ≡ op (over op z f (bit_and s (s - 1))) (f (lowest s))
  over_next f s p h =
      over_parts f (parts_lowest s p h) ∙ ap (op (over op z f (bit_and s (s - 1)))) (over_bit f (lowest s) (lowest_lt 64 s p h))

  -- ---- the other way round
  pub fold_first : (n : ℕ) (f : ℕ → ℕ) → fold_to op z f (suc n) ≡ op (f 0) (fold_to op z (λ i. f (suc i)) n)
  unfolding fold_to
  fold_first zero f = idl (f 0) ∙ sym (idr (f 0))
  fold_first (suc n) f = ap (λ (x : ℕ). op x (f (suc n))) (fold_first n f) ∙ assoc (f 0) _ (f (suc n))

  pub fold_reverse : (n : ℕ) (f : ℕ → ℕ) → fold_to op z f n ≡ fold_to op z (λ i. f (n - suc i)) n
  unfolding fold_to
  fold_reverse zero f = refl
  fold_reverse (suc n) f =
      ap (λ (x : ℕ). op x (f n)) (fold_reverse n f) ∙ comm _ (f n)
      ∙ sym (fold_first n (λ i. f (suc n - suc i))
      ∙ ap₂ op (ap f (omega arith)) (fold_ext n (λ i. f (suc n - suc (suc i))) (λ i. f (n - suc i)) (λ i l. ap f (omega arith))))

  -- what lies past n gives nothing
  fold_past : (n k : ℕ) (f : ℕ → ℕ) → ((i : ℕ) → n ≤ i → f i ≡ z) → fold_to op z f (n + k) ≡ fold_to op z f n
  unfolding fold_to
  fold_past n zero f h = ap (fold_to op z f) (add-zero n)
  fold_past n (suc k) f h =
      let e : n + suc k ≡ suc (n + k) = omega arith in
      ap (fold_to op z f) e ∙ ap₂ op (fold_past n k f h) (h (n + k) (omega arith)) ∙ idr _

  -- a set of squares has its members below 54
  pub over_board : (f : ℕ → ℕ) (s : ℕ) → s < 2 ^ 54 → over op z f s ≡ fold_to op z (λ i. cond (has s i) (f i) z) 54
  unfolding over
  over_board f s h = fold_past 54 10 (λ i. cond (has s i) (f i) z) (λ i l. ap (λ (x : Bool). cond x (f i) z) (has_past 54 s i h l))

-- ---- sums and exclusive ors
big : (n : ℕ) → n < 2 ^ n
big zero = omega arith
big (suc n) = omega (arith, big n, pow-suc 2 n)

pub three : (a b c : ℕ) → (a < 2 ^ (a + b + c)) × (b < 2 ^ (a + b + c)) × (c < 2 ^ (a + b + c))
three a b c = let s = big (a + b + c) in (omega arith, omega arith, omega arith)

pub xor_assoc : (a b c : ℕ) → bit_xor (bit_xor a b) c ≡ bit_xor a (bit_xor b c)
unfolding tested
xor_assoc a b c =
    let t = three a b c in let k = a + b + c in
    ext k _ _ (xor_lt k _ _ (xor_lt k a b t.0 t.1) t.2) (xor_lt k _ _ t.0 (xor_lt k b c t.1 t.2))
    (λ i l. has_xor (bit_xor a b) c i ∙ ap (λ (x : Bool). xor x (has c i)) (has_xor a b i)
    ∙ iff_eq _ _ (at3 (λ x y w. iff (xor (xor x y) w) (xor x (xor y w))) refl (has a i) (has b i) (has c i))
    ∙ sym (has_xor a (bit_xor b c) i ∙ ap (xor (has a i)) (has_xor b c i)))

pub xor_parts : (f : ℕ → ℕ) {a b c : ℕ} → Parts a b c → xor_over f a ≡ bit_xor (xor_over f b) (xor_over f c)
xor_parts = over_parts bit_xor 0 xor_assoc xor_comm xor_zero_l

pub xor_none : (f : ℕ → ℕ) → xor_over f 0 ≡ 0
xor_none = over_none bit_xor 0 xor_assoc xor_comm xor_zero_l

pub xor_bit_if : (f : ℕ → ℕ) (c : Bool) (j : ℕ) → j < 64 → xor_over f (bit_if c j) ≡ cond c (f j) 0
xor_bit_if = over_bit_if bit_xor 0 xor_assoc xor_comm xor_zero_l

pub xor_next : (f : ℕ → ℕ) (s : ℕ) → 0 < s → s < 2 ^ 64 → xor_over f s ≡ bit_xor (xor_over f (bit_and s (s - 1))) (f (lowest s))
xor_next = over_next bit_xor 0 xor_assoc xor_comm xor_zero_l

pub xor_same : (f g : ℕ → ℕ) (s : ℕ) → ((i : ℕ) → i < 64 → has s i ≡ true → f i ≡ g i) → xor_over f s ≡ xor_over g s
xor_same = over_same bit_xor 0 xor_assoc xor_comm xor_zero_l

pub xor_mask : (f : ℕ → ℕ) (s m : ℕ) → ((i : ℕ) → i < 64 → has m i ≡ false → f i ≡ 0) → xor_over f (bit_and s m) ≡ xor_over f s
xor_mask = over_mask bit_xor 0 xor_assoc xor_comm xor_zero_l

pub sum_parts : (f : ℕ → ℕ) {a b c : ℕ} → Parts a b c → sum_over f a ≡ sum_over f b + sum_over f c
sum_parts = over_parts ◌+◌ 0 add_assoc add_comm zero-add

pub sum_none : (f : ℕ → ℕ) → sum_over f 0 ≡ 0
sum_none = over_none ◌+◌ 0 add_assoc add_comm zero-add

pub sum_bit_if : (f : ℕ → ℕ) (c : Bool) (j : ℕ) → j < 64 → sum_over f (bit_if c j) ≡ cond c (f j) 0
sum_bit_if = over_bit_if ◌+◌ 0 add_assoc add_comm zero-add

pub sum_same : (f g : ℕ → ℕ) (s : ℕ) → ((i : ℕ) → i < 64 → has s i ≡ true → f i ≡ g i) → sum_over f s ≡ sum_over g s
sum_same = over_same ◌+◌ 0 add_assoc add_comm zero-add

-- ---- a bound on each term bounds the fold
fold_sum_le : (c n : ℕ) (f g : ℕ → ℕ) → ((i : ℕ) → i < n → f i ≤ c * g i) → fold_to ◌+◌ 0 f n ≤ c * fold_to ◌+◌ 0 g n
unfolding fold_to
fold_sum_le c zero f g h = omega arith
fold_sum_le c (suc n) f g h =
    omega (arith, fold_sum_le c n f g (λ i l. h i (omega arith)), h n (omega arith), native.Mathlib.Nat.mul-add c (fold_to ◌+◌ 0 g n) (g n))

-- a sum whose terms are at most c is at most c times the number of its terms
pub sum_bound : (c : ℕ) (f : ℕ → ℕ) (s : ℕ) → ((i : ℕ) → i < 64 → has s i ≡ true → f i ≤ c) → sum_over f s ≤ c * sum_over (λ i. 1) s
unfolding over
sum_bound c f s h = fold_sum_le c 64 (λ i. cond (has s i) (f i) 0) (λ i. cond (has s i) 1 0) (λ i l. go (has s i) (f i) (h i l))
  where
    go : (t : Bool) (x : ℕ) → (t ≡ true → x ≤ c) → cond t x 0 ≤ c * cond t 1 0
    go true x l = omega (arith, l refl)
    go false x l = omega arith
