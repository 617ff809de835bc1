-- The squares of a range, joined one after another into a set.
use Prim.Native.Nat.{ℕ, zero, suc, ◌+◌, ◌-◌, ◌≤◌}
use mathlib.Core.Path.{◌≡◌, refl, ap, subst, ◌∙◌}
use mathlib.Core.Bool.{Bool, true, false}
use mathlib.Core.List.{◌∷◌}
use native.Mathlib.Omega.{arith}
use lib.Bits.{bit_or}
use lib.ListN.{length}
use Rattle.std.proofs.iter.Yields.{listed}
use Rattle.std.proofs.lemmas.Iterator.{YieldsList}
use Rattle.std.specs.List.{fold, range_with_len}
use Rattle.std.specs.Range.{range_inclusive_len, range_inclusive_start, range_inclusive_end, range_inclusive_exhausted, range_inclusive_left, range_inclusive_steps}
use Rattle.std.specs.declared.ops.RangeInclusive.{RangeInclusive}
use Rattle.std.specs.declared.option.Option.{Option}
use Rattle.squares.specs.Squares.{run, single}
use Rattle.texts.proofs.Readers.{run_next}

abbrev pub join : ℕ → ℕ → ℕ
join set n = bit_or set (single n)

-- what the range does as it counts up
abbrev pub up_steps : RangeInclusive ℕ → Option ℕ → RangeInclusive ℕ → Type 0
up_steps = range_inclusive_steps (λ x y. y - x) (λ x y. y ≡ x + 1)

abbrev left : RangeInclusive ℕ → ℕ
left s = range_inclusive_left (λ x y. y - x) s

one_more : (a b n k x : ℕ) (e : Bool) → n + 1 ≡ k → x ≡ a → (e ≡ true → n ≡ 0) → (e ≡ false → b ≡ a + 1) → range_with_len a k ≡ x ∷ range_with_len b n
one_more a b n k x true l f z u = let q : k ≡ 1 = omega (arith, z refl) in rw (q, z refl, f) refl
one_more a b n k x false l f z u = let q : k ≡ suc n = omega arith in rw (q, f, u refl) refl

spent : (s : RangeInclusive ℕ) → range_inclusive_exhausted s ≡ true → left s ≡ 0
spent s z = ap (range_inclusive_len (λ x y. y - x) (range_inclusive_start s) (range_inclusive_end s)) z

up_all : (s : RangeInclusive ℕ) → YieldsList up_steps (λ x. x) s (range_with_len (range_inclusive_start s) (left s))
up_all s = record {
  runs = listed up_steps (λ x. x) (λ s. range_with_len (range_inclusive_start s) (left s))
      (λ s t p. ap (λ n. length (range_with_len (range_inclusive_start s) n)) p.1.0)
      (λ s x t p. one_more (range_inclusive_start s) (range_inclusive_start t) (left t) (left s) x (range_inclusive_exhausted t) p.1.1 p.1.0 (spent t) p.1.2)
      s;
}

pub goes_up : {s : RangeInclusive ℕ} (lo hi : ℕ) → 1 ≤ lo → range_inclusive_start s ≡ lo → range_inclusive_end s ≡ hi → range_inclusive_exhausted s ≡ false
    → YieldsList up_steps (λ x. x) s (range_with_len lo (hi + 1 - lo))
goes_up {s} lo hi p a b e =
    let k : left s ≡ hi + 1 - lo = ap (range_inclusive_len (λ x y. y - x) (range_inclusive_start s) (range_inclusive_end s)) e ∙ omega (arith, a, b, p) in
    subst (λ (n : ℕ). YieldsList up_steps (λ x. x) s (range_with_len lo n)) k
    (subst (λ (n : ℕ). YieldsList up_steps (λ x. x) s (range_with_len n (left s))) a (up_all s))

-- the squares from lo + j on join those before
joined : (k lo j : ℕ) → 1 ≤ lo → lo + j + k ≤ 51 → fold join (run lo j) (range_with_len (lo + j) k) ≡ run lo (j + k)
joined zero lo j p h = let q : j ≡ j + 0 = omega arith in ap (run lo) q
joined (suc k) lo j p h =
    let q : lo + j + 1 ≡ lo + suc j = omega arith in
    let r : suc j + k ≡ j + suc k = omega arith in
    ap (λ (s : ℕ). fold join s (range_with_len (lo + j + 1) k)) (run_next lo j p (omega arith))
    ∙ ap (λ (n : ℕ). fold join (run lo (suc j)) (range_with_len n k)) q ∙ joined k lo (suc j) p (omega arith) ∙ ap (run lo) r

pub run_joined : (lo hi : ℕ) → 1 ≤ lo → hi ≤ 50 → fold join 0 (range_with_len lo (hi + 1 - lo)) ≡ run lo (hi + 1 - lo)
unfolding run
run_joined lo hi p h = go (hi + 1 - lo) refl
  where
    go : (k : ℕ) → hi + 1 - lo ≡ k → fold join 0 (range_with_len lo k) ≡ run lo k
    go zero e = refl
    go (suc k) e =
        let q : lo ≡ lo + 0 = omega arith in
        let r : 0 + suc k ≡ suc k = omega arith in
        ap (λ (n : ℕ). fold join 0 (range_with_len n (suc k))) q ∙ joined (suc k) lo 0 p (omega arith) ∙ ap (run lo) r
