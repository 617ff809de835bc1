-- The entries of the table of directions, and what a shift by each of them gives.
use Rattle.std.proofs.Common.{◌≡◌, ℕ, zero, suc, ◌*◌, ◌/◌, ◌%◌, ◌^◌, ◌<◌, ◌≤◌, sym, true, false, T, [], ◌∷◌, get_or, ℤ, pos, negsuc, ◌-ℤ◌, nat_abs, refl, ap, ◌∙◌, true≢false, arith, w32, w64, Fits, SFits, to_z, of_z}
use mathlib.Core.Bool.{false≢true}
use Prim.Native.Nat.{min}
use native.Mathlib.Nat.{min-eq_right, min-le_right}
use lib.Signed.{lt_z, non_neg}
use Rattle.squares.specs.Directions.{down_right, direction_at, shifted}

-- an index above 2 is down-right
pub beyond : (d : ℕ) → 3 ≤ d → direction_at d ≡ down_right
beyond zero h = absurd (omega arith)
beyond (suc zero) h = absurd (omega arith)
beyond (suc (suc zero)) h = absurd (omega arith)
beyond (suc (suc (suc d))) h = refl

-- an index above 3 is cut to 3
pub index_lt : (at d : ℕ) → at ≡ min d 3 → at < 4
index_lt at d e = omega (arith, e, min-le_right d 3)

cut : (d : ℕ) → direction_at (min d 3) ≡ direction_at d
cut zero = refl
cut (suc zero) = refl
cut (suc (suc zero)) = refl
cut (suc (suc (suc d))) = ap direction_at (min-eq_right (omega arith)) ∙ sym (beyond (suc (suc (suc d))) (omega arith))

pub same_direction : (at d : ℕ) → at ≡ min d 3 → direction_at at ≡ direction_at d
same_direction at d e = ap direction_at e ∙ cut d

-- the entry at d, and its opposite
abbrev pub step : ℕ → ℤ
step d = to_z w32 (of_z w32 (get_or (negsuc 5 ∷ negsuc 4 ∷ pos 5 ∷ pos 6 ∷ []) d (pos 0)))

abbrev pub back : ℕ → ℤ
back d = to_z w32 (of_z w32 (pos 0 -ℤ step d))

pub four : (P : ℕ → Type 0) → P 0 → P 1 → P 2 → P 3 → (d : ℕ) → d < 4 → P d
four P p q r s zero h = p
four P p q r s (suc zero) h = q
four P p q r s (suc (suc zero)) h = r
four P p q r s (suc (suc (suc zero))) h = s
four P p q r s (suc (suc (suc (suc n)))) h = absurd (omega arith)

-- an entry below 0
pub record Up (d : ℕ) : Type 0 where
  pub opposite : SFits w32 (pos 0 -ℤ step d)
  pub places : T (non_neg (back d)) × Fits w32 (nat_abs (back d))
  pub wide : Fits w64 (nat_abs (back d))
  pub small : nat_abs (back d) < 64
  pub shifts : (s : ℕ) → s / 2 ^ nat_abs (back d) ≡ shifted (direction_at d) s
  pub by_size : (s : ℕ) → s / 2 ^ nat_abs (step d) ≡ shifted (direction_at d) s

-- an entry that is not
pub record Down (d : ℕ) : Type 0 where
  pub places : T (non_neg (step d)) × Fits w32 (nat_abs (step d))
  pub wide : Fits w64 (nat_abs (step d))
  pub small : nat_abs (step d) < 64
  pub shifts : (s : ℕ) → (s * 2 ^ nat_abs (step d)) % 2 ^ 64 ≡ shifted (direction_at d) s

pub up : (d : ℕ) → d < 4 → lt_z (step d) (pos 0) ≡ true → Up d
unfolding shifted
up = four (λ (d : ℕ). lt_z (step d) (pos 0) ≡ true → Up d)
    (λ e. record { opposite = record { sfits = omega arith }; places = (tt, record { fits = omega arith }); wide = record { fits = omega arith }; small = omega arith; shifts = λ s. refl; by_size = λ s. refl })
    (λ e. record { opposite = record { sfits = omega arith }; places = (tt, record { fits = omega arith }); wide = record { fits = omega arith }; small = omega arith; shifts = λ s. refl; by_size = λ s. refl })
    (λ e. absurd (false≢true e)) (λ e. absurd (false≢true e))

pub down : (d : ℕ) → d < 4 → lt_z (step d) (pos 0) ≡ false → Down d
unfolding shifted
down = four (λ (d : ℕ). lt_z (step d) (pos 0) ≡ false → Down d)
    (λ e. absurd (true≢false e)) (λ e. absurd (true≢false e))
    (λ e. record { places = (tt, record { fits = omega arith }); wide = record { fits = omega arith }; small = omega arith; shifts = λ s. refl })
    (λ e. record { places = (tt, record { fits = omega arith }); wide = record { fits = omega arith }; small = omega arith; shifts = λ s. refl })
