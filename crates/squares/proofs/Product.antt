-- The low 64 bits of a product, from its halves of 32 bits.
use Rattle.std.proofs.Common.{◌≡◌, ℕ, ◌+◌, ◌*◌, ◌/◌, ◌%◌, ◌^◌, ◌<◌, sym, ap, ◌∙◌, ap₂, lt_of_le_of_lt, le_of_lt, mul_assoc, mul_comm, add-mul, mul-le-mul_left, mul-lt-mul_of_pos_right, div-add-mod', mul-add, arith, pow_pos}
use native.Mathlib.Nat.{mul-add-mod_self_right, add-mod-mod}

pub below : (a b : ℕ) → a < 2 ^ 32 → b < 2 ^ 32 → a * b < 2 ^ 64
below a b ha hb = lt_of_le_of_lt (mul-le-mul_left a (le_of_lt hb)) (mul-lt-mul_of_pos_right ha (pow_pos 32))

-- a * b by halves
halves : (ah al bh bl : ℕ) → (ah * 4294967296 + al) * (bh * 4294967296 + bl) ≡ ah * bh * 2 ^ 64 + (al * bl + (ah * bl + al * bh) * 4294967296)
halves ah al bh bl =
    let b = bh * 4294967296 + bl in
    let e₁ : (ah * 4294967296 + al) * b ≡ ah * 4294967296 * b + al * b = add-mul (ah * 4294967296) al b in
    let e₂ : ah * 4294967296 * b ≡ ah * b * 4294967296 = mul_assoc ah 4294967296 b ∙ ap (λ (x : ℕ). ah * x) (mul_comm 4294967296 b) ∙ sym (mul_assoc ah b 4294967296) in
    let e₃ : ah * b ≡ ah * bh * 4294967296 + ah * bl = mul-add ah (bh * 4294967296) bl ∙ ap (λ (x : ℕ). x + ah * bl) (sym (mul_assoc ah bh 4294967296)) in
    let e₄ : al * b ≡ al * bh * 4294967296 + al * bl = mul-add al (bh * 4294967296) bl ∙ ap (λ (x : ℕ). x + al * bl) (sym (mul_assoc al bh 4294967296)) in
    omega arith

-- a middle part cut to 64 bits and then shifted
shifted : (m : ℕ) → (m % 2 ^ 64 * 2 ^ 32) % 2 ^ 64 ≡ (m * 4294967296) % 2 ^ 64
shifted m =
    sym (mul-add-mod_self_right (m / 2 ^ 64 * 4294967296) (2 ^ 64) (m % 2 ^ 64 * 2 ^ 32))
    ∙ ap (λ (x : ℕ). x % 2 ^ 64) (omega (arith, div-add-mod' m (2 ^ 64)))

pub product : (a b : ℕ)
    → (a % 4294967296 * (b % 4294967296) + ((a / 4294967296 * (b % 4294967296) + a % 4294967296 * (b / 4294967296)) % 2 ^ 64 * 2 ^ 32) % 2 ^ 64) % 2 ^ 64 ≡ a * b % 2 ^ 64
product a b =
    let ah = a / 4294967296 in
    let al = a % 4294967296 in
    let bh = b / 4294967296 in
    let bl = b % 4294967296 in
    let m = ah * bl + al * bh in
    ap (λ (x : ℕ). (al * bl + x) % 2 ^ 64) (shifted m) ∙ add-mod-mod (al * bl) (m * 4294967296) (2 ^ 64)
    ∙ sym (mul-add-mod_self_right (ah * bh) (2 ^ 64) (al * bl + m * 4294967296))
    ∙ ap (λ (x : ℕ). x % 2 ^ 64) (sym (halves ah al bh bl) ∙ ap₂ ◌*◌ (div-add-mod' a 4294967296) (div-add-mod' b 4294967296))
