-- The texts that `given_of` takes are those that `decimal` writes: what is written is read back, and what is read was so written.
use Rattle.std.specs.Prelude.{None, Some}
use Prim.Native.Nat.{ℕ, zero, suc, ◌+◌, ◌*◌, ◌/◌, ◌%◌, ◌^◌, ◌≤◌, ◌<◌}
use mathlib.Core.Path.{◌≡◌, refl, sym, ap, ap₂, ◌∙◌}
use mathlib.Core.Bool.{Bool, true, false, cond, ◌&&◌}
use mathlib.Core.List.{List, [], ◌∷◌, ◌++◌, append_assoc, append-nil}
use native.Mathlib.Nat.{pow-suc, div-lt_iff_lt-mul}
use native.Mathlib.Omega.{arith}
use lib.Dec.{eqb, leb, ltb}
use lib.ListN.{length, get_or, length-append, get_or-append}
use borrow.Author.Tests.{eqb-true, eqb-false, ltb-true, ltb-false, lt-ltb, le-ltb, le-leb}
use Rattle.squares.proofs.Bools.{and_left}
use Rattle.io.specs.Digits.{hex_digit_ascii, last_digits}
use Rattle.wording.specs.Numbers.{digit_of, value_from, number_in, needless, given_of}
use Rattle.wording.specs.Output.{places, decimal}
use Rattle.wording.proofs.Given.{given_other, given_short, digit_is}
use Rattle.wording.proofs.Values.{decimal_digit, number_some}
use Rattle.std.specs.declared.option.Option.{Option}

glyph_digit : (d : ℕ) → d < 10 → digit_of (hex_digit_ascii d) ≡ d
glyph_digit d h = ap digit_of (rw (lt-ltb d 10 h)) ∙ decimal_digit (48 + d) (omega arith) (omega arith) ∙ omega arith

glyph_is : (d : ℕ) → d < 10 → hex_digit_ascii d ≡ 48 + d
glyph_is d h = rw (lt-ltb d 10 h)

module _ (limit : ℕ) where
  abbrev picked : ℕ → ℕ → List ℕ → Bool → Option ℕ
  picked v b s t = cond t (value_from 10 limit (v * 10 + digit_of b) s) None

  -- ---- written, then read
  value_snoc : (v u : ℕ) (s : List ℕ) (b : ℕ) → value_from 10 limit v s ≡ Some u → digit_of b < 10 → u * 10 + digit_of b ≤ limit
      → value_from 10 limit v (s ++ (b ∷ [])) ≡ Some (u * 10 + digit_of b)
  unfolding value_from
  value_snoc v u [] b e d l = let z : v ≡ u = cc in rw (z, lt-ltb (digit_of b) 10 d, le-leb (u * 10 + digit_of b) limit l)
  value_snoc v u (c ∷ s) b e d l = go (ltb (digit_of c) 10 && leb (v * 10 + digit_of c) limit) (λ q. value_snoc (v * 10 + digit_of c) u s b q d l) e
    where
      go : (t : Bool) → (value_from 10 limit (v * 10 + digit_of c) s ≡ Some u → value_from 10 limit (v * 10 + digit_of c) (s ++ (b ∷ [])) ≡ Some (u * 10 + digit_of b))
          → picked v c s t ≡ Some u → picked v c (s ++ (b ∷ [])) t ≡ Some (u * 10 + digit_of b)
      go true ih q = ih q
      go false ih q = absurd (let z : ◌≡◌ {A = ℕ} 0 1 = cc in omega arith)

  record Reads (n : ℕ) (s : List ℕ) : Type 0 where
    some : 0 < length s
    value : value_from 10 limit 0 s ≡ Some n
    lead : 0 < n → get_or s 0 0 ≡ 48 → ⊥
    short : n ≡ 0 → length s ≡ 1

  one_digit : (n : ℕ) → n < 10 → n ≤ limit → Reads n (hex_digit_ascii (n % 10) ∷ [])
  one_digit n h l =
      let m : n % 10 ≡ n = omega arith in
      let d : digit_of (hex_digit_ascii n) ≡ n = glyph_digit n h in
      rw m record {
        some = omega arith;
        value = value_snoc 0 0 [] (hex_digit_ascii n) (unfold value_from in refl) (omega (arith, d)) (omega (arith, d)) ∙ ap Some (omega (arith, d));
        lead = λ p e. omega (arith, p, e, glyph_is n h);
        short = λ _. refl;
      }

  more_digits : (u d n : ℕ) (s : List ℕ) → Reads u s → 0 < u → d < 10 → n ≡ u * 10 + d → n ≤ limit → Reads n (s ++ (hex_digit_ascii d ∷ []))
  more_digits u d n s r p h e l =
      let g = glyph_digit d h in
      record {
        some = omega (arith, length-append s (hex_digit_ascii d ∷ []));
        value = value_snoc 0 u s (hex_digit_ascii d) r.value (omega (arith, g)) (omega (arith, g, e)) ∙ ap Some (omega (arith, g, e));
        lead = λ _ q. r.lead p (sym (get_or-append s (hex_digit_ascii d ∷ []) 0 0 r.some) ∙ q);
        short = λ z. absurd (omega (arith, z, e));
      }

  digits_read : (f n : ℕ) → n < 10 ^ suc f → n ≤ limit → Reads n (last_digits 10 (places 10 f n) n)
  unfolding places
  digits_read zero n h l = one_digit n h l
  digits_read (suc f) n h l =
      go (ltb n 10) refl (digits_read f (n / 10) ((div-lt_iff_lt-mul {k = 10} {x = n} {y = 10 ^ suc f} (omega arith)).1 (omega (arith, pow-suc 10 (suc f)))) (omega arith))
    where
      go : (t : Bool) → ltb n 10 ≡ t → Reads (n / 10) (last_digits 10 (places 10 f (n / 10)) (n / 10))
          → Reads n (last_digits 10 (elim t [ true ↦ 1 | false ↦ suc (places 10 f (n / 10)) ]) n)
      go true e r = one_digit n (ltb-true n 10 e) l
      go false e r = more_digits (n / 10) (n % 10) n (last_digits 10 (places 10 f (n / 10)) (n / 10)) r (omega (arith, ltb-false n 10 e)) (omega arith) (omega arith) l

  pub given_decimal : (n : ℕ) → n ≤ limit → n < 2 ^ 64 → given_of limit (decimal n) ≡ Some n
  unfolding decimal
  given_decimal n l h = go (eqb n 0) refl
    where
      r : Reads n (last_digits 10 (places 10 19 n) n)
      r = digits_read 19 n (omega arith) l

      whole : number_in 10 limit (last_digits 10 (places 10 19 n) n) ≡ Some n
      whole = number_some 10 limit (last_digits 10 (places 10 19 n) n) (λ z. omega (arith, z, r.some)) ∙ r.value

      go : (t : Bool) → eqb n 0 ≡ t → given_of limit (last_digits 10 (places 10 19 n) n) ≡ Some n
      go true e = given_short limit (last_digits 10 (places 10 19 n) n) (omega (arith, r.short (eqb-true n 0 e))) ∙ whole
      go false e = given_other limit (last_digits 10 (places 10 19 n) n) (r.lead (omega (arith, eqb-false n 0 e))) ∙ whole

-- ---- read, then written
places_low : (f n : ℕ) → ltb n 10 ≡ true → places 10 (suc f) n ≡ 1
unfolding places
places_low f n e = ap (λ (t : Bool). elim t [ true ↦ 1 | false ↦ suc (places 10 f (n / 10)) ]) e

places_high : (f n : ℕ) → ltb n 10 ≡ false → places 10 (suc f) n ≡ suc (places 10 f (n / 10))
unfolding places
places_high f n e = ap (λ (t : Bool). elim t [ true ↦ 1 | false ↦ suc (places 10 f (n / 10)) ]) e

places_more : (f n : ℕ) → n < 10 ^ suc f → places 10 f n ≡ places 10 (suc f) n
unfolding places
places_more zero n h = sym (places_low 0 n (lt-ltb n 10 h))
places_more (suc f) n h = go (ltb n 10) (places_more f (n / 10) ((div-lt_iff_lt-mul {k = 10} {x = n} {y = 10 ^ suc f} (omega arith)).1 (omega (arith, pow-suc 10 (suc f)))))
  where
    go : (t : Bool) → places 10 f (n / 10) ≡ places 10 (suc f) (n / 10)
        → ◌≡◌ {A = ℕ} (elim t [ true ↦ 1 | false ↦ suc (places 10 f (n / 10)) ]) (elim t [ true ↦ 1 | false ↦ suc (places 10 (suc f) (n / 10)) ])
    go true e = refl
    go false e = ap suc e

decimal_one : (d : ℕ) → d < 10 → decimal d ≡ (48 + d) ∷ []
unfolding decimal
decimal_one d h =
    let m : d % 10 ≡ d = omega arith in
    ap (λ (k : ℕ). last_digits 10 k d) (places_low 18 d (lt-ltb d 10 h)) ∙ ap (λ (x : ℕ). hex_digit_ascii x ∷ []) m ∙ ap (λ (x : ℕ). x ∷ []) (glyph_is d h)

decimal_more : (v d : ℕ) → 0 < v → d < 10 → v * 10 + d < 2 ^ 64 → decimal (v * 10 + d) ≡ decimal v ++ ((48 + d) ∷ [])
unfolding decimal
decimal_more v d p h l =
    let n = v * 10 + d in
    let q : n / 10 ≡ v = omega arith in
    let m : n % 10 ≡ d = omega arith in
    let k : places 10 19 n ≡ suc (places 10 19 v) = places_high 18 n (le-ltb n 10 (omega arith)) ∙ ap (λ (x : ℕ). suc (places 10 18 x)) q ∙ ap suc (places_more 18 v (omega arith)) in
    ap (λ (x : ℕ). last_digits 10 x n) k ∙ ap₂ (λ (x y : ℕ). last_digits 10 (places 10 19 v) x ++ (hex_digit_ascii y ∷ [])) q m ∙ ap (λ (x : ℕ). last_digits 10 (places 10 19 v) v ++ (x ∷ [])) (glyph_is d h)

module _ (limit : ℕ) where
  rising : (v n : ℕ) (s : List ℕ) → value_from 10 limit v s ≡ Some n → v ≤ n
  unfolding value_from
  rising v n [] e = let z : v ≡ n = cc in omega (arith, z)
  rising v n (b ∷ s) e = go (ltb (digit_of b) 10 && leb (v * 10 + digit_of b) limit) (λ q. rising (v * 10 + digit_of b) n s q) e
    where
      go : (t : Bool) → (value_from 10 limit (v * 10 + digit_of b) s ≡ Some n → v * 10 + digit_of b ≤ n) → picked limit v b s t ≡ Some n → v ≤ n
      go true ih q = omega (arith, ih q)
      go false ih q = absurd (let z : ◌≡◌ {A = ℕ} 0 1 = cc in omega arith)

  written : (v n : ℕ) (s : List ℕ) → 0 < v → n < 2 ^ 64 → value_from 10 limit v s ≡ Some n → decimal v ++ s ≡ decimal n
  unfolding value_from
  written v n [] p l e = let z : v ≡ n = cc in append-nil (decimal v) ∙ ap decimal z
  written v n (b ∷ s) p l e =
      go (ltb (digit_of b) 10 && leb (v * 10 + digit_of b) limit) refl (λ q. written (v * 10 + digit_of b) n s (omega arith) l q) e
    where
      go : (t : Bool) → (ltb (digit_of b) 10 && leb (v * 10 + digit_of b) limit) ≡ t → (value_from 10 limit (v * 10 + digit_of b) s ≡ Some n → decimal (v * 10 + digit_of b) ++ s ≡ decimal n)
          → picked limit v b s t ≡ Some n → decimal v ++ (b ∷ s) ≡ decimal n
      go false f ih q = absurd (let z : ◌≡◌ {A = ℕ} 0 1 = cc in omega arith)
      go true f ih q =
          let d = ltb-true (digit_of b) 10 (and_left (ltb (digit_of b) 10) _ f) in
          let r = rising (v * 10 + digit_of b) n s q in
          sym (append_assoc (decimal v) (b ∷ []) s)
          ∙ ap (λ (x : ℕ). (decimal v ++ (x ∷ [])) ++ s) (digit_is b d)
          ∙ ap (λ (x : List ℕ). x ++ s) (sym (decimal_more v (digit_of b) p d (omega (arith, r))))
          ∙ ih q

  -- each number has one text
  pub given_says : (n : ℕ) (s : List ℕ) → n < 2 ^ 64 → given_of limit s ≡ Some n → s ≡ decimal n
  unfolding given_of needless number_in value_from
  given_says n [] l e = absurd (let z : ◌≡◌ {A = ℕ} 0 1 = cc in omega arith)
  given_says n (b ∷ []) l e = go (ltb (digit_of b) 10 && leb (0 * 10 + digit_of b) limit) refl e
    where
      go : (t : Bool) → (ltb (digit_of b) 10 && leb (0 * 10 + digit_of b) limit) ≡ t → cond t (Some (0 * 10 + digit_of b)) None ≡ Some n → b ∷ [] ≡ decimal n
      go false f q = absurd (let z : ◌≡◌ {A = ℕ} 0 1 = cc in omega arith)
      go true f q =
          let d = ltb-true (digit_of b) 10 (and_left (ltb (digit_of b) 10) _ f) in
          let z : 0 * 10 + digit_of b ≡ n = cc in
          ap (λ (x : ℕ). x ∷ []) (digit_is b d) ∙ sym (decimal_one (digit_of b) d) ∙ ap decimal (omega (arith, z))
  given_says n (b ∷ (c ∷ s)) l e = go (eqb b 48) refl (ltb (digit_of b) 10 && leb (0 * 10 + digit_of b) limit) refl e
    where
      go : (t : Bool) → eqb b 48 ≡ t → (u : Bool) → (ltb (digit_of b) 10 && leb (0 * 10 + digit_of b) limit) ≡ u → cond t None (picked limit 0 b (c ∷ s) u) ≡ Some n
          → b ∷ (c ∷ s) ≡ decimal n
      go true f u g q = absurd (let z : ◌≡◌ {A = ℕ} 0 1 = cc in omega arith)
      go false f false g q = absurd (let z : ◌≡◌ {A = ℕ} 0 1 = cc in omega arith)
      go false f true g q =
          let d = ltb-true (digit_of b) 10 (and_left (ltb (digit_of b) 10) _ g) in
          let i = digit_is b d in
          let v : 0 * 10 + digit_of b ≡ digit_of b = omega arith in
          let p : 0 < 0 * 10 + digit_of b = omega (arith, i, eqb-false b 48 f) in
          ap (λ (x : ℕ). x ∷ (c ∷ s)) i ∙ ap (λ (x : List ℕ). x ++ (c ∷ s)) (sym (decimal_one (digit_of b) d) ∙ ap decimal (sym v)) ∙ written (0 * 10 + digit_of b) n (c ∷ s) p l q
