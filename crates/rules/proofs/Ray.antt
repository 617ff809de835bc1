-- The laws of rays.
use mathlib.Core.Path.{◌≡◌, refl, sym, ap, ◌∙◌, subst}
use Prim.Native.Nat.{ℕ, zero, suc, ◌+◌, ◌-◌, ◌^◌, ◌≤◌, ◌<◌}
use native.Mathlib.Omega.{arith}
use mathlib.Core.Bool.{Bool, true, false, cond}
use mathlib.Core.List.Memᴰ.{cases_cons}
use mathlib.Core.List.Memᴰ.{head}
use mathlib.Core.List.Memᴰ.{not-nil}
use mathlib.Core.List.Memᴰ.{tail}
use mathlib.Core.List.{List, [], ◌∷◌, Memᴰ as Member}
use mathlib.Core.Logic.{◌⊎◌, inl, inr}
use lib.Dec.{ltb}
use borrow.Author.Tests.{ltb-true, lt-ltb}
use Rattle.squares.specs.Directions.{Direction, up_left, up_right, down_left, down_right, next}
use Rattle.squares.specs.Sets.{has}
use Rattle.squares.proofs.Pointwise.{member_lt}
use Rattle.rules.specs.Ordered.{ahead, ray, last}
use Rattle.rules.specs.Rules.{Glide, rest, step, Flight}

-- how many steps are left at i along d: none off the board
abbrev to_go : Direction → ℕ → ℕ
to_go up_left i = i + 1
to_go up_right i = i + 1
to_go down_left i = 64 - i
to_go down_right i = 64 - i

abbrev left : Direction → ℕ → ℕ
left d i = cond (ltb i 54) (to_go d i) 0

to_go_pos : (d : Direction) (i : ℕ) → i < 54 → (0 < to_go d i) × (to_go d i ≤ 64)
to_go_pos up_left i h = omega arith
to_go_pos up_right i h = omega arith
to_go_pos down_left i h = omega arith
to_go_pos down_right i h = omega arith

to_go_falls : (d : Direction) (i : ℕ) → i < 54 → next d i < 54 → to_go d (next d i) < to_go d i
to_go_falls up_left i h l = omega arith
to_go_falls up_right i h l = omega arith
to_go_falls down_left i h l = omega arith
to_go_falls down_right i h l = omega arith

left_falls : (d : Direction) (i : ℕ) → i < 54 → left d (next d i) < left d i
left_falls d i h = rw (lt-ltb i 54 h) (go (ltb (next d i) 54) refl)
  where
    go : (b : Bool) → ltb (next d i) 54 ≡ b → cond b (to_go d (next d i)) 0 < to_go d i
    go true q = to_go_falls d i h (ltb-true (next d i) 54 q)
    go false q = (to_go_pos d i h).0

left_le : (d : Direction) (i : ℕ) → left d i ≤ 64
left_le d i = go (ltb i 54) refl
  where
    go : (b : Bool) → ltb i 54 ≡ b → cond b (to_go d i) 0 ≤ 64
    go true q = (to_go_pos d i (ltb-true i 54 q)).1
    go false q = omega arith

module _ (e : ℕ) (d : Direction) where
  pub ahead_on : (n i : ℕ) → has e (next d i) ≡ true → ahead (suc n) e d i ≡ next d i ∷ ahead n e d (next d i)
  unfolding ahead
  ahead_on n i q = rw (q, ahead) refl

  pub ahead_end : (n i : ℕ) → has e (next d i) ≡ false → ahead n e d i ≡ []
  unfolding ahead
  ahead_end zero i q = refl
  ahead_end (suc n) i q = rw (q, ahead) refl

  pub of_ahead : (n i j : ℕ) → Member j (ahead n e d i) → Flight e d i j
  unfolding ahead
  of_ahead zero i j m = absurd (not-nil m)
  of_ahead (suc n) i j m = go (λ h. of_ahead n (next d i) j h) (has e (next d i)) refl
    where
      on : has e (next d i) ≡ true → (Member j (ahead n e d (next d i)) → Flight e d (next d i) j)
          → (j ≡ next d i) ⊎ Member j (ahead n e d (next d i)) → Flight e d i j
      on q ih (inl p) = record { near = q; far = subst (λ z. Glide e d (next d i) z) (sym p) rest }
      on q ih (inr h) = let f = ih h in record { near = q; far = step f.near f.far }

      go : (Member j (ahead n e d (next d i)) → Flight e d (next d i) j) → (b : Bool) → has e (next d i) ≡ b → Flight e d i j
      go ih true q = on q ih (cases_cons (rw (ahead_on n i q) at m))
      go ih false q = absurd (not-nil (rw (ahead_end (suc n) i q) at m))

  last_ahead : (n i : ℕ) → Glide e d i (last i (ahead n e d i))
  unfolding ahead last
  last_ahead zero i = rest
  last_ahead (suc n) i = go (last_ahead n (next d i)) (has e (next d i)) refl
    where
      go : Glide e d (next d i) (last (next d i) (ahead n e d (next d i))) → (b : Bool) → has e (next d i) ≡ b
          → Glide e d i (last i (ahead (suc n) e d i))
      go ih true q = rw (ahead_on n i q) (step q ih)
      go ih false q = rw (ahead_end (suc n) i q) rest

  module _ (small : e < 2 ^ 54) where
    in54 : (i : ℕ) → has e i ≡ true → i < 54
    in54 i q = member_lt 54 e i small q

    -- a ray that has no more steps left than the fuel does not read it
    enough : (n i : ℕ) → left d (next d i) ≤ n → ahead (suc n) e d i ≡ ahead n e d i
    enough zero i l = go (has e (next d i)) refl
      where
        go : (b : Bool) → has e (next d i) ≡ b → ahead 1 e d i ≡ ahead 0 e d i
        go false q = ahead_end 1 i q ∙ sym (ahead_end 0 i q)
        go true q = absurd (omega (arith, left_falls d (next d i) (in54 (next d i) q)))
    enough (suc n) i l = go (λ k. enough n (next d i) k) (has e (next d i)) refl
      where
        go : (left d (next d (next d i)) ≤ n → ahead (suc n) e d (next d i) ≡ ahead n e d (next d i)) → (b : Bool) → has e (next d i) ≡ b
            → ahead (suc (suc n)) e d i ≡ ahead (suc n) e d i
        go ih false q = ahead_end (suc (suc n)) i q ∙ sym (ahead_end (suc n) i q)
        go ih true q =
            ahead_on (suc n) i q ∙ ap (λ (l : List ℕ). next d i ∷ l) (ih (omega (arith, left_falls d (next d i) (in54 (next d i) q))))
            ∙ sym (ahead_on n i q)

    pub ray_on : (i : ℕ) → has e (next d i) ≡ true → ray e d i ≡ next d i ∷ ray e d (next d i)
    unfolding ray
    ray_on i q =
        ahead_on 63 i q ∙ ap (λ (l : List ℕ). next d i ∷ l)
        (sym (enough 63 (next d i) (omega (arith, left_falls d (next d i) (in54 (next d i) q), left_le d (next d i)))))

  pub ray_end : (i : ℕ) → has e (next d i) ≡ false → ray e d i ≡ []
  unfolding ray
  ray_end i q = ahead_end 64 i q

  pub of_ray : (i j : ℕ) → Member j (ray e d i) → Flight e d i j
  unfolding ray
  of_ray i j m = of_ahead 64 i j m

  pub last_ray : (i : ℕ) → Glide e d i (last i (ray e d i))
  unfolding ray
  last_ray i = last_ahead 64 i

  module _ (small : e < 2 ^ 54) where
    in_glide : {u j : ℕ} → Glide e d u j → (i : ℕ) → u ≡ next d i → has e (next d i) ≡ true → Member j (ray e d i)
    in_glide (rest {i = u}) i p q = rw (ray_on small i q) (head p)
    in_glide (step {i = u} {j = j} h g) i p q =
        rw (ray_on small i q) (tail (in_glide g (next d i) (ap (next d) p) (subst (λ z. has e (next d z) ≡ true) p h)))

    pub in_ray : (i j : ℕ) → Flight e d i j → Member j (ray e d i)
    in_ray i j f = in_glide f.far i refl f.near

    -- a glide that cannot go on is the whole ray
    pub last_is : {i p : ℕ} → Glide e d i p → has e (next d p) ≡ false → last i (ray e d i) ≡ p
    unfolding last
    last_is (rest {i = i}) h = rw (ray_end i h) refl
    last_is (step {i = i} q g) h = rw (ray_on small i q) (last_is g h)

    glide_left : {i j : ℕ} → Glide e d i j → i < 54 → left d j ≤ left d i
    glide_left rest h = omega arith
    glide_left (step {i = i} q g) h = omega (arith, left_falls d i h, glide_left g (in54 small (next d i) q))

    pub glide_in : {i j : ℕ} → Glide e d i j → i < 54 → j < 54
    glide_in rest h = h
    glide_in (step {i = i} q g) h = glide_in g (in54 small (next d i) q)

    -- a flight ends elsewhere
    pub flight_off : (i j : ℕ) → i < 54 → Flight e d i j → j ≡ i → ⊥
    flight_off i j h f q = omega (arith, left_falls d i h, glide_left f.far (in54 small (next d i) f.near), ap (left d) q)
