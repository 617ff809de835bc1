-- An array of n entries of any kind: the first ones, then the same filler, before and after one more is stored.
use mathlib.Core.Path.{◌≡◌, refl, sym, ap, ◌∙◌}
use Prim.Native.Nat.{ℕ, zero, suc, ◌-◌, ◌≤◌, ◌<◌, min}
use native.Mathlib.Omega.{arith}
use mathlib.Core.Bool.{Bool, true, false}
use mathlib.Core.List.{List, [], ◌∷◌, ◌++◌, append-nil}
use lib.ListN.{length, take, drop, set, replicate}
use lib.Seq.{take-append-le, take-append_seam, take_all, take-take}
use lib.Dec.{ltb}
use borrow.Author.Tests.{ltb-true, ltb-false}

-- n entries, where x fills up
module _ {A : Type 0} (x : A) where
  abbrev pub filled : ℕ → List A → List A
  filled n xs = take n (xs ++ replicate n x)

  -- as many as there are
  pub front_of : (n : ℕ) (xs : List A) → length xs ≤ n → take (length xs) (filled n xs) ≡ xs
  front_of n xs h = take-take (length xs) n (xs ++ replicate n x) h ∙ take-append_seam xs (replicate n x)

  pub front : (n : ℕ) (xs : List A) → length xs ≤ n → take (min n (length xs)) (filled n xs) ≡ xs
  front n xs h =
      let k : min n (length xs) ≡ length xs = omega arith in
      ap (λ (i : ℕ). take i (filled n xs)) k ∙ front_of n xs h

  take_replicate : (n k : ℕ) → n ≤ k → take n (replicate k x) ≡ replicate n x
  take_replicate zero k h = refl
  take_replicate (suc n) zero h = absurd (omega arith)
  take_replicate (suc n) (suc k) h = ap (λ (l : List A). x ∷ l) (take_replicate n k (omega arith))

  -- no move: all blank
  pub none_filled : (n : ℕ) → replicate n x ≡ filled n []
  none_filled n = sym (take_replicate n n (omega arith))

  -- a store to the entry behind the last
  pub store : (n k : ℕ) (xs : List A) (m : A) → length xs < n → n ≤ k
      → set (take n (xs ++ replicate k x)) (length xs) m ≡ take n ((xs ++ (m ∷ [])) ++ replicate k x)
  store zero k xs m h q = absurd (omega arith)
  store (suc n) zero [] m h q = absurd (omega arith)
  store (suc n) (suc k) [] m h q =
      ap (λ (l : List A). m ∷ l) (take_replicate n k (omega arith) ∙ sym (take_replicate n (suc k) (omega arith)))
  store (suc n) k (y ∷ xs) m h q = ap (λ (l : List A). y ∷ l) (store n k xs m (omega arith) (omega arith))

  -- ---- n entries moved into k
  more_filler : (k r q : ℕ) → k ≤ q → take k (replicate r x ++ replicate q x) ≡ replicate k x
  more_filler zero r q h = refl
  more_filler (suc k) zero q h = take_replicate (suc k) q h
  more_filler (suc k) (suc r) q h = ap (λ (l : List A). x ∷ l) (more_filler k r q (omega arith))

  dropped : (k r q : ℕ) (xs : List A) → k ≤ q → take k ((xs ++ replicate r x) ++ replicate q x) ≡ take k (xs ++ replicate q x)
  dropped zero r q xs h = refl
  dropped (suc k) r q [] h = more_filler (suc k) r q h ∙ sym (take_replicate (suc k) q h)
  dropped (suc k) r q (y ∷ xs) h = ap (λ (l : List A). y ∷ l) (dropped k r q xs (omega arith))

  split : (n p : ℕ) (xs : List A) → length xs ≤ n → n ≤ p → take n (xs ++ replicate p x) ≡ xs ++ replicate (n - length xs) x
  split n p [] h q = let e : n ≡ n - 0 = omega arith in take_replicate n p q ∙ ap (λ (j : ℕ). replicate j x) e
  split zero p (y ∷ xs) h q = absurd (omega arith)
  split (suc n) p (y ∷ xs) h q =
      let e : n - length xs ≡ suc n - suc (length xs) = omega arith in
      ap (λ (l : List A). y ∷ l) (split n p xs (omega arith) (omega arith)) ∙ ap (λ (j : ℕ). (y ∷ xs) ++ replicate j x) e

  pub refilled : (n k : ℕ) (xs : List A) → length xs ≤ n → take k (filled n xs ++ replicate k x) ≡ filled k xs
  refilled n k xs h = ap (λ (l : List A). take k (l ++ replicate k x)) (split n n xs h (omega arith)) ∙ dropped k (n - length xs) k xs (omega arith)

  over_filler : (k q : ℕ) (xs : List A) → length xs ≤ k → k ≤ q → xs ++ drop (length xs) (replicate k x) ≡ take k (xs ++ replicate q x)
  over_filler k q [] h l = sym (take_replicate k q l)
  over_filler zero q (y ∷ xs) h l = absurd (omega arith)
  over_filler (suc k) q (y ∷ xs) h l = ap (λ (m : List A). y ∷ m) (over_filler k q xs (omega arith) (omega arith))

  -- the first entries copied onto k of the filler, as many as go
  pub copied : (n k i : ℕ) (xs : List A) → length xs ≡ n → i ≡ min n k → take i xs ++ drop i (replicate k x) ≡ take k (xs ++ replicate k x)
  copied n k i xs h e = go (ltb n k) refl
    where
      nothing : (j : ℕ) → drop j (replicate j x) ≡ []
      nothing zero = refl
      nothing (suc j) = nothing j

      go : (b : Bool) → ltb n k ≡ b → take i xs ++ drop i (replicate k x) ≡ take k (xs ++ replicate k x)
      go true q =
          let lt = ltb-true n k q in
          let all : i ≡ length xs = omega arith in
          ap (λ (j : ℕ). take j xs ++ drop j (replicate k x)) all ∙ ap (λ (l : List A). l ++ drop (length xs) (replicate k x)) (take_all (length xs) xs (omega arith))
          ∙ over_filler k k xs (omega arith) (omega arith)
      go false q =
          let ge = ltb-false n k q in
          let some : i ≡ k = omega arith in
          ap (λ (j : ℕ). take j xs ++ drop j (replicate k x)) some ∙ ap (λ (l : List A). take k xs ++ l) (nothing k) ∙ append-nil (take k xs) ∙ sym (take-append-le k xs (replicate k x) (omega arith))
