-- A move is legal exactly where a jump or a quiet move is open: of captures there is one that none beats in number.
use mathlib.Core.Path.{◌≡◌, refl, sym, ap, ◌∙◌}
use Prim.Native.Nat.{ℕ, ◌≤◌}
use native.Mathlib.Omega.{arith}
use mathlib.Core.Bool.{Bool, true, false, ◌||◌}
use mathlib.Core.List.Memᴰ.{cases_cons}
use mathlib.Core.List.Memᴰ.{head}
use mathlib.Core.List.Memᴰ.{not-nil}
use mathlib.Core.List.Memᴰ.{tail}
use mathlib.Core.List.{List, [], ◌∷◌, Memᴰ as Member}
use mathlib.Core.Logic.{◌⊎◌, inl, inr}
use lib.Dec.{leb}
use borrow.Author.Tests.{leb-true, leb-false}
use Rattle.positions.specs.Boards.{Board}
use Rattle.rules.specs.Ordered.{count, captures, quiets, same_bits, bit_legal, legal}
use Rattle.rules.specs.Rules.{BitMove, numbered}
use Rattle.rules.proofs.Agreement.{bits_none, bits_some}
use Rattle.rules.proofs.Held.{Longest, in_longest}
use Rattle.rules.proofs.Same.{bits_refl, bits_true}
use Rattle.rules.specs.Lists.{some}
use Rattle.rules.proofs.Lists.{some_map, some_in}

-- the longest of some entries
longest_of : {A : Type 0} (size : A → ℕ) (x : A) (xs : List A) → (y : A) × Longest size (x ∷ xs) y
longest_of {A} size x [] = (x, record { among = head refl; most = λ y m. only y (cases_cons m) })
  where
    only : (y : A) → (y ≡ x) ⊎ Member y [] → size y ≤ size x
    only y (inl e) = omega (arith, ap size e)
    only y (inr m) = absurd (not-nil m)
longest_of {A} size x (z ∷ zs) = go (longest_of size z zs)
  where
    go : (y : A) × Longest size (z ∷ zs) y → (y : A) × Longest size (x ∷ (z ∷ zs)) y
    go r = by (leb (size x) (size r.0)) refl
      where
        by : (t : Bool) → leb (size x) (size r.0) ≡ t → (y : A) × Longest size (x ∷ (z ∷ zs)) y
        by true e = (r.0, record { among = tail r.1.among; most = λ w m. old w (cases_cons m) })
          where
            old : (w : A) → (w ≡ x) ⊎ Member w (z ∷ zs) → size w ≤ size r.0
            old w (inl q) = omega (arith, ap size q, leb-true (size x) (size r.0) e)
            old w (inr m) = r.1.most w m
        by false e = (x, record { among = head refl; most = λ w m. new w (cases_cons m) })
          where
            new : (w : A) → (w ≡ x) ⊎ Member w (z ∷ zs) → size w ≤ size x
            new w (inl q) = omega (arith, ap size q)
            new w (inr m) = omega (arith, r.1.most w m, leb-false (size x) (size r.0) e)

pub some_legal : (b : Board) → some (legal b) ≡ (some (captures b) || some (quiets b))
unfolding legal
some_legal b = some_map numbered (bit_legal b) ∙ go (captures b) refl
  where
    go : (l : List BitMove) → captures b ≡ l → some (bit_legal b) ≡ (some (captures b) || some (quiets b))
    go [] e = ap some (bits_none b e) ∙ sym (ap (λ (l : List BitMove). some l || some (quiets b)) e ∙ unfold some in refl)
    go (c ∷ cs) e =
        let r = longest_of count c cs in
        some_in (bit_legal b) {x = r.0} (rw (bits_some b c cs e, e) (in_longest same_bits bits_refl bits_true count (c ∷ cs) r.0 r.1))
        ∙ sym (ap (λ (l : List BitMove). some l || some (quiets b)) e ∙ unfold some in refl)
