-- The list is what the rules say, by bits.
use mathlib.Core.Path.{◌≡◌, refl}
use Prim.Native.Nat.{◌≤◌}
use native.Mathlib.Omega.{arith}
use mathlib.Core.List.Memᴰ.{not-nil}
use mathlib.Core.List.{List, [], ◌∷◌, Memᴰ as Member}
use mathlib.Core.Logic.{inl, inr}
use Rattle.positions.specs.Boards.{Board}
use Rattle.rules.specs.Lists.{longest}
use Rattle.rules.specs.Ordered.{count, captures, quiets, same_bits, bit_legal}
use Rattle.rules.specs.Rules.{BitMove, BitLegal, capture, quiet, Fair}
use Rattle.rules.proofs.Tree.{Reached}
use Rattle.rules.proofs.Captures.{of_captures, in_captures, shut_law}
use Rattle.rules.proofs.Held.{Longest, of_longest, in_longest}
use Rattle.rules.proofs.Quiets.{of_quiets, in_quiets}
use Rattle.rules.proofs.Same.{bits_refl, bits_true}

-- where no piece can jump the list is of quiet moves
pub bits_none : (b : Board) → captures b ≡ [] → bit_legal b ≡ quiets b
unfolding bit_legal
bits_none b e = rw (e, bit_legal) refl

-- else of the longest captures
pub bits_some : (b : Board) (c : BitMove) (cs : List BitMove) → captures b ≡ c ∷ cs → bit_legal b ≡ longest same_bits count (captures b)
unfolding bit_legal
bits_some b c cs e = rw (e, bit_legal) refl

module _ (b : Board) (fair : Fair b) where
  pub bits_sound : (m : BitMove) → Member m (bit_legal b) → BitLegal b m
  bits_sound m h = go (captures b) refl
    where
      most : (w : BitMove) → Longest count (captures b) m → Reached count w (captures b) → count w ≤ count m
      most w l (inl k) = l.most w k
      most w l (inr k) = omega (arith, l.most k.0 k.1, k.2)

      go : (l : List BitMove) → captures b ≡ l → BitLegal b m
      go [] e = quiet ((shut_law b fair).0 e) (of_quiets b fair m (rw (bits_none b e) at h))
      go (c ∷ cs) e =
          let l = of_longest same_bits bits_refl bits_true count (captures b) m (rw (bits_some b c cs e) at h) in
          capture (of_captures b fair m l.among) (λ w k. most w l (in_captures b fair w k))

  pub bits_complete : (m : BitMove) → BitLegal b m → Member m (bit_legal b)
  bits_complete m (capture c most) = go (captures b) refl (in_captures b fair m c)
    where
      in_list : Reached count m (captures b) → Member m (captures b)
      in_list (inl k) = k
      in_list (inr k) = absurd (omega (arith, most k.0 (of_captures b fair k.0 k.1), k.2))

      go : (l : List BitMove) → captures b ≡ l → Reached count m (captures b) → Member m (bit_legal b)
      go [] e r = absurd (not-nil (rw e at (in_list r)))
      go (x ∷ xs) e r =
          rw (bits_some b x xs e) (in_longest same_bits bits_refl bits_true count (captures b) m
          (record { among = in_list r; most = λ y k. most y (of_captures b fair y k) }))
  bits_complete m (quiet none q) = rw (bits_none b ((shut_law b fair).1 none)) (in_quiets b fair q)
