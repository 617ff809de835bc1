-- Writing into a space, text after text; what it makes of the bytes and of the place.
use Prim.Native.Nat.{ℕ, ◌+◌, ◌-◌, ◌≤◌, ◌<◌, min}
use mathlib.Core.Path.{◌≡◌, refl, ap, ap₂, sym, ◌∙◌, subst}
use native.Mathlib.Omega.{arith}
use borrow.Rule.Slice.Mut.{set_vals}
use borrow.Rule.Slice.PartMut.{put_mid}
use borrow.Author.Tests.{le-ltb}
use mathlib.Core.List.{List, [], ◌∷◌, ◌++◌}
use mathlib.Core.Bool.{Bool, true, false, cond}
use lib.Dec.{ltb}
use lib.ListN.{length, take, set}
use borrow.Author.Tests.{ltb-true, ltb-false}
use Rattle.texts.specs.declared.space.Space.{Space}
use Rattle.texts.specs.Lent.{over, byte_over, text_of, Adds}
use Rattle.texts.proofs.Pieces.{adds_none, adds_then, byte_fits, byte_out, starts, part_added}

-- ---- text after text
pub over_append : (t u : List ℕ) (s : Space) → over (t ++ u) s ≡ over u (over t s)
unfolding over
over_append [] u s = refl
over_append (b ∷ t) u s = over_append t u (byte_over b s)

pub over_none : (s : Space) → over [] s ≡ s
unfolding over
over_none s = refl

pub over_then : (t u : List ℕ) (a b c : Space) → b ≡ over t a → c ≡ over u b → c ≡ over (t ++ u) a
over_then t u a b c e f = f ∙ ap (over u) e ∙ sym (over_append t u a)

pub over_as : (t u : List ℕ) (a b : Space) → t ≡ u → b ≡ over t a → b ≡ over u a
over_as t u a b e f = f ∙ ap (λ (x : List ℕ). over x a) e

-- ---- the bytes and the place
byte_adds : (b : ℕ) (s : Space) → Adds (b ∷ []) s.bytes.now s.at (byte_over b s).bytes.now (byte_over b s).at
unfolding byte_over
byte_adds b s = go (ltb s.at (length s.bytes.now)) refl
  where
    go : (q : Bool) → ltb s.at (length s.bytes.now) ≡ q
        → Adds (b ∷ []) s.bytes.now s.at (cond q (record s { bytes = record s.bytes { now = set s.bytes.now s.at b }; at = s.at + 1 }) s).bytes.now (cond q (record s { bytes = record s.bytes { now = set s.bytes.now s.at b }; at = s.at + 1 }) s).at
    go true e = byte_fits s.bytes.now s.at b (ltb-true _ _ e)
    go false e = byte_out s.bytes.now s.at b (ltb-false _ _ e)

pub over_adds : (t : List ℕ) (s : Space) → Adds t s.bytes.now s.at (over t s).bytes.now (over t s).at
unfolding over
over_adds [] s = adds_none s.bytes.now s.at
over_adds (b ∷ t) s = adds_then (byte_adds b s) (over_adds t (byte_over b s))

-- the whole text, where there is room for it
pub over_text : (t : List ℕ) (s : Space) → s.at ≡ 0 → length t ≤ length s.bytes.now → text_of (over t s) ≡ t
unfolding text_of
over_text t s e h = (starts h (subst (λ (n : ℕ). Adds t s.bytes.now n (over t s).bytes.now (over t s).at) e (over_adds t s))).text

-- ---- the lent bytes are still the same
byte_name : (b : ℕ) (s : Space) → (byte_over b s).bytes.ghost_name ≡ s.bytes.ghost_name
unfolding byte_over
byte_name b s = go (ltb s.at (length s.bytes.now))
  where
    go : (q : Bool) → (cond q (record s { bytes = record s.bytes { now = set s.bytes.now s.at b }; at = s.at + 1 }) s).bytes.ghost_name ≡ s.bytes.ghost_name
    go true = refl
    go false = refl

pub over_name : (t : List ℕ) (s : Space) → (over t s).bytes.ghost_name ≡ s.bytes.ghost_name
unfolding over
over_name [] s = refl
over_name (b ∷ t) s = over_name t (byte_over b s) ∙ byte_name b s

pub same_name : (t : List ℕ) (a b : Space) → b ≡ over t a → b.bytes.ghost_name ≡ a.bytes.ghost_name
same_name t a b e = ap (λ (x : Space). x.bytes.ghost_name) e ∙ over_name t a

-- ---- a text that is copied whole, as far as there is room
-- nothing else of the space changes
byte_rest : (b : ℕ) (s : Space) → byte_over b s ≡ record { bytes = set_vals (byte_over b s).bytes.now s.bytes; at = (byte_over b s).at }
unfolding byte_over
byte_rest b s = go (ltb s.at (length s.bytes.now))
  where
    go : (q : Bool) → (let r = cond q (record s { bytes = record s.bytes { now = set s.bytes.now s.at b }; at = s.at + 1 }) s in r ≡ record { bytes = set_vals r.bytes.now s.bytes; at = r.at })
    go true = refl
    go false = refl

over_rest : (t : List ℕ) (s : Space) → over t s ≡ record { bytes = set_vals (over t s).bytes.now s.bytes; at = (over t s).at }
unfolding over
over_rest [] s = refl
over_rest (b ∷ t) s =
    over_rest t (byte_over b s)
    ∙ ap (λ (x : Space). record { bytes = set_vals (over t (byte_over b s)).bytes.now x.bytes; at = (over t (byte_over b s)).at }) (byte_rest b s)

-- where there is room for a byte
pub over_part : (t : List ℕ) (s : Space) (n : ℕ) → s.at < length s.bytes.now → n ≡ min (length t) (length s.bytes.now - s.at)
    → record { bytes = set_vals (put_mid s.at (s.at + n - s.at) s.bytes.now (take n t)) s.bytes; at = s.at + n } ≡ over t s
over_part t s n h e =
    let w = part_added (over_adds t s) (omega arith) e in
    ap₂ (λ (x : List ℕ) (i : ℕ). record { bytes = set_vals x s.bytes; at = i }) w.0 w.1 ∙ sym (over_rest t s)

-- where there is none
pub over_out : (t : List ℕ) (s : Space) → length s.bytes.now ≤ s.at → s ≡ over t s
unfolding over byte_over
over_out [] s h = refl
over_out (b ∷ t) s h = over_out t s h ∙ ap (λ (q : Bool). over t (cond q (record s { bytes = record s.bytes { now = set s.bytes.now s.at b }; at = s.at + 1 }) s)) (sym (le-ltb s.at (length s.bytes.now) h))

-- ---- a text at the start of lent bytes
pub over_lent : (t old : List ℕ) (s new : Space) → s.bytes.now ≡ old → s.at ≡ 0 → new ≡ over t s → Adds t old 0 new.bytes.now new.at
over_lent t old s new b z e =
    subst (λ (x : Space). Adds t old 0 x.bytes.now x.at) (sym e)
    (subst (λ (x : List ℕ). Adds t x 0 (over t s).bytes.now (over t s).at) b
    (subst (λ (n : ℕ). Adds t s.bytes.now n (over t s).bytes.now (over t s).at) z (over_adds t s)))

-- ---- w is the space after t and u: after t, it is that after u
pub over_moved : (t u : List ℕ) (w a b : Space) → over (t ++ u) a ≡ w → b ≡ over t a → over u b ≡ w
over_moved t u w a b g e = ap (over u) e ∙ sym (over_append t u a) ∙ g
