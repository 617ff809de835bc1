-- Reading a move's text: one separator is enough to split at; one square more.
use Rattle.std.specs.Prelude.{Err, Ok, Result}
use Rattle.std.specs.Result.{is_ok}
use Rattle.std.specs.List.{list_any}
use Prim.Native.Nat.{ℕ, suc, ◌+◌, ◌<◌}
use native.Mathlib.Omega.{arith}
use native.Mathlib.Numerals.{add-one}
use lib.ListN.{length, drop, get_or, drop_of_length-le}
use lib.Seq.{drop-cons}
use mathlib.Core.Path.{◌≡◌, refl, sym, ap, ap₂, ◌∙◌}
use mathlib.Core.List.{List, [], ◌∷◌}
use mathlib.Core.Bool.{Bool, true, false, cond, ◌&&◌, ◌||◌}
use lib.Dec.{eqb, leb}
use borrow.Author.Tests.{eqb-true}
use Rattle.texts.specs.Bytes.{is, holds, split_on, read_square}
use Rattle.texts.proofs.ListLaws.{lacks_held, split_agree}
use Rattle.notation.specs.Notation.{at_cut, malformed, unsaid, as_first, as_second, as_later, heard_square, on_square, heard_squares, well_formed, in_form, heard_trimmed}
use Rattle.notation.specs.declared.notation.Said.{Said}
use Rattle.squares.specs.declared.refusal.Refusal.{Refusal}

-- ---- one separator is enough: without an x, at -; without a -, at x
pub split_dash : (s : List ℕ) → holds 120 s ≡ false → split_on at_cut s ≡ split_on (is 45) s
unfolding at_cut
split_dash s h = split_agree at_cut (is 45) (is 120) (λ b e. ap (λ (x : Bool). is 45 b || x) e ∙ or_none (is 45 b)) s (lacks_held 120 s h)
  where
    or_none : (x : Bool) → (x || false) ≡ x
    or_none true = refl
    or_none false = refl

pub split_cross : (s : List ℕ) → holds 45 s ≡ false → split_on at_cut s ≡ split_on (is 120) s
unfolding at_cut
split_cross s h = split_agree at_cut (is 120) (is 45) (λ b e. ap (λ (x : Bool). x || is 120 b) e) s (lacks_held 45 s h)

-- a byte is held where some byte equals it
pub holds_any : (c : ℕ) (s : List ℕ) → list_any (λ b. eqb b c) s ≡ holds c s
unfolding holds
holds_any c [] = refl
holds_any c (b ∷ s) = ap (λ (t : Bool). eqb b c || t) (holds_any c s)

-- ---- one square more
pub kept : (h : Said) (n : ℕ) → (heard_square h n).capture ≡ h.capture
unfolding heard_square
kept h n = go (eqb h.count 0) (eqb h.count 1)
  where
    go : (s t : Bool) → ◌≡◌ {A = Bool} (cond s (as_first h n) (cond t (as_second h n) (as_later h n))).capture h.capture
    go true t = refl
    go false true = refl
    go false false = refl

pub one_more : (h : Said) (n : ℕ) → (heard_square h n).count ≡ h.count + 1
unfolding heard_square
one_more h n = go (eqb h.count 0) refl (eqb h.count 1) refl
  where
    go : (s : Bool) → eqb h.count 0 ≡ s → (t : Bool) → eqb h.count 1 ≡ t
        → ◌≡◌ {A = ℕ} (cond s (as_first h n) (cond t (as_second h n) (as_later h n))).count (h.count + 1)
    go true e t f = ap (λ (x : ℕ). x + 1) (sym (eqb-true h.count 0 e))
    go false e true f = ap (λ (x : ℕ). x + 1) (sym (eqb-true h.count 1 f))
    go false e false f = refl

-- w is what is heard of all the parts, after k of them
module _ (all : List (List ℕ)) (h : Said) (k : ℕ) (w : Result Said Refusal) (g : heard_squares h (drop k all) ≡ w) where
  pub heard_end : k ≡ length all → Ok h ≡ w
  unfolding heard_squares
  heard_end e = ap (heard_squares h) (sym (drop_of_length-le all (omega (arith, e)))) ∙ g

  -- a is what is read of the next part
  module _ (t : List ℕ) (l : k < length all) (e : t ≡ get_or all k t) {a : Result ℕ Refusal} (q : a ≡ read_square t) where
    one_part : on_square a (λ n. heard_squares (heard_square h n) (drop (k + 1) all)) ≡ w
    unfolding heard_squares
    one_part =
        ap (λ (a : Result ℕ Refusal). on_square a (λ n. heard_squares (heard_square h n) (drop (k + 1) all))) q
        ∙ ap (λ (n : ℕ). heard_squares h (t ∷ drop n all)) (add-one k)
        ∙ ap (λ (y : List ℕ). heard_squares h (y ∷ drop (suc k) all)) e
        ∙ ap (heard_squares h) (sym (drop-cons all k t l)) ∙ g

    pub heard_next : {n : ℕ} → a ≡ Ok n → heard_squares (heard_square h n) (drop (k + 1) all) ≡ w
    heard_next z = sym (ap (λ (a : Result ℕ Refusal). on_square a (λ n. heard_squares (heard_square h n) (drop (k + 1) all))) z) ∙ one_part

    pub heard_stop : is_ok a ≡ false → malformed ≡ w
    heard_stop z = go a z ∙ one_part
      where
        go : (a : Result ℕ Refusal) → is_ok a ≡ false → malformed ≡ on_square a (λ n. heard_squares (heard_square h n) (drop (k + 1) all))
        go (Ok n) z = absurd (let q : true ≡ false = z in cc)
        go (Err x) z = refl

-- ---- the form

-- a capture with a - is malformed, whatever its squares are
dashed : (h : Said) (fs : List (List ℕ)) → h.capture ≡ true → in_form true (heard_squares h fs) ≡ malformed
unfolding heard_squares well_formed
dashed h [] e = ap (λ (t : Bool). cond (cond t (leb 2 h.count && false) (eqb h.count 2)) (Ok h) malformed) e ∙ last (leb 2 h.count)
  where
    last : (t : Bool) → cond (t && false) (Ok h) malformed ≡ malformed
    last true = refl
    last false = refl
dashed h (f ∷ fs) e = go (read_square f) (λ n. dashed (heard_square h n) fs (kept h n ∙ e))
  where
    go : (a : Result ℕ Refusal) → ((n : ℕ) → in_form true (heard_squares (heard_square h n) fs) ≡ malformed)
        → in_form true (on_square a (λ n. heard_squares (heard_square h n) fs)) ≡ malformed
    go (Ok n) ih = ih n
    go (Err x) ih = refl

with_cross : (t : List ℕ) (d : Bool) → d ≡ holds 45 t → holds 120 t ≡ true
    → in_form d (heard_squares (unsaid true) (split_on (is 120) t)) ≡ heard_trimmed t
unfolding heard_trimmed unsaid
with_cross t true e x =
    dashed (unsaid true) (split_on (is 120) t) refl
    ∙ sym (ap₂ (λ (u v : Bool). in_form u (heard_squares (unsaid v) (split_on at_cut t))) (sym e) x ∙ dashed (unsaid true) (split_on at_cut t) refl)
with_cross t false e x =
    ap (λ (l : List (List ℕ)). in_form false (heard_squares (unsaid true) l)) (sym (split_cross t (sym e)))
    ∙ sym (ap₂ (λ (u v : Bool). in_form u (heard_squares (unsaid v) (split_on at_cut t))) (sym e) x)

without_cross : (t : List ℕ) (d : Bool) → d ≡ holds 45 t → holds 120 t ≡ false
    → in_form d (heard_squares (unsaid false) (split_on (is 45) t)) ≡ heard_trimmed t
unfolding heard_trimmed
without_cross t d e x =
    ap (λ (l : List (List ℕ)). in_form d (heard_squares (unsaid false) l)) (sym (split_dash t x))
    ∙ sym (ap₂ (λ (u v : Bool). in_form u (heard_squares (unsaid v) (split_on at_cut t))) (sym e) x)

-- what was read of a text that was split at the separator of its kind
pub separated : (t : List ℕ) (d x : Bool) (a : Result Said Refusal) → d ≡ holds 45 t → x ≡ holds 120 t
    → a ≡ heard_squares (unsaid x) (split_on (is (cond x 120 45)) t) → in_form d a ≡ heard_trimmed t
separated t d x a e f g = ap (in_form d) g ∙ go x (sym f)
  where
    go : (y : Bool) → holds 120 t ≡ y → in_form d (heard_squares (unsaid y) (split_on (is (cond y 120 45)) t)) ≡ heard_trimmed t
    go true = with_cross t d e
    go false = without_cross t d e
