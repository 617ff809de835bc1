-- The output for lines after whole lines, and for a line that is too long: its first most + 1 bytes answer for all of
-- it.
use Prim.Native.Nat.{ℕ, suc, ◌+◌, ◌≤◌, ◌<◌}
use mathlib.Core.Path.{◌≡◌, refl, ap, sym, ◌∙◌}
use mathlib.Core.List.{List, [], ◌∷◌, ◌++◌, append_assoc, append-nil}
use mathlib.Core.Bool.{Bool, true, false, cond, ◌||◌, true≢false}
use native.Mathlib.Omega.{arith}
use lib.ListN.{length, take, length-append}
use lib.Seq.{take_all, take_at, take-append-le, length-take-le}
use lib.Dec.{eqb, leb}
use borrow.Author.Tests.{leb-true, leb-false}
use Rattle.texts.specs.Bytes.{is, holds, index_of, parts_at}
use Rattle.line_laws.specs.Lines.{lines_of, answers_to, output_of, whole_of, whole_lines, Cut}
use Rattle.line_laws.proofs.LineLaws as lines
use Rattle.line_laws.proofs.LineLaws.{Split, split, none_whole, first_line, lines_append, onto_head, lines_open, open_take, open_append, before_lines}

module _ (step : List ℕ → List ℕ) where
  -- the first n + 1 bytes of t are its first line
  pub line_output : (t : List ℕ) (n : ℕ) → n ≡ index_of (is 10) t → n < length t → output_of step (take (n + 1) t) ≡ step (take n t) ++ (10 ∷ [])
  unfolding output_of answers_to
  line_output t n e h =
      let k : n + 1 ≡ suc (index_of (is 10) t) = omega (arith, e) in
      ap (λ (m : ℕ). answers_to step (lines_of (take m t))) k ∙ ap (answers_to step) (first_line t (omega (arith, e))) ∙ ap (λ (m : ℕ). step (take m t) ++ (10 ∷ [])) (sym e)

  -- ---- lines after whole lines
  answers_append : (l m : List (List ℕ)) → answers_to step (l ++ m) ≡ answers_to step l ++ answers_to step m
  unfolding answers_to
  answers_append [] m = refl
  answers_append (a ∷ l) m =
      ap (λ (z : List ℕ). step a ++ (10 ∷ z)) (answers_append l m) ∙ sym (append_assoc (step a) (10 ∷ answers_to step l) (answers_to step m))

  pub output_nil : output_of step [] ≡ []
  unfolding output_of answers_to parts_at
  output_nil = refl

  pub output_append : (t x : List ℕ) → whole_of t ≡ length t → output_of step (t ++ x) ≡ output_of step t ++ output_of step x
  unfolding output_of
  output_append t x e = ap (answers_to step) (lines_append t x e) ∙ answers_append (lines_of t) (lines_of x)

  -- ---- a line that is not whole yet
  pub open_output : (t : List ℕ) → whole_of t ≡ 0 → 0 < length t → output_of step (t ++ []) ≡ step t ++ (10 ∷ [])
  unfolding output_of answers_to parts_at onto_head
  open_output t e h = ap (answers_to step) (lines_open t [] e h)

  -- two lines that are answered alike, whatever follows them
  same_head : (t u : List ℕ) → ((x : List ℕ) → step (t ++ x) ≡ step (u ++ x)) → (l : List (List ℕ)) → answers_to step (onto_head t l) ≡ answers_to step (onto_head u l)
  unfolding answers_to onto_head
  same_head t u h [] = ap (λ (a : List ℕ). a ++ (10 ∷ [])) (ap step (sym (append-nil t)) ∙ h [] ∙ ap step (append-nil u))
  same_head t u h (f ∷ l) = ap (λ (a : List ℕ). a ++ (10 ∷ answers_to step l)) (h f)

  module _ (most : ℕ) (cut : Cut step most) where
    -- of a line that is too long, the first most + 1 bytes answer for all, whatever follows
    long_step : (t x : List ℕ) → most + 1 ≤ length t → step (take (most + 1) t ++ x) ≡ step (t ++ x)
    long_step t x h =
        let u = take (most + 1) t in
        sym (cut (u ++ x)) ∙ ap step (take_at u x (most + 1) (length-take-le (most + 1) t h) ∙ sym (take-append-le (most + 1) t x h)) ∙ cut (t ++ x)

    pub kept_output : (t x : List ℕ) → whole_of t ≡ 0 → output_of step (take (most + 1) t ++ x) ≡ output_of step (t ++ x)
    unfolding output_of
    kept_output t x e = go (leb (length t) (most + 1)) refl
      where
        go : (q : Bool) → leb (length t) (most + 1) ≡ q → output_of step (take (most + 1) t ++ x) ≡ output_of step (t ++ x)
        go true q = ap (λ (u : List ℕ). output_of step (u ++ x)) (take_all (most + 1) t (leb-true (length t) (most + 1) q))
        go false q =
            let h = leb-false (length t) (most + 1) q in
            let k : length (take (most + 1) t) ≡ most + 1 = length-take-le (most + 1) t (omega arith) in
            ap (answers_to step) (lines_open (take (most + 1) t) x (open_take (most + 1) t e) (omega (arith, k)))
            ∙ same_head (take (most + 1) t) t (λ (y : List ℕ). long_step t y (omega arith)) (lines_of x)
            ∙ ap (answers_to step) (sym (lines_open t x e (omega arith)))

    -- the same of the whole lines alone
    pub kept_whole : (t x : List ℕ) → whole_of t ≡ 0 → output_of step (whole_lines (take (most + 1) t ++ x)) ≡ output_of step (whole_lines (t ++ x))
    kept_whole t x e = go (split (whole_of x))
      where
        go : Split (whole_of x) → output_of step (whole_lines (take (most + 1) t ++ x)) ≡ output_of step (whole_lines (t ++ x))
        go (lines.none z) =
            ap (output_of step)
            (none_whole (take (most + 1) t ++ x) (open_append (take (most + 1) t) x (open_take (most + 1) t e) z) ∙ sym (none_whole (t ++ x) (open_append t x e z)))
        go (lines.some p) = ap (output_of step) (before_lines (take (most + 1) t) x p) ∙ kept_output t (whole_lines x) e ∙ ap (output_of step) (sym (before_lines t x p))

-- ---- one line
feed_after : (l : List ℕ) → holds 10 l ≡ false → index_of (is 10) (l ++ (10 ∷ [])) ≡ length l
unfolding holds index_of is
feed_after [] h = refl
feed_after (b ∷ l) h = go (eqb b 10) h (λ (g : holds 10 l ≡ false). feed_after l g)
  where
    go : (q : Bool) → (q || holds 10 l) ≡ false → (holds 10 l ≡ false → index_of (is 10) (l ++ (10 ∷ [])) ≡ length l)
        → cond q 0 (suc (index_of (is 10) (l ++ (10 ∷ [])))) ≡ suc (length l)
    go true g i = absurd (true≢false g)
    go false g i = ap suc (i g)

-- an input of one line: its answer and a line feed
pub one_line : (step : List ℕ → List ℕ) (l : List ℕ) → holds 10 l ≡ false → output_of step (l ++ (10 ∷ [])) ≡ step l ++ (10 ∷ [])
one_line step l h =
    let t = l ++ (10 ∷ []) in
    let n : length t ≡ length l + 1 = length-append l (10 ∷ []) in
    ap (output_of step) (sym (take_all (length l + 1) t (omega (arith, n))))
    ∙ line_output step t (length l) (sym (feed_after l h)) (omega (arith, n))
    ∙ ap (λ (x : List ℕ). step x ++ (10 ∷ [])) (take_at l (10 ∷ []) (length l) refl)
