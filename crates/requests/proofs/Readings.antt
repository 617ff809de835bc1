-- A text of a request is read from its first 4,097 bytes: a longer one is refused with 1 whether it is cut or not.
use Rattle.std.specs.Prelude.{Err, Result}
use Prim.Native.Nat.{ℕ, suc, ◌≤◌, ◌<◌}
use mathlib.Core.Path.{◌≡◌, refl, ap, sym, ◌∙◌}
use mathlib.Core.List.{List, [], ◌∷◌}
use Rattle.std.specs.List.{list_any}
use mathlib.Core.Bool.{Bool, true, false, cond, ◌&&◌, ◌||◌, true≢false, false≢true}
use native.Mathlib.Omega.{arith}
use lib.ListN.{length, take, length-take}
use lib.Seq.{take_all}
use lib.Dec.{leb, eqb}
use borrow.Author.Tests.{lt-leb, leb-true, leb-false}
use Rattle.squares.specs.declared.refusal.Refusal.TheVariants.{TextTooLong, BadPosition}
use Rattle.positions.specs.Acceptance.{sound}
use Rattle.positions.specs.declared.position.Position.{Position}
use Rattle.texts.specs.Bytes.{readable, from_str_of, is, index_of}
use Rattle.texts.proofs.Pieces.{part_of}
use Rattle.texts.specs.Fen.{from_fen_of}
use Rattle.texts.specs.Hub.{from_hub_of}
use Rattle.notation.specs.Notation.{read_move_of}
use Rattle.notation.specs.Choice.{parse_move_of}
use Rattle.wording.specs.Escapes.{Undid}
use Rattle.texts.specs.Bytes.{longest_text}
use Rattle.wording.specs.Escapes.{undone}
use Rattle.requests.specs.Reading.{either_of, fen_in, hub_in, position_in, move_in, square_in}
use Rattle.positions.specs.declared.moves.Move.{Move}
use Rattle.squares.specs.declared.refusal.Refusal.{Refusal}

-- ---- a text of more than 4,096 bytes, cut at 4,097
too_long : (s : List ℕ) → 4096 < length s → readable longest_text s ≡ false
unfolding readable
too_long s h = rw (lt-leb (length s) longest_text h)

pub cut : {A : Type 0} (f : List ℕ → A) (a : A) → ((s : List ℕ) → readable longest_text s ≡ false → f s ≡ a) → (t : List ℕ) → f (take 4097 t) ≡ f t
cut f a g t = go (leb (length t) 4097) refl
  where
    go : (b : Bool) → leb (length t) 4097 ≡ b → f (take 4097 t) ≡ f t
    go true e = ap f (take_all 4097 t (leb-true (length t) 4097 e))
    go false e =
        let l = leb-false (length t) 4097 e in
        g (take 4097 t) (too_long (take 4097 t) (omega (arith, length-take 4097 t, l))) ∙ sym (g t (too_long t (omega (arith, l))))

fen_refused : (s : List ℕ) → readable longest_text s ≡ false → from_fen_of s ≡ Err TextTooLong
unfolding from_fen_of
fen_refused s e = rw e

hub_refused : (s : List ℕ) → readable longest_text s ≡ false → from_hub_of s ≡ Err TextTooLong
unfolding from_hub_of
hub_refused s e = rw e

either_refused : (s : List ℕ) → readable longest_text s ≡ false → either_of s ≡ Err TextTooLong
unfolding either_of
either_refused s e = rw (fen_refused s e, hub_refused s e) (go (eqb (length s) 51 && eqb (index_of (is 58) s) 51))
  where
    go : (b : Bool) → ◌≡◌ {A = Result Position Refusal} (cond b (Err TextTooLong) (Err TextTooLong)) (Err TextTooLong)
    go true = refl
    go false = refl

square_refused : (s : List ℕ) → readable longest_text s ≡ false → from_str_of s ≡ Err TextTooLong
unfolding from_str_of
square_refused s e = rw e

move_refused : (p : Position) (s : List ℕ) → readable longest_text s ≡ false → parse_move_of p s ≡ cond (sound p) (Err TextTooLong) (Err BadPosition)
unfolding parse_move_of read_move_of
move_refused p s e = rw e

-- ---- the text of a word, as far as it was written
module _ (s o out : List ℕ) (n : ℕ) (long : length o ≡ 4097) (u : Undid s o out n) where
  pub cut_part : take n out ≡ take 4097 (undone s)
  cut_part =
      ap (λ (i : ℕ). take i out) u.answer ∙ part_of (record { bytes = u.bytes; place = refl }) ∙ ap (λ (k : ℕ). take k (undone s)) long

  pub fits : n ≤ length out
  fits = omega (arith, u.answer, ap length cut_part, length-take n out, length-take 4097 (undone s), long)

-- ---- what is read of the text t of the word s, as far as it was written
module _ (s t : List ℕ) where
  pub fen_read : (a : Result Position Refusal) → a ≡ from_fen_of t → t ≡ take 4097 (undone s) → a ≡ fen_in s
  unfolding fen_in
  fen_read a q e = q ∙ ap from_fen_of e ∙ cut from_fen_of _ fen_refused (undone s)

  pub hub_read : (a : Result Position Refusal) → a ≡ from_hub_of t → t ≡ take 4097 (undone s) → a ≡ hub_in s
  unfolding hub_in
  hub_read a q e = q ∙ ap from_hub_of e ∙ cut from_hub_of _ hub_refused (undone s)

  pub position_read : (a : Result Position Refusal) → a ≡ either_of t → t ≡ take 4097 (undone s) → a ≡ position_in s
  unfolding position_in
  position_read a q e = q ∙ ap either_of e ∙ cut either_of _ either_refused (undone s)

  pub move_read : (p : Position) (a : Result Move Refusal) → a ≡ parse_move_of p t → t ≡ take 4097 (undone s) → a ≡ move_in p s
  unfolding move_in
  move_read p a q e = q ∙ ap (parse_move_of p) e ∙ cut (parse_move_of p) _ (move_refused p) (undone s)

  pub square_read : (a : Result ℕ Refusal) → a ≡ from_str_of t → t ≡ take 4097 (undone s) → a ≡ square_in s
  unfolding square_in
  square_read a q e = q ∙ ap from_str_of e ∙ cut from_str_of _ square_refused (undone s)

-- ---- a text and its colons
pub colon_none : (t : List ℕ) → list_any (λ (y : ℕ). eqb y 58) t ≡ false → index_of (is 58) t ≡ length t
unfolding index_of is
colon_none [] e = refl
colon_none (b ∷ t) e = go (colon_none t) (eqb b 58) e
  where
    go : (list_any (λ (y : ℕ). eqb y 58) t ≡ false → index_of (is 58) t ≡ length t) → (q : Bool)
        → (q || list_any (λ (y : ℕ). eqb y 58) t) ≡ false → cond q 0 (suc (index_of (is 58) t)) ≡ suc (length t)
    go h true e = absurd (true≢false e)
    go h false e = ap suc (h e)

pub colon_some : (t : List ℕ) → list_any (λ (y : ℕ). eqb y 58) t ≡ true → index_of (is 58) t < length t
unfolding index_of is
colon_some [] e = absurd (false≢true e)
colon_some (b ∷ t) e = go (colon_some t) (eqb b 58) e
  where
    go : (list_any (λ (y : ℕ). eqb y 58) t ≡ true → index_of (is 58) t < length t) → (q : Bool)
        → (q || list_any (λ (y : ℕ). eqb y 58) t) ≡ true → cond q 0 (suc (index_of (is 58) t)) < suc (length t)
    go h true e = omega arith
    go h false e = omega (arith, h e)
