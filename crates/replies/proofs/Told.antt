-- A text that is written into lent space that holds it, and passed on.
use Rattle.std.specs.Prelude.{Err, Ok, Result}
use Prim.Native.Nat.{ℕ, ◌≤◌, min}
use mathlib.Core.Path.{◌≡◌, refl, ap, sym, ◌∙◌}
use mathlib.Core.List.{List, []}
use mathlib.Core.Bool.{Bool, true, false, cond, ◌&&◌}
use native.Mathlib.Omega.{arith}
use lib.ListN.{length, take, drop}
use lib.Seq.{take-append_seam}
use lib.Dec.{leb}
use borrow.Author.Tests.{le-leb}
use Rattle.squares.specs.declared.refusal.Refusal.{Refusal}
use Rattle.squares.specs.declared.refusal.Refusal.TheVariants.{BadPosition, FenTooLong, SpaceTooShort}
use Rattle.positions.specs.Boards.{board_of}
use Rattle.positions.specs.Acceptance.{sound}
use Rattle.positions.specs.declared.position.Position.{Position}
use Rattle.positions.proofs.Accepts.{sound_says}
use Rattle.texts.specs.Lent.{emit_of, emitted}
use Rattle.texts.specs.Fen.{fen_text, fen_of, fen_lent}
use Rattle.texts.specs.Hub.{hub_text}
use Rattle.texts.proofs.FenLength.{fen_short}
use Rattle.texts.proofs.HubTrip.{hub_length}

-- ---- a text in lent space that is long enough
emit_done : (t o : List ℕ) → length t ≤ length o → emit_of t o ≡ Ok (length t)
unfolding emit_of
emit_done t o h = ap (λ (x : Bool). cond x (Ok (length t)) (Err SpaceTooShort)) (le-leb (length t) (length o) h)

emit_text : (t o : List ℕ) → length t ≤ length o → take (length t) (emitted t o) ≡ t
unfolding emitted
emit_text t o h = rw (le-leb (length t) (length o) h) (take-append_seam t (drop (length t) o))

-- what was written is passed on
pub written_put : (t o new : List ℕ) (r : Result ℕ Refusal) (may : Bool) (f : Refusal) (n m : ℕ) → (may ≡ true → length t ≤ 200) → length o ≡ 200
    → (r ≡ cond may (emit_of t o) (Err f)) × (new ≡ cond may (emitted t o) o) → r ≡ Ok n → m ≡ min n 200 → take m new ≡ cond may t []
written_put t o new r true f n m h l e q k =
    let s = h refl in
    let fits : length t ≤ length o = omega (arith, s, l) in
    let d : ◌≡◌ {A = Result ℕ Refusal} (Ok (length t)) (Ok n) = sym (emit_done t o fits) ∙ sym e.0 ∙ q in
    let i : length t ≡ n = cc in
    let j : m ≡ length t = omega (arith, k, i, s) in
    rw (j, e.1) (emit_text t o fits)
written_put t o new r false f n m h l e q k = absurd (let z : ◌≡◌ {A = ℕ} 0 1 = cc in omega arith)

-- where it was refused, nothing was to be written
pub written_left : (t o new : List ℕ) (r : Result ℕ Refusal) (may : Bool) (f g : Refusal) → (may ≡ true → length t ≤ 200) → length o ≡ 200
    → (r ≡ cond may (emit_of t o) (Err f)) × (new ≡ cond may (emitted t o) o) → r ≡ Err g → cond may t [] ≡ []
written_left t o new r true f g h l e q =
    let s = h refl in
    let d : ◌≡◌ {A = Result ℕ Refusal} (Ok (length t)) (Err g) = sym (emit_done t o (omega (arith, s, l))) ∙ sym e.0 ∙ q in
    absurd (let z : ◌≡◌ {A = ℕ} 0 1 = cc in omega arith)
written_left t o new r false f g h l e q = refl

-- ---- 200 bytes hold each text
pub fen_fits : (p : Position) → sound p ≡ true → length (fen_text (board_of p)) ≤ 200
fen_fits p s = omega (arith, fen_short (board_of p) (sound_says p s).accepted)

pub hub_fits : (p : Position) → length (hub_text (board_of p)) ≤ 200
hub_fits p = omega (arith, hub_length (board_of p))

-- so no FEN is refused for its length
pub fen_answer_lem : (p : Position) (o : List ℕ) → fen_of p o ≡ cond (sound p) (emit_of (fen_text (board_of p)) o) (Err BadPosition)
unfolding fen_of
fen_answer_lem p o = go (sound p) refl
  where
    go : (b : Bool) → sound p ≡ b → cond b (cond (leb (length (fen_text (board_of p))) 200) (emit_of (fen_text (board_of p)) o) (Err FenTooLong)) (Err BadPosition) ≡ cond b (emit_of (fen_text (board_of p)) o) (Err BadPosition)
    go true e = rw (le-leb (length (fen_text (board_of p))) 200 (fen_fits p e))
    go false e = refl

pub fen_bytes : (p : Position) (o : List ℕ) → fen_lent p o ≡ cond (sound p) (emitted (fen_text (board_of p)) o) o
unfolding fen_lent
fen_bytes p o = go (sound p) refl
  where
    go : (b : Bool) → sound p ≡ b → cond (b && leb (length (fen_text (board_of p))) 200) (emitted (fen_text (board_of p)) o) o ≡ cond b (emitted (fen_text (board_of p)) o) o
    go true e = rw (le-leb (length (fen_text (board_of p))) 200 (fen_fits p e))
    go false e = refl
