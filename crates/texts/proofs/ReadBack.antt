-- Every position read is sound; reading what `fen` or `hub` wrote of a sound position gives it back.
use Rattle.std.specs.Prelude.{Err, Ok, Result}
use Prim.Native.Nat.{ℕ, ◌<◌, ◌≤◌, ◌^◌}
use mathlib.Core.Path.{◌≡◌, refl, sym, ap, ◌∙◌}
use mathlib.Core.List.{List, ◌++◌}
use mathlib.Core.Bool.{Bool, true, false, cond, ◌&&◌, ◌||◌}
use native.Mathlib.Omega.{arith}
use lib.Bits.{bit_and, bit_or}
use lib.Dec.{eqb, leb}
use lib.ListN.{length, take, drop}
use lib.Seq.{take-append-le, take-length}
use borrow.Author.Tests.{le-leb}
use Rattle.squares.specs.Sets.{has, without}
use Rattle.squares.specs.Squares.{squares_only}
use Rattle.squares.specs.declared.refusal.Refusal.TheVariants.{TextTooLong, SpaceTooShort}
use Rattle.squares.proofs.Bools.{and_left, and_right, and_both}
use Rattle.squares.proofs.Pointwise.{ext, has_and, has_or, and_lt}
use Rattle.positions.specs.Boards.{Board, board_of}
use Rattle.positions.specs.Hash.{position_of}
use Rattle.positions.specs.Acceptance.{accepted_sets, accepted, Accepted, Sound, place_of, from_parts_of}
use Rattle.positions.specs.declared.position.Position.{Position}
use Rattle.positions.proofs.Accepts.{from_parts_sound, says_accepted, says_sound, sound_position, say_squares}
use Rattle.texts.specs.Bytes.{longest_text, readable}
use Rattle.texts.specs.Parts.{placing}
use Rattle.texts.specs.Lent.{emit_of, emitted}
use Rattle.texts.specs.Fen.{fen_text, fen_of, fen_lent, fen_parts, from_fen_of}
use Rattle.texts.specs.Hub.{hub_text, hub_of, hub_lent, hub_parts, from_hub_of}
use Rattle.texts.proofs.Clean.{above, high, ascii_lacks}
use Rattle.texts.proofs.FenLength.{fen_short}
use Rattle.texts.proofs.FenTrip.{parts_of, fen_back, text_lacks}
use Rattle.texts.proofs.HubTrip.{hub_back, hub_length, hub_ascii, kings_on}
use Rattle.texts.specs.declared.parts.Parts.{Parts}
use Rattle.squares.specs.declared.refusal.Refusal.{Refusal}

-- ---- what is read is sound
placing_sound : (r : Result Parts Refusal) (p : Position) → placing r ≡ Ok p → Sound p
placing_sound (Ok q) p e = from_parts_sound q.white q.black q.kings q.side p e
placing_sound (Err f) p e = absurd (let z : ◌≡◌ {A = ℕ} 0 1 = cc in omega arith)

read_sound : (t : Bool) (r : Result Parts Refusal) (p : Position) → cond t (placing r) (Err TextTooLong) ≡ Ok p → Sound p
read_sound true r p e = placing_sound r p e
read_sound false r p e = absurd (let z : ◌≡◌ {A = ℕ} 0 1 = cc in omega arith)

pub from_fen_sound : (s : List ℕ) (p : Position) → from_fen_of s ≡ Ok p → Sound p
unfolding from_fen_of
from_fen_sound s p e = read_sound (readable longest_text s) (fen_parts s) p e

pub from_hub_sound : (s : List ℕ) (p : Position) → from_hub_of s ≡ Ok p → Sound p
unfolding from_hub_of
from_hub_sound s p e = read_sound (readable longest_text s) (hub_parts s) p e

-- ---- the parts of a sound position are accepted as it
kings_kept : (b : Board) → Accepted b → bit_and b.kings (bit_or b.white b.black) ≡ b.kings
kings_kept b a =
    let fits : b.kings < 2 ^ 64 = omega (arith, a.kings_fits) in
    ext 64 _ b.kings (and_lt b.kings (bit_or b.white b.black) fits) fits
    (λ i l. has_and b.kings (bit_or b.white b.black) i ∙ ap (λ (x : Bool). has b.kings i && x) (has_or b.white b.black i)
    ∙ go (has b.kings i) (has b.white i || has b.black i) (a.marked i))
  where
    go : (x y : Bool) → (x ≡ true → y ≡ true) → (x && y) ≡ x
    go true y f = f refl
    go false y f = refl

place_back : (b : Board) → Accepted b → place_of b.white b.black b.kings b.side ≡ Ok (position_of b)
unfolding place_of accepted accepted_sets
place_back b a =
    let e = and_right (squares_only b.white && squares_only b.black) _ (says_accepted b a) in
    let f = and_right (eqb (bit_and b.white b.black) 0) _ e in
    rw (and_left (eqb (bit_and b.white b.black) 0) _ e, and_right (eqb (without b.kings (bit_or b.white b.black)) 0) _ f)

pub parts_back : (b : Board) → Accepted b → placing (Ok (parts_of b)) ≡ Ok (position_of b)
unfolding from_parts_of
parts_back b a =
    rw (
      say_squares b.white (record { fits = a.white_fits; on = a.white_on }),
      say_squares b.black (record { fits = a.black_fits; on = a.black_on }),
      say_squares b.kings (record { fits = a.kings_fits; on = kings_on b a }),
      kings_kept b a,
    )
    (place_back b a)

-- ---- the texts are readable
pub fen_readable : (limit : ℕ) (b : Board) → 196 ≤ limit → Accepted b → readable limit (fen_text b) ≡ true
unfolding readable high
fen_readable limit b h a =
    and_both _ _ (le-leb (length (fen_text b)) limit (omega (arith, h, fen_short b a))) (ascii_lacks (fen_text b) (text_lacks b a above refl refl refl refl))

pub hub_readable : (limit : ℕ) (b : Board) → 51 ≤ limit → readable limit (hub_text b) ≡ true
unfolding readable
hub_readable limit b h = and_both _ _ (le-leb (length (hub_text b)) limit (omega (arith, h, hub_length b))) (hub_ascii b)

-- ---- reading back
pub fen_reads : (p : Position) → Sound p → from_fen_of (fen_text (board_of p)) ≡ Ok p
unfolding from_fen_of
fen_reads p s =
    let b = board_of p in
    rw (fen_readable longest_text b (omega arith) s.accepted) (ap placing (fen_back b s.accepted) ∙ parts_back b s.accepted ∙ ap Ok (sym (sound_position p s)))

pub hub_reads : (p : Position) → Sound p → from_hub_of (hub_text (board_of p)) ≡ Ok p
unfolding from_hub_of
hub_reads p s =
    let b = board_of p in
    rw (hub_readable longest_text b (omega arith)) (ap placing (hub_back b s.accepted) ∙ parts_back b s.accepted ∙ ap Ok (sym (sound_position p s)))

-- ---- through lent space: n is the length that the writer reported
pub lent_front : (t out : List ℕ) (n : ℕ) → emit_of t out ≡ Ok n → take n (emitted t out) ≡ t
unfolding emit_of emitted
lent_front t out n = go (leb (length t) (length out))
  where
    front : take (length t) (t ++ drop (length t) out) ≡ t
    front = let l : length t ≤ length t = omega arith in rw take-append-le (take-length t)

    go : (x : Bool) → cond x (Ok (length t)) (Err SpaceTooShort) ≡ Ok n → take n (cond x (t ++ drop (length t) out) out) ≡ t
    go true e = let q : length t ≡ n = cc in rw (← q) front
    go false e = absurd (let z : ◌≡◌ {A = ℕ} 0 1 = cc in omega arith)

pub fen_lent_reads : (p : Position) → Sound p → (out : List ℕ) (n : ℕ) → fen_of p out ≡ Ok n → from_fen_of (take n (fen_lent p out)) ≡ Ok p
unfolding fen_of fen_lent
fen_lent_reads p s out n e =
    let h = le-leb (length (fen_text (board_of p))) 200 (omega (arith, fen_short (board_of p) s.accepted)) in
    let f : emit_of (fen_text (board_of p)) out ≡ Ok n = rw (says_sound p s, h) at e in
    rw (says_sound p s, h) (ap from_fen_of (lent_front (fen_text (board_of p)) out n f) ∙ fen_reads p s)

pub hub_lent_reads : (p : Position) → Sound p → (out : List ℕ) (n : ℕ) → hub_of p out ≡ Ok n → from_hub_of (take n (hub_lent p out)) ≡ Ok p
unfolding hub_of hub_lent
hub_lent_reads p s out n e =
    let f : emit_of (hub_text (board_of p)) out ≡ Ok n = rw (says_sound p s) at e in
    rw (says_sound p s) (ap from_hub_of (lent_front (hub_text (board_of p)) out n f) ∙ hub_reads p s)
