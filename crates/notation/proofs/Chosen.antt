-- What a move's text says fits that move and no other: the form in which a round trip needs it.
use Rattle.std.specs.Prelude.{Ok}
use mathlib.Core.Path.{◌≡◌, refl, sym, ap, ap₂, ◌∙◌}
use Prim.Native.Nat.{ℕ, ◌<◌, ◌≤◌}
use native.Mathlib.Omega.{arith}
use mathlib.Core.Bool.{Bool, true, false, cond, ◌&&◌, not, beq, true≢false, false≢true}
use mathlib.Core.List.{List, [], ◌∷◌}
use lib.ListN.{length}
use lib.Dec.{eqb, ltb}
use borrow.Author.Tests.{eqb-true, le-leb, ltb-false}
use Rattle.positions.specs.Acceptance.{sound}
use Rattle.positions.specs.Boards.{board_of}
use Rattle.positions.specs.Moves.{is_capture, same}
use Rattle.positions.specs.declared.moves.Move.{Move}
use Rattle.positions.specs.declared.position.Position.{Position}
use Rattle.rules.specs.Lists.{keep, times}
use Rattle.rules.specs.Ordered.{legal, listed}
use Rattle.rules.proofs.Lists.{keep_ext}
use Rattle.rules.proofs.Laws.{listed_once}
use Rattle.rules.proofs.Same.{same_true}
use Rattle.rules.proofs.Times.{is_it, kept_one}
use Rattle.movegen.proofs.Listed.{fair_of}
use Rattle.notation.specs.Notation.{read_move_of}
use Rattle.notation.specs.Choice.{begins, as_hub, by_ends, or_else, fitting, only, fit_of, parse_move_of}
use Rattle.notation.specs.declared.notation.Said.{Said}

-- what was read says m: as Hub where it takes a piece, by its two squares where it takes none
pub record Says (h : Said) (m : Move) : Type 0 where
  pub kind : h.capture ≡ is_capture m
  pub first : h.first ≡ m.from
  pub second : h.second ≡ m.to
  pub set : h.rest ≡ m.captured
  pub many : is_capture m ≡ true → 2 < h.count
  pub last : is_capture m ≡ false → h.last ≡ m.to

-- ---- what fits is m
beq_same : (x : Bool) → beq x x ≡ true
beq_same true = refl
beq_same false = refl

module _ (h : Said) (m : Move) (s : Says h m) where
  begins_is : (x : Move) → begins h x ≡ (eqb x.from m.from && beq (is_capture x) (is_capture m))
  unfolding begins
  begins_is x = ap₂ (λ (n : ℕ) (t : Bool). eqb x.from n && beq (is_capture x) t) s.first s.kind

  hub_same : (x : Move) → as_hub h x ≡ is_it same m x
  unfolding as_hub is_it same is_capture
  hub_same x =
      ap₂ (λ (t : Bool) (u : Bool). t && u) (begins_is x) (ap₂ (λ (n k : ℕ). eqb x.to n && eqb x.captured k) s.second s.set)
      ∙ go (eqb x.from m.from) (eqb x.to m.to) (eqb x.captured m.captured) refl
    where
      kind : Bool
      kind = beq (is_capture x) (is_capture m)

      is_kind : eqb x.captured m.captured ≡ true → kind ≡ true
      is_kind e = ap (λ (n : ℕ). beq (not (eqb n 0)) (not (eqb m.captured 0))) (eqb-true x.captured m.captured e) ∙ beq_same (not (eqb m.captured 0))

      four : (k b c : Bool) → (c ≡ true → k ≡ true) → (k && (b && c)) ≡ (b && c)
      four true b c f = refl
      four false b true f = absurd (false≢true (f refl))
      four false true false f = refl
      four false false false f = refl

      go : (a b c : Bool) → eqb x.captured m.captured ≡ c → ((a && kind) && (b && c)) ≡ (a && (b && c))
      go true b c e = four kind b c (λ q. is_kind (e ∙ q))
      go false b c e = refl

  quiet_same : is_capture m ≡ false → (x : Move) → by_ends h x ≡ is_it same m x
  unfolding by_ends is_it same is_capture
  quiet_same z x =
      ap₂ (λ (t : Bool) (n : ℕ). t && eqb x.to n) (begins_is x ∙ ap (λ (t : Bool). eqb x.from m.from && beq (is_capture x) t) z) (s.last z)
      ∙ three (eqb x.from m.from) (eqb x.captured 0) (eqb x.to m.to)
      ∙ sym (ap (λ (k : ℕ). eqb x.from m.from && (eqb x.to m.to && eqb x.captured k)) none)
    where
      empty : (t : Bool) → not t ≡ false → t ≡ true
      empty true e = refl
      empty false e = absurd (true≢false e)

      none : m.captured ≡ 0
      none = eqb-true m.captured 0 (empty (eqb m.captured 0) z)

      three : (a c b : Bool) → ((a && beq (not c) false) && b) ≡ (a && (b && c))
      three true true true = refl
      three true true false = refl
      three true false true = refl
      three true false false = refl
      three false c b = refl

  -- of a list in which m stands once, what was read fits m alone
  pub chosen_back : (l : List Move) → times same l m ≡ 1 → fitting h l ≡ m ∷ []
  unfolding fitting or_else
  chosen_back l e = go (ltb 2 h.count) refl
    where
      hub : keep (as_hub h) l ≡ m ∷ []
      hub = keep_ext (as_hub h) (is_it same m) l (λ x k. hub_same x) ∙ kept_one same m (λ y. same_true y m) l e

      -- two squares only: not a capture
      quiet : ltb 2 h.count ≡ false → is_capture m ≡ false
      quiet f = none (is_capture m) refl
        where
          none : (t : Bool) → is_capture m ≡ t → is_capture m ≡ false
          none true q = absurd (omega (arith, s.many q, ltb-false 2 h.count f))
          none false q = q

      go : (t : Bool) → ltb 2 h.count ≡ t → cond t (or_else (keep (as_hub h) l) (keep (by_ends h) l)) (keep (by_ends h) l) ≡ m ∷ []
      go true f = ap (λ (k : List Move). or_else k (keep (by_ends h) l)) hub
      go false f = keep_ext (by_ends h) (is_it same m) l (λ x k. quiet_same (quiet f) x) ∙ kept_one same m (λ y. same_true y m) l e

  -- on a position: what was read of a listed move is answered with that move
  pub fit_back : (p : Position) → sound p ≡ true → length (legal (board_of p)) ≤ 256 → listed (legal (board_of p)) m ≡ true → fit_of p h ≡ Ok m
  unfolding fit_of only
  fit_back p e few l =
      rw (e, le-leb _ 256 few) (ap only (chosen_back (legal (board_of p)) (listed_once (board_of p) (fair_of p e) m l)))

  -- and the text that says it, too
  pub parse_back : (p : Position) (text : List ℕ) → read_move_of text ≡ Ok h → sound p ≡ true → length (legal (board_of p)) ≤ 256
      → listed (legal (board_of p)) m ≡ true → parse_move_of p text ≡ Ok m
  unfolding parse_move_of
  parse_back p text r e few l = rw (e, r) (fit_back p e few l)
