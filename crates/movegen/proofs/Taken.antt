-- The men and the kings of each colour among the pieces that a move takes: for the mover's colour none, for the other those
-- that the successor lacks.
use mathlib.Core.Path.{◌≡◌, refl, sym, ap, ◌∙◌}
use Prim.Native.Nat.{ℕ, ◌^◌, ◌<◌}
use mathlib.Core.Bool.{Bool, true, false, not, cond, ◌&&◌, true≢false, false≢true}
use lib.Bits.{bit_and}
use Rattle.squares.specs.Sets.{has, size, without}
use Rattle.squares.specs.Pieces.{other}
use Rattle.squares.specs.declared.piece.Color.{Color}
use Rattle.squares.specs.declared.piece.Color.TheVariants.{White, Black}
use Rattle.squares.proofs.Bools.{not_so}
use Rattle.squares.proofs.Pointwise.{has_and, has_without, and_lt, without_lt, ext, none_zero}
use Rattle.squares.proofs.Sizes.{size_zero}
use Rattle.positions.specs.Acceptance.{Accepted}
use Rattle.positions.specs.Boards.{Board, colored, own, enemy, men_of, kings_of, same_color}
use Rattle.positions.specs.Successor.{Playable}
use Rattle.positions.specs.declared.moves.Move.{Move}
use Rattle.positions.proofs.Accepts.{colored_fits, kings_fit_lem}
use Rattle.positions.proofs.Standings.{men_taken, kings_taken}

-- ---- sets taken: apart from a colour's pieces, or among them
module _ (t s k : ℕ) (t_fits : t < 2 ^ 64) (s_fits : s < 2 ^ 64) (k_fits : k < 2 ^ 64) where
  apart_men : ((i : ℕ) → has t i ≡ true → has s i ≡ false) → bit_and t (without s k) ≡ 0
  apart_men h = none_zero (bit_and t (without s k)) (and_lt t (without s k) t_fits)
      (λ i l. has_and t (without s k) i ∙ ap (λ (x : Bool). has t i && x) (has_without s k s_fits k_fits i l) ∙ go i (has t i) refl (has s i) refl)
    where
      go : (i : ℕ) (x : Bool) → has t i ≡ x → (y : Bool) → has s i ≡ y → (x && (y && not (has k i))) ≡ false
      go i false e y f = refl
      go i true e false f = refl
      go i true e true f = absurd (true≢false (sym f ∙ h i e))

  apart_kings : ((i : ℕ) → has t i ≡ true → has s i ≡ false) → bit_and t (bit_and s k) ≡ 0
  apart_kings h = none_zero (bit_and t (bit_and s k)) (and_lt t (bit_and s k) t_fits)
      (λ i l. has_and t (bit_and s k) i ∙ ap (λ (x : Bool). has t i && x) (has_and s k i) ∙ go i (has t i) refl (has s i) refl)
    where
      go : (i : ℕ) (x : Bool) → has t i ≡ x → (y : Bool) → has s i ≡ y → (x && (y && has k i)) ≡ false
      go i false e y f = refl
      go i true e false f = refl
      go i true e true f = absurd (true≢false (sym f ∙ h i e))

  among : (i : ℕ) (z : Bool) → (has t i ≡ true → has s i ≡ true) → (has t i && (has s i && z)) ≡ (has t i && z)
  among i z h = go (has t i) refl
    where
      go : (x : Bool) → has t i ≡ x → (x && (has s i && z)) ≡ (x && z)
      go false e = refl
      go true e = ap (λ (y : Bool). y && z) (h e)

  among_men : ((i : ℕ) → has t i ≡ true → has s i ≡ true) → bit_and t (without s k) ≡ without t k
  among_men h = ext 64 _ _ (and_lt t (without s k) t_fits) (without_lt t k t_fits)
      (λ i l. has_and t (without s k) i ∙ ap (λ (x : Bool). has t i && x) (has_without s k s_fits k_fits i l)
      ∙ among i (not (has k i)) (h i) ∙ sym (has_without t k t_fits k_fits i l))

  among_kings : ((i : ℕ) → has t i ≡ true → has s i ≡ true) → bit_and t (bit_and s k) ≡ bit_and t k
  among_kings h = ext 64 _ _ (and_lt t (bit_and s k) t_fits) (and_lt t k t_fits)
      (λ i l. has_and t (bit_and s k) i ∙ ap (λ (x : Bool). has t i && x) (has_and s k i) ∙ among i (has k i) (h i) ∙ sym (has_and t k i))

module _ (p : Board) (m : Move) (a : Accepted p) (y : Playable p m) where
  apart_own : (i : ℕ) → has m.captured i ≡ true → has (own p) i ≡ false
  apart_own i e = go p.side (y.enemies i e)
    where
      go : (s : Color) → has (colored (other s) p) i ≡ true → has (colored s p) i ≡ false
      go White f = not_so (has p.white i) (λ w. true≢false (sym f ∙ a.apart i w))
      go Black f = a.apart i f

  -- the pieces taken of a colour
  taken_own : (c : Color) → same_color c p.side ≡ true → c ≡ p.side
  taken_own c = go c p.side
    where
      go : (c s : Color) → same_color c s ≡ true → c ≡ s
      go White White e = refl
      go Black Black e = refl
      go White Black e = absurd (false≢true e)
      go Black White e = absurd (false≢true e)

  taken_other : (c : Color) → same_color c p.side ≡ false → c ≡ other p.side
  taken_other c = go c p.side
    where
      go : (c s : Color) → same_color c s ≡ false → c ≡ other s
      go White Black e = refl
      go Black White e = refl
      go White White e = absurd (true≢false e)
      go Black Black e = absurd (true≢false e)

  pub men_taken_lem : (c : Color) → size (bit_and m.captured (men_of c p)) ≡ men_taken c p m
  unfolding men_taken
  men_taken_lem c = go (same_color c p.side) refl
    where
      go : (t : Bool) → same_color c p.side ≡ t → size (bit_and m.captured (men_of c p)) ≡ cond t 0 (size (without m.captured p.kings))
      go true e =
          ap (λ (c : Color). size (bit_and m.captured (men_of c p))) (taken_own c e)
          ∙ ap size (apart_men m.captured (own p) p.kings y.set_fits (colored_fits p a p.side) (kings_fit_lem p a) apart_own) ∙ size_zero
      go false e =
          ap (λ (c : Color). size (bit_and m.captured (men_of c p))) (taken_other c e)
          ∙ ap size (among_men m.captured (enemy p) p.kings y.set_fits (colored_fits p a (other p.side)) (kings_fit_lem p a) y.enemies)

  pub kings_taken_lem : (c : Color) → size (bit_and m.captured (kings_of c p)) ≡ kings_taken c p m
  unfolding kings_taken
  kings_taken_lem c = go (same_color c p.side) refl
    where
      go : (t : Bool) → same_color c p.side ≡ t → size (bit_and m.captured (kings_of c p)) ≡ cond t 0 (size (bit_and m.captured p.kings))
      go true e =
          ap (λ (c : Color). size (bit_and m.captured (kings_of c p))) (taken_own c e)
          ∙ ap size (apart_kings m.captured (own p) p.kings y.set_fits (colored_fits p a p.side) (kings_fit_lem p a) apart_own) ∙ size_zero
      go false e =
          ap (λ (c : Color). size (bit_and m.captured (kings_of c p))) (taken_other c e)
          ∙ ap size (among_kings m.captured (enemy p) p.kings y.set_fits (colored_fits p a (other p.side)) (kings_fit_lem p a) y.enemies)
