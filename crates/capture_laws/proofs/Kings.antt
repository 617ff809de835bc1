-- A king's endings in the code are what the rules' search tries for it, shortcut and order alike.
use mathlib.Core.Path.{◌≡◌, refl, sym, ap, ap₂, ◌∙◌}
use Prim.Native.Nat.{ℕ, zero, suc, ◌^◌, ◌<◌}
use native.Mathlib.Omega.{arith}
use mathlib.Core.Bool.{Bool, true, false, not, ◌&&◌, cond}
use mathlib.Core.List.Memᴰ.{head}
use mathlib.Core.List.Memᴰ.{tail}
use mathlib.Core.List.{List, [], ◌∷◌, ◌++◌, map, map-append, flat_map, Memᴰ as Member}
use lib.Bits.{bit_and, bit_or}
use lib.Dec.{eqb}
use borrow.Author.Tests.{eq-eqb}
use Rattle.squares.specs.declared.piece.PieceKind.TheVariants.{King}
use Rattle.squares.specs.Directions.{Direction, next, shifted, index_of, direction_at}
use Rattle.squares.specs.Sets.{has, without}
use Rattle.squares.proofs.Folds.{bit_if}
use Rattle.squares.proofs.Pointwise.{member_lt}
use Rattle.squares.proofs.Shifts.{direction_index}
use Rattle.positions.specs.Boards.{Board, own, enemy, pieces}
use Rattle.captures.specs.declared.movegen.Came.TheVariants.{Nowhere, Near, Far}
use Rattle.captures.specs.Kings.{skip_of, landed_of, king_over, king_land, king_jumps, king_endings}
use Rattle.captures.specs.Rays.{far, slide_of, landings}
use Rattle.captures.specs.Record.{Ending}
use Rattle.rules.specs.Lists.{concat_map, or_end, some}
use Rattle.rules.specs.Ordered.{directions, ray, last, blocker, target, hop, jumps_over, jumps_along, jumps, enough}
use Rattle.rules.specs.Rules.{BitMove, bit_move, space, step, Flight, Fair}
use Rattle.rules.proofs.Boards.{own_lt, piece_own}
use Rattle.rules.proofs.Jumps.{all_directions, over_yes, over_no, Good, remaining, good, falls}
use Rattle.rules.proofs.Lists.{in_concat_map, in_map}
use Rattle.rules.proofs.Paths.{starts, fuel}
use Rattle.rules.proofs.Ray.{ray_on, ray_end, of_ray, last_ray, glide_in, flight_off}
use Rattle.rules.proofs.Shortcut.{back, aside, king_tried}
use Rattle.rules.proofs.Tree.{tried, pruned}
use Rattle.capture_laws.proofs.Four.{some_member, four}
use Rattle.squares.proofs.OneBit.{bit_some, bits_apart}
use Rattle.capture_laws.proofs.Rays.{slide_is, landings_are, landings_none, skips_back, skips_aside, skips_none}
use Rattle.capture_laws.proofs.Steps.{ended, small, target_lt, over_is, land_is}

module _ (b : Board) (fair : Fair b) (f : ℕ) (mine : has (own b) f ≡ true) where
  abbrev e : ℕ
  e = space b f

  abbrev along : Direction → ℕ → ℕ → List BitMove
  along d i t = jumps_along b King (bit_move f i t) d

  -- what the rules' search tries from w, without the directions that `skip` names
  abbrev tries : ℕ → (Direction → Bool) → BitMove → List BitMove
  tries n skip w = pruned directions (jumps_along b King) back aside n skip w

  -- and what it tries along d, where the landings are ws
  abbrev tries_along : ℕ → Direction → List BitMove → Bool → List BitMove
  tries_along n d ws skipped = tried (tries n (back d)) (tries n (aside d)) ws skipped

  some_tries : (n : ℕ) (skip : Direction → Bool) (w : BitMove) → (z : BitMove) × Member z (tries n skip w)
  unfolding pruned or_end
  some_tries zero skip w = (w, head refl)
  some_tries (suc n) skip w = go (concat_map (λ d. tries_along n d (jumps_along b King w d) (skip d)) directions)
    where
      go : (l : List BitMove) → (z : BitMove) × Member z (or_end w l)
      go [] = (w, head refl)
      go (y ∷ ys) = (y, head refl)

  -- the landings behind o
  abbrev behind : Direction → ℕ → List ℕ
  behind d o = next d o ∷ ray e d (next d o)

  -- a king on i that has taken t jumps along d, over the first piece in its way, or does not
  data Way (d : Direction) (i t o : ℕ) : Type 0 where
    free : target b t o ≡ true → has e (next d o) ≡ true → along d i t ≡ map (hop (bit_move f i t) o) (behind d o) → Way d i t o
    shut : (target b t o && has e (next d o)) ≡ false → along d i t ≡ [] → Way d i t o

  way : (d : Direction) (i t o : ℕ) → blocker e d i ≡ o → Way d i t o
  unfolding jumps_along
  way d i t o r = go (target b t o) (has e (next d o)) refl refl
    where
      w : BitMove
      w = bit_move f i t

      over : along d i t ≡ jumps_over b w o (ray e d o)
      over = ap (λ (p : ℕ). jumps_over b w p (ray e d p)) r

      landed : (l : List ℕ) → ray e d o ≡ l → target b t o ≡ true → along d i t ≡ map (hop w o) l
      landed l q u = over ∙ over_yes b w o (ray e d o) u ∙ ap (map (hop w o)) q

      go : (p q : Bool) → target b t o ≡ p → has e (next d o) ≡ q → Way d i t o
      go true true u v = free u v (landed (behind d o) (ray_on e d (small b fair f mine) o v) u)
      go true false u v = shut (ap₂ (λ (x y : Bool). x && y) u v) (landed [] (ray_end e d o v) u)
      go false q u v = shut (ap (λ (x : Bool). x && has e (next d o)) u) (over ∙ over_no b w o (ray e d o) u)

  abbrev Law : ℕ → Type 0
  Law n = (i t : ℕ) (code : ℕ → Bool) (skip : Direction → Bool) → ((d : Direction) → code (index_of d) ≡ skip d) → i < 54 → Good b (bit_move f i t)
      → remaining b (bit_move f i t) < n → king_endings (enemy b) e n (2 ^ i) t code ≡ map ended (tries n skip (bit_move f i t))

  module _ (n : ℕ) (ih : Law n) (i t : ℕ) (h : i < 54) (g : Good b (bit_move f i t)) (l : remaining b (bit_move f i t) < suc n) (d : Direction)
      (o : ℕ) (r : blocker e d i ≡ o) where
    abbrev w : BitMove
    w = bit_move f i t

    abbrev over : ℕ
    over = king_over (enemy b) e (2 ^ i) t (index_of d)

    abbrev land : ℕ
    land = king_land (enemy b) e (2 ^ i) t (index_of d)

    over_at : over ≡ bit_if (target b t o) o
    unfolding blocker
    over_at =
        ap (λ (c : Direction). bit_and (slide_of c e (2 ^ i)) (without (enemy b) t)) (direction_index d)
        ∙ ap (λ (s : ℕ). bit_and s (without (enemy b) t)) (slide_is e (small b fair f mine) d i h)
        ∙ over_is b fair d (last i (ray e d i)) t (glide_in e d (small b fair f mine) (last_ray e d i) h) g.small
        ∙ ap (λ (p : ℕ). bit_if (target b t p) p) r

    land_at : land ≡ bit_if (target b t o && has e (next d o)) (next d o)
    land_at = ap (λ (c : Direction). bit_and (shifted c over) e) (direction_index d) ∙ land_is b fair f mine d t o over over_at

    -- what the code finds from the landing k, and from all of them, where the enemy jumped is p and the first landing j
    abbrev from : ℕ → ℕ → ℕ → List Ending
    from p j k = king_endings (enemy b) e n k (bit_or t p) (skip_of (landed_of j k (index_of d)))

    abbrev onward : ℕ → ℕ → List Ending
    onward p j = flat_map (from p j) (landings far (direction_at (index_of d)) e j)

    -- where it jumps
    module _ (u : target b t o ≡ true) (v : has e (next d o) ≡ true) (q : along d i t ≡ map (hop w o) (behind d o)) where
      lands : land ≡ 2 ^ next d o
      lands = land_at ∙ ap₂ (λ (x y : Bool). bit_if (x && y) (next d o)) u v

      near : next d o < 54
      near = member_lt 54 e (next d o) (small b fair f mine) v

      landed : (k : ℕ) (code : ℕ → Bool) (skip : Direction → Bool) → ((c : Direction) → code (index_of c) ≡ skip c) → k < 54 → Member k (behind d o)
          → king_endings (enemy b) e n (2 ^ k) (bit_or t (2 ^ o)) code ≡ map ended (tries n skip (hop w o k))
      unfolding jumps hop
      landed k code skip p lt m = ih k (bit_or t (2 ^ o)) code skip p lt (good b fair King w (hop w o k) g j) (omega (arith, falls b fair King w (hop w o k) g j))
        where
          j : Member (hop w o k) (jumps b King w)
          j = in_concat_map (jumps_along b King w) (all_directions d) (rw q (in_map (hop w o) m))

      later : (ks : List ℕ) → ((k : ℕ) → Member k ks → Member k (ray e d (next d o)))
          → flat_map (from (2 ^ o) (2 ^ next d o)) (map (λ (k : ℕ). 2 ^ k) ks) ≡ map ended (concat_map (tries n (aside d)) (map (hop w o) ks))
      unfolding flat_map concat_map landed_of
      later [] s = refl
      later (k ∷ ks) s =
          ap₂ (λ (x y : List Ending). x ++ y)
          (ap (λ (c : Bool). king_endings (enemy b) e n (2 ^ k) (bit_or t (2 ^ o)) (skip_of (cond c (Near (index_of d)) (Far (index_of d)))))
          (bits_apart k (next d o) (flight_off e d (small b fair f mine) (next d o) k near flown))
          ∙ landed k (skip_of (Far (index_of d))) (aside d) (skips_aside d) (glide_in e d (small b fair f mine) (step flown.near flown.far) near)
          (tail (s k (head refl))))
          (later ks (λ z m. s z (tail m)))
          ∙ sym (map-append ended (tries n (aside d) (hop w o k)) (concat_map (tries n (aside d)) (map (hop w o) ks)))
        where
          flown : Flight e d (next d o) k
          flown = of_ray e d (next d o) k (s k (head refl))

      onward_is : onward over land ≡ map ended (tries_along n d (along d i t) false)
      unfolding flat_map tried landed_of
      onward_is =
          ap₂ onward (over_at ∙ ap (λ (c : Bool). bit_if c o) u) lands
          ∙ ap (flat_map (from (2 ^ o) (2 ^ next d o)))
          (ap (λ (c : Direction). landings far c e (2 ^ next d o)) (direction_index d)
          ∙ ap (λ (c : Bool). landings far d e (bit_if c (next d o))) (sym v)
          ∙ landings_are e (small b fair f mine) d o (target_lt b fair t o u)
          ∙ ap (map (λ (k : ℕ). 2 ^ k)) (ray_on e d (small b fair f mine) o v))
          ∙ ap₂ (λ (x y : List Ending). x ++ y)
          (ap (λ (c : Bool). king_endings (enemy b) e n (2 ^ next d o) (bit_or t (2 ^ o)) (skip_of (cond c (Near (index_of d)) (Far (index_of d))))) (eq-eqb (2 ^ next d o) (2 ^ next d o) refl)
          ∙ landed (next d o) (skip_of (Near (index_of d))) (back d) (skips_back d) near (head refl))
          (later (ray e d (next d o)) (λ k m. m))
          ∙ sym (map-append ended (tries n (back d) (hop w o (next d o))) (concat_map (tries n (aside d)) (map (hop w o) (ray e d (next d o)))))
          ∙ ap (λ (ws : List BitMove). map ended (tries_along n d ws false)) (sym q)

      some_along : some (tries_along n d (along d i t) false) ≡ true
      unfolding tried
      some_along =
          ap (λ (ws : List BitMove). some (tries_along n d ws false)) q
          ∙ some_member (tries n (back d) (hop w o (next d o))) (concat_map (tries n (aside d)) (map (hop w o) (ray e d (next d o))))
          (some_tries n (back d) (hop w o (next d o))).1

    shuts : (target b t o && has e (next d o)) ≡ false → land ≡ 0
    shuts q = land_at ∙ ap (λ (c : Bool). bit_if c (next d o)) q

    flag : (skip : Bool) → Way d i t o → (not skip && not (eqb land 0)) ≡ some (tries_along n d (along d i t) skip)
    unfolding tried some
    flag true y = refl
    flag false (free u v q) = ap (λ (x : ℕ). not (eqb x 0)) (lands u v q) ∙ ap not (bit_some (next d o)) ∙ sym (some_along u v q)
    flag false (shut u q) = ap (λ (x : ℕ). not (eqb x 0)) (shuts u) ∙ sym (ap (λ (ws : List BitMove). some (tries_along n d ws false)) q)

    branch : (skip : Bool) → Way d i t o → cond skip [] (onward over land) ≡ map ended (tries_along n d (along d i t) skip)
    unfolding tried flat_map
    branch true y = refl
    branch false (free u v q) = onward_is u v q
    branch false (shut u q) =
        ap (onward over) (shuts u)
        ∙ ap (flat_map (from over 0)) (landings_none e (small b fair f mine) (direction_at (index_of d)))
        ∙ sym (ap (λ (ws : List BitMove). map ended (tries_along n d ws false)) q)

  law : (n : ℕ) → Law n
  unfolding king_endings pruned
  law zero i t code skip rel h g l = absurd (omega arith)
  law (suc n) i t code skip rel h g l =
      four ended (king_jumps (enemy b) e (2 ^ i) t code)
      (λ (d : ℕ). cond (code d) [] (flat_map (λ k. king_endings (enemy b) e n k (bit_or t (king_over (enemy b) e (2 ^ i) t d))
      (skip_of (landed_of (king_land (enemy b) e (2 ^ i) t d) k d))) (landings far (direction_at d) e (king_land (enemy b) e (2 ^ i) t d))))
      (λ (d : Direction). tries_along n d (along d i t) (skip d))
      (λ d. ap (λ (x : Bool). not x && not (eqb (king_land (enemy b) e (2 ^ i) t (index_of d)) 0)) (rel d)
      ∙ flag n (law n) i t h g l d (blocker e d i) refl (skip d) (way d i t (blocker e d i) refl))
      (λ d. ap (λ (x : Bool). cond x [] (onward n (law n) i t h g l d (blocker e d i) refl (king_over (enemy b) e (2 ^ i) t (index_of d))
      (king_land (enemy b) e (2 ^ i) t (index_of d)))) (rel d)
      ∙ branch n (law n) i t h g l d (blocker e d i) refl (skip d) (way d i t (blocker e d i) refl))
      (bit_move f i t)

-- what the code records for the king on i
pub king_endings_lem : (b : Board) (fair : Fair b) (i : ℕ) → has (pieces b King) i ≡ true
    → king_endings (enemy b) (space b i) enough (2 ^ i) 0 (skip_of Nowhere) ≡ map ended (king_tried b i)
unfolding king_tried
king_endings_lem b fair i h =
    let m = piece_own b fair King i h in
    law b fair i m enough i 0 (skip_of Nowhere) (λ d. false) skips_none (member_lt 54 (own b) i (own_lt b fair) m) (starts b fair King i h) (fuel b fair i)
