-- A man's endings in the code are its sequences under the rules, in the same order.
use mathlib.Core.Path.{◌≡◌, refl, sym, ap, ap₂, ◌∙◌}
use Prim.Native.Nat.{ℕ, zero, suc, ◌^◌, ◌<◌}
use native.Mathlib.Omega.{arith}
use mathlib.Core.Bool.{Bool, true, false, not, ◌&&◌, cond}
use mathlib.Core.List.Memᴰ.{head}
use mathlib.Core.List.{List, [], ◌∷◌, map, append-nil, Memᴰ as Member}
use lib.Bits.{bit_and, bit_or}
use lib.Dec.{eqb}
use Rattle.squares.specs.declared.piece.PieceKind.TheVariants.{Man}
use Rattle.squares.specs.Directions.{Direction, next, shifted, index_of}
use Rattle.squares.specs.Sets.{has, without}
use Rattle.squares.proofs.Folds.{bit_if}
use Rattle.squares.proofs.Pointwise.{member_lt}
use Rattle.squares.proofs.Shifts.{direction_index}
use Rattle.positions.specs.Boards.{Board, own, enemy, pieces}
use Rattle.captures.specs.Record.{Ending}
use Rattle.captures.specs.Men.{man_over, man_land, man_jumps, man_endings}
use Rattle.rules.specs.Lists.{concat_map, or_end, followed, some}
use Rattle.rules.specs.Ordered.{directions, target, hop, man_landings, jumps_along, jumps, enough, sequences}
use Rattle.rules.specs.Rules.{BitMove, bit_move, space, Fair}
use Rattle.rules.proofs.Boards.{own_lt, piece_own}
use Rattle.rules.proofs.Jumps.{all_directions, over_yes, over_no, Good, remaining, good, falls}
use Rattle.rules.proofs.Lists.{in_concat_map, concat_map_concat_map}
use Rattle.rules.proofs.Paths.{starts, fuel}
use Rattle.rules.proofs.Tree.{some_followed}
use Rattle.capture_laws.proofs.Four.{some_member, four}
use Rattle.squares.proofs.OneBit.{bit_some}
use Rattle.capture_laws.proofs.Steps.{ended, small, over_is, land_is}

landing_yes : (e l : ℕ) → has e l ≡ true → man_landings e l ≡ l ∷ []
unfolding man_landings
landing_yes e l q = rw (q, man_landings) refl

landing_no : (e l : ℕ) → has e l ≡ false → man_landings e l ≡ []
unfolding man_landings
landing_no e l q = rw (q, man_landings) refl

module _ (b : Board) (fair : Fair b) (f : ℕ) (mine : has (own b) f ≡ true) where
  abbrev e : ℕ
  e = space b f

  abbrev along : Direction → ℕ → ℕ → List BitMove
  along d i t = jumps_along b Man (bit_move f i t) d

  abbrev rules : ℕ → List BitMove → List BitMove
  rules n ws = concat_map (followed (jumps b Man) n) ws

  -- a man on i that has taken t jumps along d, or does not
  data Way (d : Direction) (i t : ℕ) : Type 0 where
    free : target b t (next d i) ≡ true → has e (next d (next d i)) ≡ true
        → along d i t ≡ hop (bit_move f i t) (next d i) (next d (next d i)) ∷ [] → Way d i t
    shut : (target b t (next d i) && has e (next d (next d i))) ≡ false → along d i t ≡ [] → Way d i t

  way : (d : Direction) (i t : ℕ) → Way d i t
  unfolding jumps_along
  way d i t = go (target b t (next d i)) (has e (next d (next d i))) refl refl
    where
      landed : (l : List ℕ) → man_landings e (next d (next d i)) ≡ l → target b t (next d i) ≡ true
          → along d i t ≡ map (hop (bit_move f i t) (next d i)) l
      landed l q u = over_yes b (bit_move f i t) (next d i) (man_landings e (next d (next d i))) u ∙ ap (map (hop (bit_move f i t) (next d i))) q

      go : (p q : Bool) → target b t (next d i) ≡ p → has e (next d (next d i)) ≡ q → Way d i t
      go true true u v = free u v (landed _ (landing_yes e (next d (next d i)) v) u)
      go true false u v = shut (ap₂ (λ (x y : Bool). x && y) u v) (landed _ (landing_no e (next d (next d i)) v) u)
      go false q u v =
          shut (ap (λ (x : Bool). x && has e (next d (next d i))) u) (over_no b (bit_move f i t) (next d i) (man_landings e (next d (next d i))) u)

  abbrev Law : ℕ → Type 0
  Law n = (i t : ℕ) → i < 54 → Good b (bit_move f i t) → remaining b (bit_move f i t) < n
      → man_endings (enemy b) e n (2 ^ i) t ≡ map ended (followed (jumps b Man) n (bit_move f i t))

  module _ (n : ℕ) (ih : Law n) (i t : ℕ) (h : i < 54) (g : Good b (bit_move f i t)) (l : remaining b (bit_move f i t) < suc n) (d : Direction) where
    abbrev over : ℕ
    over = man_over (enemy b) e (2 ^ i) t (index_of d)

    abbrev land : ℕ
    land = man_land (enemy b) e (2 ^ i) t (index_of d)

    over_at : over ≡ bit_if (target b t (next d i)) (next d i)
    over_at = ap (λ (c : Direction). bit_and (shifted c (2 ^ i)) (without (enemy b) t)) (direction_index d) ∙ over_is b fair d i t h g.small

    land_at : land ≡ bit_if (target b t (next d i) && has e (next d (next d i))) (next d (next d i))
    land_at = ap (λ (c : Direction). bit_and (shifted c over) e) (direction_index d) ∙ land_is b fair f mine d t (next d i) over over_at

    abbrev jumping : Bool
    jumping = man_jumps (enemy b) e (2 ^ i) t (index_of d)

    abbrev onward : ℕ → ℕ → List Ending
    onward o j = man_endings (enemy b) e n j (bit_or t o)

    -- where it jumps
    module _ (u : target b t (next d i) ≡ true) (v : has e (next d (next d i)) ≡ true) where
      abbrev w : BitMove
      w = hop (bit_move f i t) (next d i) (next d (next d i))

      lands : land ≡ 2 ^ next d (next d i)
      lands = land_at ∙ ap₂ (λ (x y : Bool). bit_if (x && y) (next d (next d i))) u v

      opens : jumping ≡ true
      opens = ap (λ (x : ℕ). not (eqb x 0)) lands ∙ ap not (bit_some (next d (next d i)))

      onward_is : along d i t ≡ w ∷ [] → onward over land ≡ map ended (followed (jumps b Man) n w)
      unfolding jumps hop
      onward_is q =
          ap₂ onward (over_at ∙ ap (λ (c : Bool). bit_if c (next d i)) u) lands
          ∙ ih (next d (next d i)) (bit_or t (2 ^ next d i)) (member_lt 54 e (next d (next d i)) (small b fair f mine) v)
          (good b fair Man (bit_move f i t) w g m) (omega (arith, falls b fair Man (bit_move f i t) w g m))
        where
          m : Member w (jumps b Man (bit_move f i t))
          m = in_concat_map (jumps_along b Man (bit_move f i t)) (all_directions d) (rw q (head refl))

    shuts : (target b t (next d i) && has e (next d (next d i))) ≡ false → jumping ≡ false
    shuts q = ap (λ (x : ℕ). not (eqb x 0)) (land_at ∙ ap (λ (c : Bool). bit_if c (next d (next d i))) q)

    flag : Way d i t → jumping ≡ some (rules n (along d i t))
    unfolding concat_map some
    flag (free u v q) =
        opens u v
        ∙ sym (ap (λ (r : List BitMove). some (rules n r)) q
        ∙ some_member (followed (jumps b Man) n (w u v)) [] (some_followed (jumps b Man) n (w u v)).1)
    flag (shut u q) = shuts u ∙ sym (ap (λ (r : List BitMove). some (rules n r)) q)

    branch : Way d i t → cond jumping (onward over land) [] ≡ map ended (rules n (along d i t))
    unfolding concat_map
    branch (free u v q) =
        ap (λ (c : Bool). cond c (onward over land) []) (opens u v) ∙ onward_is u v q
        ∙ sym (ap (λ (r : List BitMove). map ended (rules n r)) q ∙ ap (map ended) (append-nil (followed (jumps b Man) n (w u v))))
    branch (shut u q) = ap (λ (c : Bool). cond c (onward over land) []) (shuts u) ∙ sym (ap (λ (r : List BitMove). map ended (rules n r)) q)

  law : (n : ℕ) → Law n
  unfolding man_endings followed jumps
  law zero i t h g l = absurd (omega arith)
  law (suc n) i t h g l =
      four ended (man_jumps (enemy b) e (2 ^ i) t)
      (λ (d : ℕ). cond (man_jumps (enemy b) e (2 ^ i) t d)
      (man_endings (enemy b) e n (man_land (enemy b) e (2 ^ i) t d) (bit_or t (man_over (enemy b) e (2 ^ i) t d))) [])
      (λ (d : Direction). rules n (along d i t)) (λ d. flag n (law n) i t h g l d (way d i t)) (λ d. branch n (law n) i t h g l d (way d i t)) (bit_move f i t)
      ∙ ap (λ (r : List BitMove). map ended (or_end (bit_move f i t) r))
      (sym (concat_map_concat_map (followed (jumps b Man) n) (jumps_along b Man (bit_move f i t)) directions))

-- what the code records for the man on i
pub man_endings_lem : (b : Board) (fair : Fair b) (i : ℕ) → has (pieces b Man) i ≡ true
    → man_endings (enemy b) (space b i) enough (2 ^ i) 0 ≡ map ended (sequences b Man i)
unfolding sequences
man_endings_lem b fair i h =
    let m = piece_own b fair Man i h in
    law b fair i m enough i 0 (member_lt 54 (own b) i (own_lt b fair) m) (starts b fair Man i h) (fuel b fair i)
