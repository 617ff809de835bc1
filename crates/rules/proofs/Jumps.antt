-- The listed jumps are the jumps of the rules, and what a jump changes.
use mathlib.Core.Path.{◌≡◌, refl, sym, ap, ap₂, ◌∙◌, subst}
use Prim.Native.Nat.{ℕ, suc, ◌^◌, ◌<◌}
use native.Mathlib.Omega.{arith}
use native.Mathlib.Numerals.{add-one}
use mathlib.Core.Bool.{Bool, true, false, not, ◌&&◌}
use mathlib.Core.List.Memᴰ.{eq_of_singleton as singleton}
use mathlib.Core.List.Memᴰ.{head}
use mathlib.Core.List.Memᴰ.{not-nil}
use mathlib.Core.List.Memᴰ.{tail}
use mathlib.Core.List.{List, [], map, Memᴰ as Member}
use lib.Bits.{or_lt}
use lib.Pow.{pow-lt}
use Rattle.squares.specs.declared.piece.PieceKind.{PieceKind}
use Rattle.squares.specs.declared.piece.PieceKind.TheVariants.{Man, King}
use Rattle.squares.specs.Directions.{Direction, up_left, up_right, down_left, down_right, next}
use Rattle.squares.specs.Sets.{has, size, without}
use Rattle.squares.proofs.Pointwise.{member_lt}
use Rattle.squares.proofs.Sizes.{size_add}
use Rattle.positions.specs.Boards.{Board, own, enemy}
use Rattle.rules.proofs.Boards.{own_lt, wide, enemy_lt, space_lt, enemy_blocks}
use Rattle.rules.specs.Ordered.{directions, ray, last, blocker, target, hop, jumps_over, man_landings, jumps_along, jumps, count}
use Rattle.rules.specs.Rules.{BitMove, bit_move, space, Target, Jump, man_jump, king_jump, Fair}
use Rattle.rules.proofs.Targets.{of_target}
use Rattle.rules.proofs.Lists.{in_concat_map, of_concat_map, in_map, of_map}
use Rattle.squares.proofs.Cases.{size_falls}
use Rattle.rules.proofs.Ray.{of_ray, last_ray, in_ray, last_is}

pub all_directions : (d : Direction) → Member d directions
unfolding directions
all_directions up_left = head refl
all_directions up_right = tail (head refl)
all_directions down_left = tail (tail (head refl))
all_directions down_right = tail (tail (tail (head refl)))

to_target : (b : Board) (t o : ℕ) → Target b t o → target b t o ≡ true
unfolding target
to_target b t o h = ap₂ (λ (x y : Bool). x && not y) h.enemy h.untaken

pub over_yes : (b : Board) (s : BitMove) (o : ℕ) (ls : List ℕ) → target b s.taken o ≡ true → jumps_over b s o ls ≡ map (hop s o) ls
unfolding jumps_over
over_yes b s o ls e = rw (e, jumps_over) refl

pub over_no : (b : Board) (s : BitMove) (o : ℕ) (ls : List ℕ) → target b s.taken o ≡ false → jumps_over b s o ls ≡ []
unfolding jumps_over
over_no b s o ls e = rw (e, jumps_over) refl

of_over : (b : Board) (s m : BitMove) (o : ℕ) (ls : List ℕ) → Member m (jumps_over b s o ls)
    → Target b s.taken o × ((l : ℕ) × Member l ls × (m ≡ hop s o l))
of_over b s m o ls h = go (target b s.taken o) refl
  where
    go : (t : Bool) → target b s.taken o ≡ t → Target b s.taken o × ((l : ℕ) × Member l ls × (m ≡ hop s o l))
    go true e = (of_target b s.taken o e, of_map (hop s o) ls (rw (over_yes b s o ls e) at h))
    go false e = absurd (not-nil (rw (over_no b s o ls e) at h))

in_over : (b : Board) (s : BitMove) (o l : ℕ) (ls : List ℕ) → Target b s.taken o → Member l ls → Member (hop s o l) (jumps_over b s o ls)
in_over b s o l ls t m = rw (over_yes b s o ls (to_target b s.taken o t)) (in_map (hop s o) m)

of_man_landings : (e k l : ℕ) → Member l (man_landings e k) → (has e k ≡ true) × (l ≡ k)
unfolding man_landings
of_man_landings e k l m = go (has e k) refl
  where
    go : (t : Bool) → has e k ≡ t → (has e k ≡ true) × (l ≡ k)
    go true q = (q, singleton (rw (q, man_landings) at m))
    go false q = absurd (not-nil (rw (q, man_landings) at m))

in_man_landings : (e k : ℕ) → has e k ≡ true → Member k (man_landings e k)
unfolding man_landings
in_man_landings e k q = rw (q, man_landings) (head refl)

-- m comes of a jump from s
pub record Jumped (b : Board) (k : PieceKind) (s m : BitMove) : Type 0 where
  pub over : ℕ
  pub land : ℕ
  pub jump : Jump b s.from s.taken s.to k over land
  pub is : m ≡ hop s over land

pub of_along : (b : Board) (k : PieceKind) (s m : BitMove) (d : Direction) → Member m (jumps_along b k s d) → Jumped b k s m
unfolding jumps_along blocker
of_along b Man s m d h =
    let r = of_over b s m (next d s.to) (man_landings (space b s.from) (next d (next d s.to))) h in
    let q = of_man_landings (space b s.from) (next d (next d s.to)) r.1.0 r.1.1 in
    record {
      over = next d s.to;
      land = next d (next d s.to);
      jump = man_jump d r.0 q.0;
      is = r.1.2 ∙ ap (hop s (next d s.to)) q.1;
    }
of_along b King s m d h =
    let e = space b s.from in
    let o = blocker e d s.to in
    let r = of_over b s m o (ray e d o) h in
    record { over = o; land = r.1.0; jump = king_jump d (last_ray e d s.to) r.0 (of_ray e d o r.1.0 r.1.1); is = r.1.2 }

pub of_jumps : (b : Board) (k : PieceKind) (s m : BitMove) → Member m (jumps b k s) → Jumped b k s m
unfolding jumps
of_jumps b k s m h = let r = of_concat_map (jumps_along b k s) directions h in of_along b k s m r.0 r.2

pub jump_target : {b : Board} {f t i o l : ℕ} {k : PieceKind} → Jump b f t i k o l → Target b t o
jump_target (man_jump d h e) = h
jump_target (king_jump d g h e) = h

-- what holds of a piece under way: it began on a square of its own side, and its set is one of squares
pub record Good (b : Board) (s : BitMove) : Type 0 where
  pub own : has (own b) s.from ≡ true
  pub small : s.taken < 2 ^ 64

-- the enemies not yet taken
abbrev pub remaining : Board → BitMove → ℕ
remaining b s = size (without (enemy b) s.taken)

module _ (b : Board) (fair : Fair b) where
  pub in_jumps : {f t i o l : ℕ} {k : PieceKind} → has (own b) f ≡ true → Jump b f t i k o l
      → Member (hop (bit_move f i t) o l) (jumps b k (bit_move f i t))
  unfolding jumps jumps_along blocker
  in_jumps {f} {t} {i} p (man_jump d h e) =
      in_concat_map (jumps_along b Man (bit_move f i t)) (all_directions d)
      (in_over b (bit_move f i t) (next d i) (next d (next d i)) (man_landings (space b f) (next d (next d i))) h
      (in_man_landings (space b f) (next d (next d i)) e))
  in_jumps {f} {t} {i} {l = l} p (king_jump d {p = q} g h e) =
      let small = space_lt b fair f (member_lt 54 (own b) f (own_lt b fair) p) in
      let at : last i (ray (space b f) d i) ≡ q = last_is (space b f) d small g (enemy_blocks b fair f (next d q) p h.enemy) in
      in_concat_map (jumps_along b King (bit_move f i t)) (all_directions d)
      (subst (λ u. Member (hop (bit_move f i t) (next d q) l) (jumps_over b (bit_move f i t) (next d u) (ray (space b f) d (next d u)))) (sym at)
      (in_over b (bit_move f i t) (next d q) l (ray (space b f) d (next d q)) h (in_ray (space b f) d small (next d q) l e)))

  -- ---- what a jump changes
  module _ (k : PieceKind) (s m : BitMove) (g : Good b s) (h : Member m (jumps b k s)) where
    jumped : Jumped b k s m
    jumped = of_jumps b k s m h

    o_lt : jumped.over < 64
    o_lt = omega (arith, member_lt 54 (enemy b) jumped.over (enemy_lt b fair) (jump_target jumped.jump).enemy)

    pub good : Good b m
    unfolding hop
    good = subst (Good b) (sym jumped.is) (record { own = g.own; small = or_lt 64 s.taken (2 ^ jumped.over) g.small (pow-lt o_lt) })

    pub grows : count m ≡ suc (count s)
    unfolding hop
    grows = ap count jumped.is ∙ size_add s.taken jumped.over o_lt (jump_target jumped.jump).untaken ∙ add-one (count s)

    pub falls : remaining b m < remaining b s
    unfolding hop
    falls = subst (λ z. remaining b z < remaining b s) (sym jumped.is)
        (size_falls (enemy b) s.taken jumped.over (wide (enemy b) (enemy_lt b fair)) g.small o_lt (jump_target jumped.jump).enemy
        (jump_target jumped.jump).untaken)
