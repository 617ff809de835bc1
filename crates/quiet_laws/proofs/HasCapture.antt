-- The test by sets for a jump: true exactly where some piece of the side has a first jump.
use mathlib.Core.Path.{◌≡◌, refl, sym, ap, ◌∙◌}
use Prim.Native.Nat.{ℕ, ◌^◌, ◌<◌}
use native.Mathlib.Omega.{arith}
use mathlib.Core.Bool.{Bool, true, false, not, cond, ◌&&◌, ◌||◌, false≢true, or-true}
use mathlib.Core.Logic.{◌⊎◌, inl, inr, ◌↔◌}
use lib.Dec.{eqb}
use lib.Bits.{bit_and, and_le_r}
use Rattle.squares.specs.Sets.{has, members}
use Rattle.squares.specs.Directions.{Direction, up_left, up_right, down_left, down_right, next, opposite, index_of, shifted}
use Rattle.squares.specs.declared.piece.PieceKind.{PieceKind}
use Rattle.squares.specs.declared.piece.PieceKind.TheVariants.{Man, King}
use Rattle.squares.proofs.Bools.{and_left, and_right, and_both, bool_ext}
use Rattle.squares.proofs.Members.{of_members, in_members}
use Rattle.squares.proofs.Pointwise.{has_and, has_or, has_zero, member_lt}
use Rattle.squares.proofs.Shifts.{direction_index, opposite_twice, next_back, next_forth, has_shifted, step_and}
use Rattle.positions.specs.Boards.{Board, enemy, pieces, empty}
use Rattle.captures.specs.Rays.{slide_of}
use Rattle.captures.specs.Walks.{any_up_to}
use Rattle.captures.proofs.Steps.{no_land}
use Rattle.rules.specs.Ordered.{directions, ray, last, blocker, captures}
use Rattle.rules.specs.Rules.{space, rest, Jump, man_jump, king_jump, Open, Fair}
use Rattle.rules.proofs.Boards.{empty_lt, enemy_lt, men_lt, space_lt, of_space, enemy_blocks, piece_own, piece_lt, piece_member}
use Rattle.rules.proofs.Captures.{shut_law}
use Rattle.rules.proofs.Jumps.{all_directions}
use Rattle.rules.proofs.Ray.{last_ray, last_is, glide_in}
use Rattle.quiets.specs.Tests.{any_in, men_jump, king_open, has_capture_of}
use Rattle.captures.specs.Open as tests
use Rattle.rules.specs.Lists.{some}
use Rattle.rules.proofs.Lists.{some_none, none_some}
use Rattle.quiet_laws.proofs.HasQuiet.{open_law}
use Rattle.squares.proofs.OneBit.{bit_some, at_opposite}
use Rattle.capture_laws.proofs.Rays.{slide_is}
use Rattle.quiet_laws.proofs.Some.{any_ext, any_found, found_any}
use Rattle.quiet_laws.proofs.Walks.{any_four}

bit_or_none : (t : Bool) (i : ℕ) → not (eqb (cond t (2 ^ i) 0) 0) ≡ t
bit_or_none true i = ap not (bit_some i)
bit_or_none false i = refl

module _ (b : Board) (fair : Fair b) where
  -- ---- kings
  -- an enemy ahead of the king on i, and an empty square behind that
  abbrev king_may : ℕ → Direction → Bool
  king_may i d = has (enemy b) (blocker (space b i) d i) && has (space b i) (next d (blocker (space b i) d i))

  king_may_lem : (i : ℕ) → i < 54 → (d : Direction) → tests.king_jump (2 ^ i) (enemy b) (space b i) (index_of d) ≡ king_may i d
  unfolding tests.king_jump blocker
  king_may_lem i h d =
      ap (λ (c : Direction). not (eqb (bit_and (shifted c (bit_and (slide_of c E (2 ^ i)) (enemy b))) E) 0)) (direction_index d)
      ∙ ap (λ (x : ℕ). not (eqb (bit_and (shifted d x) E) 0))
      (ap (λ (x : ℕ). bit_and x (enemy b)) (slide_is E small d i h) ∙ step_and d p (glide_in E d small (last_ray E d i) h) (enemy b) (enemy_lt b fair))
      ∙ go (has (enemy b) (next d p)) refl
    where
      E : ℕ
      E = space b i

      small : space b i < 2 ^ 54
      small = space_lt b fair i h

      p : ℕ
      p = last i (ray (space b i) d i)

      go : (t : Bool) → has (enemy b) (next d p) ≡ t → not (eqb (bit_and (shifted d (cond t (2 ^ next d p) 0)) E) 0) ≡ (t && has E (next d (next d p)))
      go true q =
          ap (λ (x : ℕ). not (eqb x 0)) (step_and d (next d p) (member_lt 54 (enemy b) (next d p) (enemy_lt b fair) q) E small)
          ∙ bit_or_none (has E (next d (next d p))) (next d (next d p))
      go false q = ap (λ (x : ℕ). not (eqb x 0)) (no_land d 0 E refl)

  king_open_lem : (i : ℕ) → i < 54 → king_open (enemy b) (empty b) i ≡ any_in (king_may i) directions
  unfolding king_open space
  king_open_lem i h = sym (any_four (tests.king_jump (2 ^ i) (enemy b) (space b i))) ∙ any_ext _ _ directions (λ d m. king_may_lem i h d)

  of_kings : any_in (king_open (enemy b) (empty b)) (members (pieces b King)) ≡ true → Open b
  unfolding blocker
  of_kings e =
      let f = any_found (king_open (enemy b) (empty b)) (members (pieces b King)) e in
      let i = f.at in
      let p = of_members (pieces b King) i f.among in
      let g = any_found (king_may i) directions (sym (king_open_lem i (piece_lt b fair King i p)) ∙ f.passes) in
      let d = g.at in
      let o = blocker (space b i) d i in
      record {
        kind = King;
        from = i;
        over = o;
        land = next d o;
        piece = p;
        jump = king_jump d (last_ray (space b i) d i)
            (record { enemy = and_left (has (enemy b) o) (has (space b i) (next d o)) g.passes; untaken = has_zero o })
            (record { near = and_right (has (enemy b) o) (has (space b i) (next d o)) g.passes; far = rest });
      }

  -- ---- men
  -- the enemies that have an empty square behind them, seen along d
  abbrev over : Direction → ℕ
  over d = bit_and (shifted (opposite d) (empty b)) (enemy b)

  over_lt : (d : Direction) → over d < 2 ^ 54
  over_lt d = omega (arith, and_le_r (shifted (opposite d) (empty b)) (enemy b), enemy_lt b fair)

  behind : (d : Direction) (o : ℕ) → o < 54 → has (over d) o ≡ (has (empty b) (next d o) && has (enemy b) o)
  behind d o h =
      has_and (shifted (opposite d) (empty b)) (enemy b) o
      ∙ ap (λ (x : Bool). x && has (enemy b) o)
      (has_shifted (opposite d) (empty b) o (omega (arith, empty_lt b)) (omega arith) ∙ ap (λ (c : Direction). has (empty b) (next c o)) (opposite_twice d))

  -- a man stands before one of them
  men_may : (d : Direction) → men_jump (pieces b Man) (enemy b) (empty b) (index_of d) ≡ any_in (λ o. has (pieces b Man) (next (opposite d) o)) (members (over d))
  unfolding men_jump
  men_may d =
      ap (λ (c : Direction). not (eqb (bit_and (shifted c (bit_and (shifted c (empty b)) (enemy b))) (pieces b Man)) 0)) (at_opposite d)
      ∙ open_law (opposite d) (over d) (pieces b Man) (over_lt d) (men_lt b fair)

  men_open : any_up_to (men_jump (pieces b Man) (enemy b) (empty b)) 4 ≡ any_in (λ d. any_in (λ o. has (pieces b Man) (next (opposite d) o)) (members (over d))) directions
  men_open = sym (any_four (men_jump (pieces b Man) (enemy b) (empty b))) ∙ any_ext _ _ directions (λ d m. men_may d)

  -- what is empty is space
  empty_space : (f i : ℕ) → has (empty b) i ≡ true → has (space b f) i ≡ true
  unfolding space
  empty_space f i e = has_or (empty b) (2 ^ f) i ∙ ap (λ (x : Bool). x || has (2 ^ f) i) e

  of_men : any_up_to (men_jump (pieces b Man) (enemy b) (empty b)) 4 ≡ true → Open b
  of_men e =
      let f = any_found (λ d. any_in (λ o. has (pieces b Man) (next (opposite d) o)) (members (over d))) directions (sym men_open ∙ e) in
      let d = f.at in
      let g = any_found (λ o. has (pieces b Man) (next (opposite d) o)) (members (over d)) f.passes in
      let o = g.at in
      let h = of_members (over d) o g.among in
      let l = member_lt 54 (over d) o (over_lt d) h in
      let both = sym (behind d o l) ∙ h in
      let at : next d (next (opposite d) o) ≡ o = next_forth d o (omega arith) in
      record {
        kind = Man;
        from = next (opposite d) o;
        over = next d (next (opposite d) o);
        land = next d (next d (next (opposite d) o));
        piece = g.passes;
        jump = man_jump d
            (record { enemy = ap (has (enemy b)) at ∙ and_right (has (empty b) (next d o)) (has (enemy b) o) both; untaken = has_zero _ })
            (empty_space (next (opposite d) o) _ (ap (λ (x : ℕ). has (empty b) (next d x)) at ∙ and_left (has (empty b) (next d o)) (has (enemy b) o) both));
      }

  -- ---- both
  abbrev tested : Bool
  tested = has_capture_of (pieces b Man) (pieces b King) (enemy b) (empty b)

  of_tested : tested ≡ true → Open b
  unfolding has_capture_of
  of_tested e = go (any_up_to (men_jump (pieces b Man) (enemy b) (empty b)) 4) refl e
    where
      go : (t : Bool) → any_up_to (men_jump (pieces b Man) (enemy b) (empty b)) 4 ≡ t
          → (t || any_in (king_open (enemy b) (empty b)) (members (pieces b King))) ≡ true → Open b
      go true q r = of_men q
      go false q r = of_kings r

  -- two steps lead elsewhere
  off : (d : Direction) (i : ℕ) → i < 54 → next d (next d i) ≡ i → ⊥
  off up_left i h e = omega arith
  off up_right i h e = omega arith
  off down_left i h e = omega arith
  off down_right i h e = omega arith

  -- behind a jumped piece a man lands on an empty square, not on its first
  land_empty : (d : Direction) (i : ℕ) → i < 54 → has (space b i) (next d (next d i)) ≡ true → has (empty b) (next d (next d i)) ≡ true
  land_empty d i h e = go (of_space b fair i (next d (next d i)) e)
    where
      go : (has (empty b) (next d (next d i)) ≡ true) ⊎ (next d (next d i) ≡ i) → has (empty b) (next d (next d i)) ≡ true
      go (inl q) = q
      go (inr q) = absurd (off d i h q)

  jump_tested : {k : PieceKind} {f o l : ℕ} → has (pieces b k) f ≡ true → Jump b f 0 f k o l → tested ≡ true
  unfolding has_capture_of
  jump_tested {f = f} p (man_jump d t e) =
      let h = piece_lt b fair Man f p in
      let l = member_lt 54 (enemy b) (next d f) (enemy_lt b fair) t.enemy in
      ap (λ (x : Bool). x || any_in (king_open (enemy b) (empty b)) (members (pieces b King)))
      (men_open ∙ found_any (λ d. any_in (λ o. has (pieces b Man) (next (opposite d) o)) (members (over d))) (all_directions d)
      (found_any (λ o. has (pieces b Man) (next (opposite d) o))
      (in_members (over d) (next d f) (omega arith) (behind d (next d f) l ∙ and_both _ _ (land_empty d f h e) t.enemy))
      (ap (has (pieces b Man)) (next_back d f (omega arith)) ∙ p)))
  jump_tested {f = f} p (king_jump d {p = q} g t e) =
      let h = piece_lt b fair King f p in
      let at : blocker (space b f) d f ≡ next d q =
      unfold blocker in ap (next d) (last_is (space b f) d (space_lt b fair f h) g (enemy_blocks b fair f (next d q) (piece_own b fair King f p) t.enemy)) in
      ap (λ (x : Bool). any_up_to (men_jump (pieces b Man) (enemy b) (empty b)) 4 || x)
      (found_any (king_open (enemy b) (empty b)) (piece_member b fair King f p)
      (king_open_lem f h ∙ found_any (king_may f) (all_directions d)
      (ap (λ (x : ℕ). has (enemy b) x && has (space b f) (next d x)) at ∙ and_both _ _ t.enemy e.near)))
      ∙ or-true (any_up_to (men_jump (pieces b Man) (enemy b) (empty b)) 4)

  -- a jump is open
  pub open_tested : (tested ≡ true) ↔ Open b
  open_tested = (of_tested, (λ o. jump_tested o.piece o.jump))

  pub capture_test : tested ≡ some (captures b)
  capture_test =
      bool_ext tested (some (captures b))
      (λ e. yes (some (captures b)) (λ q. (shut_law b fair).0 (some_none (captures b) q) (of_tested e)))
      (λ e. yes tested (λ q. false≢true (sym (none_some (captures b) ((shut_law b fair).1 (λ o. false≢true (sym q ∙ open_tested.1 o)))) ∙ e)))
    where
      yes : (t : Bool) → (t ≡ false → ⊥) → t ≡ true
      yes true f = refl
      yes false f = absurd (f refl)
