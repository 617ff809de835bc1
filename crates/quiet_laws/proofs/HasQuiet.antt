-- The test by sets for a quiet move: some man steps forward, or some king steps anywhere, onto an empty square.
use mathlib.Core.Path.{◌≡◌, refl, sym, ap, ap₂, ◌∙◌}
use Prim.Native.Nat.{ℕ, ◌+◌, ◌^◌, ◌<◌}
use native.Mathlib.Nat.{lt_of_le_of_lt}
use native.Mathlib.Omega.{arith}
use mathlib.Core.Bool.{Bool, true, false, not, ◌||◌}
use mathlib.Core.List.{[], ◌++◌, map, append-nil}
use lib.Dec.{eqb}
use lib.Bits.{bit_and, and_le_l, and_le_r}
use Rattle.squares.specs.Sets.{has, members}
use Rattle.squares.specs.Directions.{Direction, up_left, up_right, down_left, down_right, next, index_of, shifted}
use Rattle.squares.specs.declared.piece.Color.{Color}
use Rattle.squares.specs.declared.piece.Color.TheVariants.{White, Black}
use Rattle.squares.specs.declared.piece.PieceKind.TheVariants.{Man, King}
use Rattle.squares.proofs.Shifts.{direction_index}
use Rattle.positions.specs.Boards.{Board, own, pieces, empty, of_kind}
use Rattle.captures.specs.Walks.{any_up_to}
use Rattle.rules.specs.Lists.{concat_map, keep, some}
use Rattle.rules.specs.Ordered.{directions, ahead, ray, man_steps, king_flights, quiets}
use Rattle.rules.specs.Rules.{bit_move, forward, Fair}
use Rattle.rules.proofs.Boards.{own_lt, empty_lt, men_lt}
use Rattle.rules.proofs.Ray.{ahead_on, ahead_end}
use Rattle.rules.proofs.Steps.{shifted_members}
use Rattle.quiets.specs.Tests.{forward_of, any_in, steps_open, has_quiet_of}
use Rattle.rules.proofs.Lists.{some_append, some_map}
use Rattle.quiet_laws.proofs.Walks.{any_four}
use Rattle.quiet_laws.proofs.Some.{some_concat_map, some_keep, some_members, any_ext, any_swap}

-- some member of s has its neighbour along d in e
pub open_law : (d : Direction) (s e : ℕ) → s < 2 ^ 54 → e < 2 ^ 54 → not (eqb (bit_and (shifted d s) e) 0) ≡ any_in (λ i. has e (next d i)) (members s)
open_law d s e hs he =
    some_members (bit_and (shifted d s) e) (omega (arith, and_le_r (shifted d s) e))
    ∙ ap some (shifted_members d s e hs he) ∙ some_map (next d) (keep (λ i. has e (next d i)) (members s))
    ∙ some_keep (λ i. has e (next d i)) (members s)

steps_open_lem : (d : Direction) (s e : ℕ) → s < 2 ^ 54 → e < 2 ^ 54 → steps_open s e (index_of d) ≡ any_in (λ i. has e (next d i)) (members s)
unfolding steps_open
steps_open_lem d s e hs he = ap (λ (c : Direction). not (eqb (bit_and (shifted c s) e) 0)) (direction_index d) ∙ open_law d s e hs he

some_ray : (e : ℕ) (d : Direction) (i : ℕ) → some (ray e d i) ≡ has e (next d i)
unfolding some ray
some_ray e d i = go (has e (next d i)) refl
  where
    go : (t : Bool) → has e (next d i) ≡ t → some (ahead 64 e d i) ≡ has e (next d i)
    go true q = ap some (ahead_on e d 63 i q) ∙ sym q
    go false q = ap some (ahead_end e d 64 i q) ∙ sym q

module _ (b : Board) (fair : Fair b) where
  pub kings_lt : pieces b King < 2 ^ 54
  unfolding pieces of_kind
  kings_lt = lt_of_le_of_lt (and_le_l (own b) b.kings) (own_lt b fair)

  some_steps : (d : Direction) → some (man_steps b d) ≡ steps_open (pieces b Man) (empty b) (index_of d)
  unfolding man_steps
  some_steps d =
      some_map (λ (i : ℕ). bit_move i (next d i) 0) (keep (λ i. has (empty b) (next d i)) (members (pieces b Man)))
      ∙ some_keep (λ i. has (empty b) (next d i)) (members (pieces b Man))
      ∙ sym (steps_open_lem d (pieces b Man) (empty b) (men_lt b fair) (empty_lt b))

  some_men : (side : Color) → some (concat_map (man_steps b) (forward side)) ≡ any_up_to (λ k. steps_open (pieces b Man) (empty b) (forward_of side + k)) 2
  unfolding forward concat_map any_up_to
  some_men White = some_append (man_steps b up_left) (man_steps b up_right ++ []) ∙ rw (append-nil, some_steps up_left, some_steps up_right) refl
  some_men Black = some_append (man_steps b down_left) (man_steps b down_right ++ []) ∙ rw (append-nil, some_steps down_left, some_steps down_right) refl

  some_flights : (i : ℕ) → some (king_flights b i) ≡ any_in (λ d. has (empty b) (next d i)) directions
  unfolding king_flights
  some_flights i =
      some_concat_map (λ d. map (λ (j : ℕ). bit_move i j 0) (ray (empty b) d i)) directions
      ∙ any_ext _ _ directions (λ d m. some_map (λ (j : ℕ). bit_move i j 0) (ray (empty b) d i) ∙ some_ray (empty b) d i)

  some_kings : some (concat_map (king_flights b) (members (pieces b King))) ≡ any_up_to (steps_open (pieces b King) (empty b)) 4
  some_kings =
      some_concat_map (king_flights b) (members (pieces b King))
      ∙ any_ext _ _ (members (pieces b King)) (λ i m. some_flights i)
      ∙ any_swap (λ i d. has (empty b) (next d i)) (members (pieces b King)) directions
      ∙ any_ext _ _ directions (λ d m. sym (steps_open_lem d (pieces b King) (empty b) kings_lt (empty_lt b)))
      ∙ any_four (steps_open (pieces b King) (empty b))

  pub quiet_test : has_quiet_of (pieces b Man) (pieces b King) (empty b) b.side ≡ some (quiets b)
  unfolding has_quiet_of quiets
  quiet_test =
      sym (some_append (concat_map (man_steps b) (forward b.side)) (concat_map (king_flights b) (members (pieces b King)))
      ∙ ap₂ (λ (x y : Bool). x || y) (some_men b.side) some_kings)
