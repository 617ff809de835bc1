-- The quiet lists are those of the rules: the men's steps and the kings' flights, entry by entry in the same order.
use mathlib.Core.Path.{◌≡◌, refl, sym, ap, ap₂, ◌∙◌}
use native.Mathlib.Omega.{arith}
use Prim.Native.Nat.{ℕ, ◌^◌, ◌<◌}
use mathlib.Core.List.Memᴰ.{head}
use mathlib.Core.List.Memᴰ.{tail}
use mathlib.Core.List.{List, [], ◌∷◌, ◌++◌, map, flat_map, append-nil, map-map, map-append, Memᴰ as Member}
use lib.Bits.{bit_and}
use Rattle.squares.specs.Sets.{has, members}
use Rattle.squares.specs.Squares.{first_of}
use Rattle.squares.specs.Directions.{Direction, up_left, up_right, down_left, down_right, next, opposite, index_of, shifted}
use Rattle.squares.specs.declared.piece.Color.{Color}
use Rattle.squares.specs.declared.piece.Color.TheVariants.{White, Black}
use Rattle.squares.specs.declared.piece.PieceKind.TheVariants.{Man, King}
use Rattle.squares.proofs.Bools.{and_right}
use Rattle.squares.proofs.Members.{of_members}
use Rattle.squares.proofs.Pointwise.{has_and, member_lt}
use Rattle.squares.proofs.Shifts.{direction_index}
use Rattle.positions.specs.declared.moves.Move.{Move}
use Rattle.positions.specs.Boards.{Board, pieces, empty}
use Rattle.positions.specs.Moves.{move}
use Rattle.captures.specs.Rays.{far, landings}
use Rattle.captures.specs.Walks.{up_to}
use Rattle.rules.specs.Lists.{concat_map}
use Rattle.rules.specs.Ordered.{ray, man_steps, king_flights, quiets}
use Rattle.rules.specs.Rules.{bit_move, numbered, forward, Fair}
use Rattle.rules.proofs.Boards.{empty_lt, piece_lt}
use Rattle.rules.proofs.Ray.{of_ray, glide_in}
use Rattle.rules.proofs.Steps.{man_steps_code}
use Rattle.quiets.specs.Quiets.{quiet_move, step_move, men_steps, men_quiets, flight_of, flights, king_quiets}
use Rattle.squares.proofs.OneBit.{first_bit, first_step, at_opposite}
use Rattle.capture_laws.proofs.Rays.{landings_ray}
use Rattle.quiet_laws.proofs.Walks.{all_four}

map_same : {A B : Type 0} (f g : A → B) (l : List A) → ((x : A) → Member x l → f x ≡ g x) → map f l ≡ map g l
map_same f g [] h = refl
map_same {B = B} f g (x ∷ xs) h = ap₂ (λ (a : B) (l : List B). a ∷ l) (h x (head refl)) (map_same f g xs (λ y m. h y (tail m)))

module _ (b : Board) (fair : Fair b) where
  -- ---- men
  pub steps_law : (d : Direction) → men_steps (pieces b Man) (empty b) (index_of d) ≡ map numbered (man_steps b d)
  unfolding men_steps
  steps_law d =
      ap (λ (e : Direction). map (step_move (index_of d)) (members (bit_and (shifted e (pieces b Man)) (empty b)))) (direction_index d)
      ∙ map_same (step_move (index_of d)) (λ (z : ℕ). numbered (bit_move (next (opposite d) z) z 0)) reached (λ z m. made z (reached_lt z m))
      ∙ sym (map-map numbered (λ (z : ℕ). bit_move (next (opposite d) z) z 0) reached)
      ∙ ap (map numbered) (man_steps_code b fair d)
    where
      reached : List ℕ
      reached = members (bit_and (shifted d (pieces b Man)) (empty b))

      reached_lt : (z : ℕ) → Member z reached → z < 54
      reached_lt z m =
          member_lt 54 (empty b) z (empty_lt b)
          (and_right (has (shifted d (pieces b Man)) z) (has (empty b) z) (sym (has_and (shifted d (pieces b Man)) (empty b) z) ∙ of_members _ z m))

      made : (z : ℕ) → z < 54 → step_move (index_of d) z ≡ numbered (bit_move (next (opposite d) z) z 0)
      made z h =
          ap₂ (λ (f t : ℕ). move f t 0) (ap (λ (e : Direction). first_of (shifted e (2 ^ z))) (at_opposite d) ∙ first_step (opposite d) z h) (first_bit z (omega (arith, h)))

  pub men_law : (side : Color) → men_quiets (pieces b Man) (empty b) side ≡ map numbered (concat_map (man_steps b) (forward side))
  unfolding men_quiets up_to forward concat_map
  men_law White = rw (steps_law up_left, steps_law up_right) (simp (map-append, append-nil))
  men_law Black = rw (steps_law down_left, steps_law down_right) (simp (map-append, append-nil))

  -- ---- kings
  flight_law : (i : ℕ) → i < 54 → (d : Direction) → flight_of (2 ^ i) (empty b) (index_of d) ≡ map numbered (map (λ (j : ℕ). bit_move i j 0) (ray (empty b) d i))
  unfolding flight_of
  flight_law i h d =
      ap (λ (e : Direction). map (quiet_move (2 ^ i)) (landings far e (empty b) (bit_and (shifted e (2 ^ i)) (empty b)))) (direction_index d)
      ∙ ap (map (quiet_move (2 ^ i))) (landings_ray (empty b) (empty_lt b) d i h)
      ∙ map-map (quiet_move (2 ^ i)) (λ (j : ℕ). 2 ^ j) (ray (empty b) d i)
      ∙ map_same (λ (j : ℕ). quiet_move (2 ^ i) (2 ^ j)) (λ (j : ℕ). numbered (bit_move i j 0)) (ray (empty b) d i)
      (λ j m. ap₂ (λ (f t : ℕ). move f t 0) (first_bit i (omega (arith, h))) (first_bit j (omega (arith, glide_in (empty b) d (empty_lt b) (of_ray (empty b) d i j m).far (near j m)))))
      ∙ sym (map-map numbered (λ (j : ℕ). bit_move i j 0) (ray (empty b) d i))
    where
      near : (j : ℕ) → Member j (ray (empty b) d i) → next d i < 54
      near j m = member_lt 54 (empty b) (next d i) (empty_lt b) (of_ray (empty b) d i j m).near

  flights_law : (i : ℕ) → i < 54 → flights (empty b) i ≡ map numbered (king_flights b i)
  unfolding flights king_flights
  flights_law i h = all_four numbered (flight_of (2 ^ i) (empty b)) (λ d. map (λ (j : ℕ). bit_move i j 0) (ray (empty b) d i)) (flight_law i h)

  kings_law : (is : List ℕ) → ((i : ℕ) → Member i is → i < 54) → flat_map (flights (empty b)) is ≡ map numbered (concat_map (king_flights b) is)
  unfolding flat_map concat_map
  kings_law [] h = refl
  kings_law (i ∷ is) h =
      ap₂ (λ (xs ys : List Move). xs ++ ys) (flights_law i (h i (head refl))) (kings_law is (λ j m. h j (tail m)))
      ∙ sym (map-append numbered (king_flights b i) (concat_map (king_flights b) is))

  pub king_law : king_quiets (pieces b King) (empty b) ≡ map numbered (concat_map (king_flights b) (members (pieces b King)))
  unfolding king_quiets
  king_law = kings_law (members (pieces b King)) (λ i m. piece_lt b fair King i (of_members (pieces b King) i m))

  -- ---- both
  pub lists_law : men_quiets (pieces b Man) (empty b) b.side ++ king_quiets (pieces b King) (empty b) ≡ map numbered (quiets b)
  unfolding quiets
  lists_law =
      ap₂ (λ (xs ys : List Move). xs ++ ys) (men_law b.side) king_law
      ∙ sym (map-append numbered (concat_map (man_steps b) (forward b.side)) (concat_map (king_flights b) (members (pieces b King))))
