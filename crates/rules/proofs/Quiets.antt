-- The quiet moves listed are the quiet moves of the rules.
use mathlib.Core.Path.{◌≡◌, refl, sym, subst}
use Prim.Native.Nat.{ℕ}
use mathlib.Core.Bool.{true}
use mathlib.Core.List.Memᴰ.{append_cases as in-cases}
use mathlib.Core.List.Memᴰ.{append_left as in_left}
use mathlib.Core.List.Memᴰ.{append_right as in_right}
use mathlib.Core.List.{map, Memᴰ as Member}
use mathlib.Core.Logic.{◌⊎◌, inl, inr}
use Rattle.squares.specs.declared.piece.PieceKind.TheVariants.{Man, King}
use Rattle.squares.specs.Directions.{Direction, next}
use Rattle.squares.specs.Sets.{has, members}
use Rattle.squares.proofs.Members.{of_members}
use Rattle.positions.specs.Boards.{Board, pieces, empty}
use Rattle.rules.specs.Lists.{concat_map, keep}
use Rattle.rules.specs.Ordered.{directions, ray, man_steps, king_flights, quiets}
use Rattle.rules.specs.Rules.{BitMove, bit_move, forward, Quiet, man_step, king_flight, Fair}
use Rattle.rules.proofs.Boards.{empty_lt, piece_member}
use Rattle.rules.proofs.Jumps.{all_directions}
use Rattle.rules.proofs.Lists.{in_concat_map, of_concat_map, in_map, of_map, in_keep, of_keep}
use Rattle.rules.proofs.Ray.{of_ray, in_ray}

-- a quiet move takes nothing
pub quiet_none : {b : Board} {w : BitMove} → Quiet b w → w.taken ≡ 0
quiet_none (man_step d p f e) = refl
quiet_none (king_flight d p f) = refl

module _ (b : Board) (fair : Fair b) where
  -- ---- quiet moves
  of_man_steps : (d : Direction) (m : BitMove) → Member d (forward b.side) → Member m (man_steps b d) → Quiet b m
  unfolding man_steps
  of_man_steps d m f h =
      let r = of_map (λ (i : ℕ). bit_move i (next d i) 0) (keep (λ i. has (empty b) (next d i)) (members (pieces b Man))) h in
      let q = of_keep (λ i. has (empty b) (next d i)) (members (pieces b Man)) r.1 in
      subst (Quiet b) (sym r.2) (man_step d (of_members (pieces b Man) r.0 q.0) f q.1)

  of_king_flights : (i : ℕ) (m : BitMove) → has (pieces b King) i ≡ true → Member m (king_flights b i) → Quiet b m
  unfolding king_flights
  of_king_flights i m p h =
      let r = of_concat_map (λ d. map (λ (j : ℕ). bit_move i j 0) (ray (empty b) d i)) directions h in
      let q = of_map (λ (j : ℕ). bit_move i j 0) (ray (empty b) r.0 i) r.2 in
      subst (Quiet b) (sym q.2) (king_flight r.0 p (of_ray (empty b) r.0 i q.0 q.1))

  pub of_quiets : (m : BitMove) → Member m (quiets b) → Quiet b m
  unfolding quiets
  of_quiets m h = go (in-cases (concat_map (man_steps b) (forward b.side)) h)
    where
      go : Member m (concat_map (man_steps b) (forward b.side)) ⊎ Member m (concat_map (king_flights b) (members (pieces b King))) → Quiet b m
      go (inl k) = let r = of_concat_map (man_steps b) (forward b.side) k in of_man_steps r.0 m r.1 r.2
      go (inr k) = let r = of_concat_map (king_flights b) (members (pieces b King)) k in
          of_king_flights r.0 m (of_members (pieces b King) r.0 r.1) r.2

  pub in_quiets : {m : BitMove} → Quiet b m → Member m (quiets b)
  unfolding quiets man_steps king_flights
  in_quiets (man_step {i = i} d p f e) =
      in_left _ (in_concat_map (man_steps b) f (in_map (λ (i : ℕ). bit_move i (next d i) 0)
      (in_keep (λ i. has (empty b) (next d i)) (piece_member b fair Man i p) e)))
  in_quiets (king_flight {i = i} {j = j} d p f) =
      in_right (concat_map (man_steps b) (forward b.side))
      (in_concat_map (king_flights b) (piece_member b fair King i p)
      (in_concat_map (λ d. map (λ (j : ℕ). bit_move i j 0) (ray (empty b) d i)) (all_directions d)
      (in_map (λ (j : ℕ). bit_move i j 0) (in_ray (empty b) d (empty_lt b) i j f))))
