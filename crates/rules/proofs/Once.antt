-- No move stands twice in the list, by bits.
use mathlib.Core.Path.{◌≡◌, refl, sym, ap, ◌∙◌, subst}
use Prim.Native.Nat.{ℕ}
use mathlib.Core.Bool.{true}
use mathlib.Core.List.{List, [], ◌∷◌, map, Memᴰ as Member}
use Rattle.squares.specs.declared.piece.PieceKind.{PieceKind}
use Rattle.squares.specs.declared.piece.PieceKind.TheVariants.{Man, King}
use Rattle.squares.specs.Directions.{Direction, next}
use Rattle.squares.specs.Sets.{has, members}
use Rattle.squares.specs.Squares.{all}
use Rattle.squares.proofs.Members.{of_members}
use Rattle.squares.proofs.Numbers.{all_lt, has_all}
use Rattle.positions.specs.Boards.{Board, own, pieces, empty}
use Rattle.rules.specs.Lists.{concat_map, keep, longest}
use Rattle.rules.specs.Ordered.{directions, ray, captures, man_steps, king_flights, quiets, same_bits, bit_legal}
use Rattle.rules.specs.Rules.{BitMove, bit_move, Glide, rest, step, forward, Fair}
use Rattle.rules.proofs.Agreement.{bits_none, bits_some}
use Rattle.rules.proofs.Boards.{empty_lt, own_on, empty_on, piece_own, man_not_king}
use Rattle.rules.proofs.Distinct.{append_once, keep_once, map_once, concat_map_once, members_once, directions_once, forward_once}
use Rattle.rules.proofs.Held.{Distinct, distinct_law}
use Rattle.rules.proofs.Lists.{of_concat_map, of_map, of_keep}
use Rattle.rules.proofs.Ray.{of_ray, in_ray}
use Rattle.rules.proofs.RaysApart.{ray_once, next_inj, rays_apart}
use Rattle.rules.proofs.Same.{bits_refl, bits_true}

glide_wide : (e u : ℕ) (d : Direction) → ((j : ℕ) → has e j ≡ true → has u j ≡ true) → {i j : ℕ} → Glide e d i j → Glide u d i j
glide_wide e u d f rest = rest
glide_wide e u d f (step {i = i} q g) = step (f (next d i) q) (glide_wide e u d f g)

module _ (b : Board) (fair : Fair b) where
  flown : (d : Direction) (i j : ℕ) → Member j (ray (empty b) d i) → Member j (ray all d i)
  flown d i j m =
      let f = of_ray (empty b) d i j m in
      in_ray all d all_lt i j (record { near = on (next d i) f.near; far = glide_wide (empty b) all d on f.far })
    where
      on : (j : ℕ) → has (empty b) j ≡ true → has all j ≡ true
      on j h = has_all j ∙ empty_on b fair j h

  piece_in : (k : PieceKind) (i : ℕ) → Member i (members (pieces b k)) → has (pieces b k) i ≡ true
  piece_in k i m = of_members (pieces b k) i m

  -- a quiet move of a man, of a king: its first square
  record Steps (d : Direction) (z : BitMove) : Type 0 where
    leaves : has (pieces b Man) z.from ≡ true
    goes : z.to ≡ next d z.from

  of_steps : (d : Direction) (z : BitMove) → Member z (man_steps b d) → Steps d z
  unfolding man_steps
  of_steps d z m =
      let r = of_map (λ (i : ℕ). bit_move i (next d i) 0) (keep (λ i. has (empty b) (next d i)) (members (pieces b Man))) m in
      let q = of_keep (λ i. has (empty b) (next d i)) (members (pieces b Man)) r.1 in
      record {
        leaves = ap (λ (u : BitMove). has (pieces b Man) u.from) r.2 ∙ piece_in Man r.0 q.0;
        goes = ap (λ (u : BitMove). u.to) r.2 ∙ ap (λ (u : BitMove). next d u.from) (sym r.2);
      }

  man_once : (d : Direction) → Distinct (man_steps b d)
  unfolding man_steps
  man_once d = map_once (λ (i : ℕ). bit_move i (next d i) 0) _ (λ x y e. ap (λ (u : BitMove). u.from) e)
      (keep_once (λ i. has (empty b) (next d i)) _ (members_once (pieces b Man)))

  men_once : Distinct (concat_map (man_steps b) (forward b.side))
  men_once = concat_map_once (man_steps b) (forward b.side) (forward_once b.side) (λ d m. man_once d)
      (λ d c z m n p q. next_inj d c z.from (sym (of_steps d z p).goes ∙ (of_steps c z q).goes))

  of_flights : (i : ℕ) (z : BitMove) → Member z (king_flights b i) → z.from ≡ i
  unfolding king_flights
  of_flights i z m =
      let r = of_concat_map (λ d. map (λ (j : ℕ). bit_move i j 0) (ray (empty b) d i)) directions m in
      let q = of_map (λ (j : ℕ). bit_move i j 0) (ray (empty b) r.0 i) r.2 in ap (λ (u : BitMove). u.from) q.2

  king_once : (i : ℕ) → has (own b) i ≡ true → Distinct (king_flights b i)
  unfolding king_flights
  king_once i h =
      concat_map_once (λ d. map (λ (j : ℕ). bit_move i j 0) (ray (empty b) d i)) directions directions_once
      (λ d m. map_once (λ (j : ℕ). bit_move i j 0) (ray (empty b) d i) (λ x y e. ap (λ (u : BitMove). u.to) e) (ray_once (empty b) d (empty_lt b) i))
      (λ d c z m n p q. meet d c z (of_map (λ (j : ℕ). bit_move i j 0) (ray (empty b) d i) p)
      (of_map (λ (j : ℕ). bit_move i j 0) (ray (empty b) c i) q))
    where
      meet : (d c : Direction) (z : BitMove) → (j : ℕ) × Member j (ray (empty b) d i) × (z ≡ bit_move i j 0)
          → (k : ℕ) × Member k (ray (empty b) c i) × (z ≡ bit_move i k 0) → d ≡ c
      meet d c z r s =
          let e : s.0 ≡ r.0 = ap (λ (u : BitMove). u.to) (sym s.2 ∙ r.2) in
          rays_apart d c i r.0 (own_on b fair i h) (flown d i r.0 r.1) (subst (λ j. Member j (ray all c i)) e (flown c i s.0 s.1))

  kings_once : Distinct (concat_map (king_flights b) (members (pieces b King)))
  kings_once = concat_map_once (king_flights b) (members (pieces b King)) (members_once (pieces b King))
      (λ i m. king_once i (piece_own b fair King i (piece_in King i m))) (λ i j z m n p q. sym (of_flights i z p) ∙ of_flights j z q)

  quiets_once : Distinct (quiets b)
  unfolding quiets
  quiets_once = append_once (concat_map (man_steps b) (forward b.side)) (concat_map (king_flights b) (members (pieces b King))) men_once kings_once
      (λ z m n.
      let r = of_concat_map (man_steps b) (forward b.side) m in
      let s = of_concat_map (king_flights b) (members (pieces b King)) n in
      man_not_king b fair z.from (of_steps r.0 z r.2).leaves
      (ap (has (pieces b King)) (of_flights s.0 z s.2) ∙ piece_in King s.0 s.1))

  pub bits_once : Distinct (bit_legal b)
  bits_once = go (captures b) refl
    where
      go : (l : List BitMove) → captures b ≡ l → Distinct (bit_legal b)
      go [] e = rw (bits_none b e) quiets_once
      go (c ∷ cs) e = rw (bits_some b c cs e) (unfold longest in distinct_law same_bits bits_refl bits_true _)
