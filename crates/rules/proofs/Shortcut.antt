-- The king's shortcut: never back, and straight on from the first landing only. It changes neither the list nor its order.
use mathlib.Core.Path.{◌≡◌, refl, sym, ap, ap₂, ◌∙◌, subst}
use Prim.Native.Nat.{ℕ, ◌+◌, ◌^◌, ◌<◌}
use native.Mathlib.Omega.{arith}
use mathlib.Core.Bool.{Bool, true, false, not, ◌&&◌, ◌||◌, and-false, or-true}
use mathlib.Core.List.Memᴰ.{head}
use mathlib.Core.List.Memᴰ.{tail}
use mathlib.Core.List.{List, [], ◌∷◌, ◌++◌, map, foldl, foldl-append, nil≢cons, head-eq_of_cons-eq, tail-eq_of_cons-eq, Memᴰ as Member}
use mathlib.Core.Logic.{◌⊎◌, inl, inr}
use lib.ListN.{length, take}
use lib.Seq.{take_all}
use lib.Dec.{eqb, ltb}
use lib.Bits.{bit_or}
use borrow.Author.Tests.{eqb-true, eq-eqb, le-ltb}
use Rattle.squares.specs.declared.piece.PieceKind.TheVariants.{Man, King}
use Rattle.squares.specs.Directions.{Direction, next, opposite, index_of, direction_at}
use Rattle.squares.specs.Sets.{has, members}
use Rattle.squares.proofs.Members.{of_members}
use Rattle.squares.proofs.Pointwise.{has_or, has_bit, member_lt}
use Rattle.squares.proofs.Shifts.{direction_index, opposite_index, next_lt, next_back}
use Rattle.rules.proofs.Tree.{pruned, cut_start}
use Rattle.positions.specs.Boards.{Board, own, enemy, pieces}
use Rattle.rules.proofs.Boards.{own_lt, enemy_lt, space_lt, enemy_blocks}
use Rattle.rules.specs.Lists.{concat_map, best, longest}
use Rattle.rules.specs.Ordered.{directions, ray, last, blocker, target, hop, jumps_over, jumps_along, jumps, enough, sequences, all_sequences, count, captures, same_bits}
use Rattle.rules.specs.Rules.{BitMove, bit_move, space, Glide, rest, step, Flight, Target, Fair}
use Rattle.rules.proofs.Bounded.{bounded, view, note_in, fold_seen}
use Rattle.rules.proofs.Fold.{Found, found, note, fold_law}
use Rattle.rules.proofs.Targets.{of_target}
use Rattle.rules.proofs.Jumps.{over_yes, over_no, Good, good, grows}
use Rattle.rules.proofs.Lists.{of_map}
use Rattle.rules.proofs.Paths.{starts}
use Rattle.rules.proofs.Ray.{ray_on, of_ray, last_is}
use Rattle.rules.proofs.Same.{bits_refl, bits_true}

-- e goes back where one came along d
unfoldable pub back : Direction → Direction → Bool
back d e = eqb (index_of d + index_of e) 3

unfoldable pub straight : Direction → Direction → Bool
straight d e = eqb (index_of d) (index_of e)

-- what a later landing leaves out
unfoldable pub aside : Direction → Direction → Bool
aside d e = straight d e || back d e

index_inj : (d e : Direction) → index_of d ≡ index_of e → d ≡ e
index_inj d e q = sym (direction_index d) ∙ ap direction_at q ∙ direction_index e

back_is : (d e : Direction) → back d e ≡ true → e ≡ opposite d
unfolding back
back_is d e q = index_inj e (opposite d) (omega (arith, eqb-true (index_of d + index_of e) 3 q, opposite_index d))

straight_is : (d e : Direction) → straight d e ≡ true → e ≡ d
unfolding straight
straight_is d e q = index_inj e d (sym (eqb-true (index_of d) (index_of e) q))

aside_is : (d e : Direction) → aside d e ≡ true → (e ≡ d) ⊎ (e ≡ opposite d)
unfolding aside
aside_is d e q = go (straight d e) refl q
  where
    go : (s : Bool) → straight d e ≡ s → (s || back d e) ≡ true → (e ≡ d) ⊎ (e ≡ opposite d)
    go true p r = inl (straight_is d e p)
    go false p r = inr (back_is d e r)

-- a king's sequences as the code tries them
unfoldable pub king_tried : Board → ℕ → List BitMove
king_tried b i = pruned directions (jumps_along b King) back aside enough (λ d. false) (bit_move i i 0)

-- all that the code records, in its order
unfoldable pub all_tried : Board → List BitMove
all_tried b = concat_map (sequences b Man) (members (pieces b Man)) ++ concat_map (king_tried b) (members (pieces b King))

-- ---- glides
module _ (e : ℕ) (d : Direction) where
  glide_on : {i j : ℕ} → Glide e d i j → has e (next d j) ≡ true → Glide e d i (next d j)
  glide_on rest q = step q rest
  glide_on (step h g) q = step h (glide_on g q)

  glide_last : e < 2 ^ 54 → {i j : ℕ} → Glide e d i j → last i (ray e d i) ≡ last j (ray e d j)
  unfolding last
  glide_last small rest = refl
  glide_last small (step {i = i} q g) = rw (ray_on e d small i q) (glide_last small g)

glide_back : (e : ℕ) (d : Direction) {i j : ℕ} → Glide e d i j → i < 64 → has e i ≡ true → Glide e (opposite d) j i
glide_back e d rest l q = rest
glide_back e d (step {i = i} {j = j} h g) l q =
    subst (λ u. Glide e (opposite d) j u) (next_back d i l)
    (glide_on e (opposite d) (glide_back e d g (next_lt d i) h) (ap (has e) (next_back d i l) ∙ q))

module _ (b : Board) (fair : Fair b) where
  abbrev along : BitMove → Direction → List BitMove
  along s d = jumps_along b King s d

  -- what is found along d
  record Shape (x l : BitMove) (ls : List BitMove) (d : Direction) : Type 0 where
    o : ℕ
    aim : Target b x.taken o
    j : ℕ
    near : Flight (space b x.from) d o j
    first : l ≡ hop x o j
    later : (k : BitMove) → Member k ls → (i : ℕ) × Flight (space b x.from) d o i × (k ≡ hop x o i)

  shape : (x l : BitMove) (ls : List BitMove) (d : Direction) → along x d ≡ l ∷ ls → Shape x l ls d
  unfolding jumps_along
  shape x l ls d q = go (target b x.taken o) refl (ray e d o) refl
    where
      e : ℕ
      e = space b x.from

      o : ℕ
      o = blocker e d x.to

      fly : (r : List ℕ) → ray e d o ≡ r → (i : ℕ) → Member i r → Flight e d o i
      fly r h i m = of_ray e d o i (subst (λ z. Member i z) (sym h) m)

      go : (t : Bool) → target b x.taken o ≡ t → (r : List ℕ) → ray e d o ≡ r → Shape x l ls d
      go false p r h = absurd (nil≢cons (sym (over_no b x o (ray e d o) p) ∙ q))
      go true p [] h = absurd (nil≢cons (ap (map (hop x o)) (sym h) ∙ sym (over_yes b x o (ray e d o) p) ∙ q))
      go true p (j ∷ js) h =
          let m : hop x o j ∷ map (hop x o) js ≡ l ∷ ls = ap (map (hop x o)) (sym h) ∙ sym (over_yes b x o (ray e d o) p) ∙ q in
          record {
            o = o;
            aim = of_target b x.taken o p;
            j = j;
            near = fly (j ∷ js) h j (head refl);
            first = sym (head-eq_of_cons-eq m);
            later = λ k i. let r = of_map (hop x o) js (subst (λ z. Member k z) (sym (tail-eq_of_cons-eq m)) i) in
                (r.0, fly (j ∷ js) h r.0 (tail r.1), r.2);
          }

  module _ (x : BitMove) (g : Good b x) (d : Direction) (o : ℕ) (aim : Target b x.taken o) where
    small : space b x.from < 2 ^ 54
    small = space_lt b fair x.from (member_lt 54 (own b) x.from (own_lt b fair) g.own)

    o_lt : o < 54
    o_lt = member_lt 54 (enemy b) o (enemy_lt b fair) aim.enemy

    -- going back meets the piece just taken
    none_back : (j : ℕ) → Flight (space b x.from) d o j → along (hop x o j) (opposite d) ≡ []
    unfolding jumps_along hop blocker target
    none_back j f =
        over_no b (hop x o j) (next (opposite d) (last j (ray e (opposite d) j)))
        (ray e (opposite d) (next (opposite d) (last j (ray e (opposite d) j))))
        (ap (λ (i : ℕ). target b (bit_or x.taken (2 ^ o)) i) meets ∙ taken)
      where
        e : ℕ
        e = space b x.from

        back_at : next (opposite d) (next d o) ≡ o
        back_at = next_back d o (omega (arith, o_lt))

        blocked : has e (next (opposite d) (next d o)) ≡ false
        blocked = ap (has e) back_at ∙ enemy_blocks b fair x.from o g.own aim.enemy

        meets : next (opposite d) (last j (ray e (opposite d) j)) ≡ o
        meets = ap (next (opposite d)) (last_is e (opposite d) small (glide_back e d f.far (next_lt d o) f.near) blocked) ∙ back_at

        taken : target b (bit_or x.taken (2 ^ o)) o ≡ false
        taken = ap (λ (c : Bool). has (enemy b) o && not c)
            (has_or x.taken (2 ^ o) o ∙ ap (λ (c : Bool). has x.taken o || c) (has_bit o o ∙ eq-eqb o o refl) ∙ or-true (has x.taken o))
            ∙ and-false (has (enemy b) o)

    -- straight on, every landing finds the same
    same_on : (j : ℕ) → Flight (space b x.from) d o j → along (hop x o j) d ≡ along (hop x o (next d o)) d
    unfolding jumps_along hop blocker jumps_over
    same_on j f =
        ap (λ (p : ℕ). jumps_over b (hop x o j) (next d p) (ray (space b x.from) d (next d p)))
        (sym (glide_last (space b x.from) d small f.far))

  abbrev Dir : Direction → Type 0
  Dir d = Member d directions

  first_none : (x l : BitMove) (ls : List BitMove) (d e : Direction) → Good b x → Dir d → Dir e → along x d ≡ l ∷ ls → back d e ≡ true
      → along l e ≡ []
  first_none x l ls d e g m n q p =
      let s = shape x l ls d q in
      ap₂ (λ (k : BitMove) (c : Direction). along k c) s.first (back_is d e p) ∙ none_back x g d s.o s.aim s.j s.near

  later_same : (x l k : BitMove) (ls : List BitMove) (d e : Direction) → Good b x → Dir d → Dir e → along x d ≡ l ∷ ls → Member k ls
      → aside d e ≡ true → along k e ≡ along l e
  later_same x l k ls d e g m n q h p = go (shape x l ls d q) (aside_is d e p)
    where
      go : Shape x l ls d → (e ≡ d) ⊎ (e ≡ opposite d) → along k e ≡ along l e
      go s (inl c) =
          let r = s.later k h in
          ap₂ (λ (k : BitMove) (c : Direction). along k c) r.2 c ∙ same_on x g d s.o s.aim r.0 r.1
          ∙ sym (ap₂ (λ (k : BitMove) (c : Direction). along k c) s.first c ∙ same_on x g d s.o s.aim s.j s.near)
      go s (inr c) =
          let r = s.later k h in
          ap₂ (λ (k : BitMove) (c : Direction). along k c) r.2 c ∙ none_back x g d s.o s.aim r.0 r.1
          ∙ sym (ap₂ (λ (k : BitMove) (c : Direction). along k c) s.first c ∙ none_back x g d s.o s.aim s.j s.near)

  -- for one king: what is found is the same, in the same order, whatever was found before
  pub king_law : (i : ℕ) → has (pieces b King) i ≡ true → (s : Found BitMove)
      → foldl (note same_bits count) s (king_tried b i) ≡ foldl (note same_bits count) s (sequences b King i)
  unfolding king_tried sequences jumps
  king_law i h s =
      cut_start directions (jumps_along b King) back aside same_bits bits_refl bits_true count (Good b) (good b fair King)
      (grows b fair King) first_none later_same
      enough (bit_move i i 0) s (starts b fair King i h)

  kings : (is : List ℕ) → ((i : ℕ) → Member i is → has (pieces b King) i ≡ true) → (s : Found BitMove)
      → foldl (note same_bits count) s (concat_map (king_tried b) is) ≡ foldl (note same_bits count) s (concat_map (sequences b King) is)
  unfolding concat_map
  kings [] h s = refl
  kings (i ∷ is) h s =
      foldl-append (note same_bits count) s (king_tried b i) (concat_map (king_tried b) is)
      ∙ ap (λ (t : Found BitMove). foldl (note same_bits count) t (concat_map (king_tried b) is)) (king_law i (h i (head refl)) s)
      ∙ kings is (λ j m. h j (tail m)) (foldl (note same_bits count) s (sequences b King i))
      ∙ sym (foldl-append (note same_bits count) s (sequences b King i) (concat_map (sequences b King) is))

  pub tried_law : foldl (note same_bits count) (found 0 []) (all_tried b) ≡ found (best count (captures b)) (longest same_bits count (captures b))
  unfolding all_tried all_sequences captures
  tried_law =
      foldl-append (note same_bits count) (found 0 []) men (concat_map (king_tried b) (members (pieces b King)))
      ∙ kings (members (pieces b King)) (λ i m. of_members (pieces b King) i m) (foldl (note same_bits count) (found 0 []) men)
      ∙ sym (foldl-append (note same_bits count) (found 0 []) men (concat_map (sequences b King) (members (pieces b King))))
      ∙ fold_law same_bits count (all_sequences b)
    where
      men : List BitMove
      men = concat_map (sequences b Man) (members (pieces b Man))

  -- with room for that many, and a mark: what the code's search ends with
  pub search_law : (room : ℕ) → foldl (note_in same_bits count room) (bounded 0 [] false) (all_tried b)
      ≡ bounded (best count (captures b)) (take room (longest same_bits count (captures b))) (ltb room (length (longest same_bits count (captures b))))
  search_law room =
      ap₂ (λ (r : List BitMove) (o : Bool). foldl (note_in same_bits count room) (bounded 0 r o) (all_tried b))
      (sym (take_all {A = BitMove} room [] (omega arith))) (sym (le-ltb room 0 (omega arith)))
      ∙ fold_seen same_bits count room bits_refl bits_true (all_tried b) (found 0 []) ∙ ap (view room) tried_law
