-- Sums of counts along a list: each count fits below 2 ^ 48, so a list of at most 256 fits a word; the walk comes to the whole.
use Rattle.std.specs.Prelude.{Some, None, Err, Ok, Result}
use mathlib.Core.Path.{◌≡◌, refl, sym, ap, ap₂, ◌∙◌}
use Prim.Native.Nat.{ℕ, zero, suc, ◌+◌, ◌-◌, ◌*◌, ◌^◌, ◌≤◌, ◌<◌}
use native.Mathlib.Nat.{suc-mul, mul-le-mul_right}
use native.Mathlib.Omega.{arith}
use native.Mathlib.Numerals.{add-one}
use mathlib.Core.Bool.{Bool, true, false}
use mathlib.Core.List.Memᴰ.{head}
use mathlib.Core.List.Memᴰ.{tail}
use mathlib.Core.List.{List, [], ◌∷◌, Memᴰ as Member}
use lib.ListN.{length, drop, get_or, drop_of_length-le}
use lib.Seq.{drop-cons}
use lib.Dec.{ltb}
use borrow.Author.Tests.{le-ltb, lt-ltb, ltb-false}
use Rattle.squares.specs.declared.refusal.Refusal.{Refusal}
use Rattle.squares.specs.declared.refusal.Refusal.TheVariants.{TooManyMoves}
use Rattle.positions.specs.Acceptance.{Accepted}
use Rattle.positions.specs.Boards.{Board}
use Rattle.positions.specs.Successor.{successor, Playable}
use Rattle.positions.specs.declared.moves.Move.{Move}
use Rattle.positions.proofs.Kept.{successor_accepted}
use Rattle.captures.specs.Lists.{blank, entries, list_of}
use Rattle.rules.specs.Ordered.{legal}
use Rattle.rules.proofs.Laws.{fair_of_accepted, legal_playable}
use Rattle.rules.proofs.Numbered.{member_sound}
use Rattle.captures.specs.declared.moves.MoveList.{MoveList}
use Rattle.captures.proofs.Whole.{few_whole, many_whole}
use Rattle.movegen.specs.Counts.{then_count, sum_from, depth_count}
use Rattle.movegen.specs.Generate.{seen, generate_of, next_of}
use Rattle.captures.specs.declared.view.View.{View}
use Rattle.capture_laws.proofs.Stored.{few_len, few_entries}
use Rattle.movegen.proofs.Generated.{generated, view_seen, next_is}

-- ---- sums
-- the most that a depth counts
unfoldable most : ℕ → ℕ
most zero = 1
most (suc n) = 256 * most n

of_count : {n k : ℕ} → ◌≡◌ {A = Result ℕ Refusal} (Ok n) (Ok k) → n ≡ k
of_count e = cc

no_count : {e : Refusal} {k : ℕ} → ◌≡◌ {A = Result ℕ Refusal} (Err e) (Ok k) → ⊥
no_count e = let z : ◌≡◌ {A = ℕ} 0 1 = cc in omega arith

sum_le : (f : Move → Result ℕ Refusal) (B : ℕ) → ((m : Move) (k : ℕ) → f m ≡ Ok k → k ≤ B) → (l : List Move) (s k : ℕ) → sum_from f s l ≡ Ok k → k ≤ s + length l * B
unfolding sum_from then_count
sum_le f B h [] s k e = omega (arith, of_count e)
sum_le f B h (m ∷ l) s k e = go (f m) refl e (λ t. sum_le f B h l t k)
  where
    go : (c : Result ℕ Refusal) → f m ≡ c → then_count c (λ n. sum_from f (s + n) l) ≡ Ok k → ((t : ℕ) → sum_from f t l ≡ Ok k → k ≤ t + length l * B) → k ≤ s + suc (length l) * B
    go (Ok n) q r ih = omega (arith, ih (s + n) r, h m n q, suc-mul (length l) B)
    go (Err x) q r ih = absurd (no_count r)

depth_le : (n : ℕ) (b : Board) (k : ℕ) → depth_count n b ≡ Ok k → k ≤ most n
unfolding depth_count most
depth_le zero b k e = omega (arith, of_count e)
depth_le (suc n) b k e = go (ltb 256 (length (legal b))) refl e (λ c j q. depth_le n c j q)
  where
    go : (t : Bool) → ltb 256 (length (legal b)) ≡ t
        → ◌≡◌ {A = Result ℕ Refusal} (elim t [ true ↦ Err TooManyMoves | false ↦ sum_from (λ m. depth_count n (successor b m)) 0 (legal b) ]) (Ok k)
        → ((c : Board) (j : ℕ) → depth_count n c ≡ Ok j → j ≤ most n) → k ≤ 256 * most n
    go true q r ih = absurd (no_count r)
    go false q r ih =
        omega (arith, sum_le (λ m. depth_count n (successor b m)) (most n) (λ m j p. ih (successor b m) j p) (legal b) 0 k r, mul-le-mul_right (most n) (ltb-false 256 (length (legal b)) q))

most_le : (n : ℕ) → n ≤ 6 → most n ≤ 2 ^ 48
unfolding most
most_le zero h = omega arith
most_le (suc zero) h = omega arith
most_le (suc (suc zero)) h = omega arith
most_le (suc (suc (suc zero))) h = omega arith
most_le (suc (suc (suc (suc zero)))) h = omega arith
most_le (suc (suc (suc (suc (suc zero))))) h = omega arith
most_le (suc (suc (suc (suc (suc (suc zero)))))) h = omega arith
most_le (suc (suc (suc (suc (suc (suc (suc n))))))) h = absurd (omega arith)

pub count_le : (n : ℕ) (b : Board) (k : ℕ) → n ≤ 6 → depth_count n b ≡ Ok k → k ≤ 2 ^ 48
count_le n b k h e = omega (arith, depth_le n b k e, most_le n h)

-- ---- a walk along the list of a board, n plies below each move
abbrev pub below : ℕ → Board → Move → Result ℕ Refusal
below n b m = depth_count n (successor b m)

-- what is still to count, from i on with s counted, comes to the whole
pub record Counting (n : ℕ) (b : Board) (s i : ℕ) : Type 0 where
  pub small : s ≤ i * 2 ^ 48
  pub same : sum_from (below n b) s (drop i (legal b)) ≡ sum_from (below n b) 0 (legal b)

module _ (n : ℕ) (b : Board) where
  pub counting_none : Counting n b 0 0
  counting_none = record { small = omega arith; same = refl }

  turn : (s i : ℕ) → i < length (legal b) → Counting n b s i
      → then_count (below n b (get_or (legal b) i blank)) (λ k. sum_from (below n b) (s + k) (drop (i + 1) (legal b))) ≡ sum_from (below n b) 0 (legal b)
  unfolding sum_from
  turn s i h w =
      ap (λ (j : ℕ). then_count (below n b (get_or (legal b) i blank)) (λ k. sum_from (below n b) (s + k) (drop j (legal b)))) (add-one i)
      ∙ ap (sum_from (below n b) s) (sym (drop-cons (legal b) i blank h)) ∙ w.same

  pub counting_more : (s i k : ℕ) → i < length (legal b) → n ≤ 6 → Counting n b s i → below n b (get_or (legal b) i blank) ≡ Ok k → Counting n b (s + k) (i + 1)
  unfolding then_count
  counting_more s i k h l w e = record {
    small = omega (arith, w.small, count_le n (successor b (get_or (legal b) i blank)) k l e);
    same = ap (λ (c : Result ℕ Refusal). then_count c (λ k. sum_from (below n b) (s + k) (drop (i + 1) (legal b)))) (sym e) ∙ turn s i h w;
  }

  pub counting_refused : (s i : ℕ) (x : Refusal) → i < length (legal b) → Counting n b s i → below n b (get_or (legal b) i blank) ≡ Err x
      → Err x ≡ sum_from (below n b) 0 (legal b)
  unfolding then_count
  counting_refused s i x h w e = ap (λ (c : Result ℕ Refusal). then_count c (λ k. sum_from (below n b) (s + k) (drop (i + 1) (legal b)))) (sym e) ∙ turn s i h w

  pub counting_done : (s i : ℕ) → length (legal b) ≤ i → Counting n b s i → Ok s ≡ sum_from (below n b) 0 (legal b)
  unfolding sum_from
  counting_done s i h w = ap (sum_from (below n b) s) (sym (drop_of_length-le (legal b) h)) ∙ w.same

  -- ---- one ply more
  pub depth_more : length (legal b) ≤ 256 → sum_from (below n b) 0 (legal b) ≡ depth_count (suc n) b
  unfolding depth_count
  depth_more h = sym (ap (λ (t : Bool). elim t [ true ↦ Err TooManyMoves | false ↦ sum_from (below n b) 0 (legal b) ]) (le-ltb 256 (length (legal b)) h))

  pub depth_many : ltb 256 (length (legal b)) ≡ true → Err TooManyMoves ≡ depth_count (suc n) b
  unfolding depth_count
  depth_many h = sym (ap (λ (t : Bool). elim t [ true ↦ Err TooManyMoves | false ↦ sum_from (below n b) 0 (legal b) ]) h)

pub depth_none : (d : ℕ) (b : Board) → d ≡ 0 → Ok 1 ≡ depth_count d b
unfolding depth_count
depth_none d b e = ap (λ (n : ℕ). depth_count n b) (sym e)

-- ---- the code's list of an accepted board
pub record Short (b : Board) (l : MoveList) : Type 0 where
  pub moves : entries l ≡ legal b
  pub few : length (legal b) ≤ 256
  pub len : l.len ≡ length (legal b)
  pub whole : l ≡ list_of (legal b)

-- there is none only where there are more than 256 moves
pub many : (v : View) → Accepted (seen v) → None ≡ generate_of v → ltb 256 (length (legal (seen v))) ≡ true
many v a e =
    lt-ltb 256 (length (legal (seen v)))
    (many_whole (legal (seen v)) (e ∙ ap generate_of (sym (view_seen v)) ∙ generated (seen v) (fair_of_accepted (seen v) a)))

module _ (v : View) (a : Accepted (seen v)) (l : MoveList) (e : Some l ≡ generate_of v) where
  -- the list of the rules
  full : (length (legal (seen v)) ≤ 256) × (l ≡ list_of (legal (seen v)))
  full = few_whole (legal (seen v)) l (e ∙ ap generate_of (sym (view_seen v)) ∙ generated (seen v) (fair_of_accepted (seen v) a))

  pub short : Short (seen v) l
  short = record {
    moves = ap entries full.1 ∙ few_entries (legal (seen v)) full.0;
    few = full.0;
    len = ap (λ (l : MoveList). l.len) full.1 ∙ few_len (legal (seen v)) full.0;
    whole = full.1;
  }

  -- the step to an entry of it is the successor, which is accepted
  at_member : (xs : List Move) (i : ℕ) → i < length xs → Member (get_or xs i blank) xs
  at_member [] i h = absurd (omega arith)
  at_member (x ∷ xs) zero h = head refl
  at_member (x ∷ xs) (suc i) h = tail (at_member xs i (omega arith))

  module _ (w : Short (seen v) l) (i : ℕ) (h : i < length (entries l)) where
    playable : Playable (seen v) (get_or (legal (seen v)) i blank)
    playable =
        let fair = fair_of_accepted (seen v) a in
        legal_playable (seen v) fair _ (member_sound (seen v) fair _ (at_member (legal (seen v)) i (omega (arith, ap length w.moves))))

    stepped : (next : View) → next ≡ next_of v (get_or (entries l) i blank) → seen next ≡ successor (seen v) (get_or (legal (seen v)) i blank)
    stepped next q =
        ap seen (q ∙ ap₂ next_of (sym (view_seen v)) (ap (λ (xs : List Move). get_or xs i blank) w.moves)) ∙ next_is (seen v) (get_or (legal (seen v)) i blank) a playable

    pub step_accepted : (next : View) → next ≡ next_of v (get_or (entries l) i blank) → Accepted (seen next)
    step_accepted next q = rw (stepped next q) (successor_accepted (seen v) (get_or (legal (seen v)) i blank) a playable)

    -- what a count below it says
    pub counted : (n : ℕ) (next : View) (res c : Result ℕ Refusal) → next ≡ next_of v (get_or (entries l) i blank) → res ≡ depth_count n (seen next) → res ≡ c
        → below n (seen v) (get_or (legal (seen v)) i blank) ≡ c
    counted n next res c q r s = ap (depth_count n) (sym (stepped next q)) ∙ sym r ∙ s

-- ---- the loop of a count, at any turn: n plies below each of the moves ms, s counted before entry i
module _ (v : View) (a : Accepted (seen v)) (l : MoveList) (e : Some l ≡ generate_of v) (ms : List Move) (z : ms ≡ entries l) (n s i : ℕ) (c : Counting n (seen v) s i) where
  pub listing_short : Short (seen v) l
  listing_short = short v a l e

  are : ms ≡ legal (seen v)
  are = z ∙ listing_short.moves

  pub as_many : length ms ≡ length (legal (seen v))
  as_many = ap length are

  pub sum_done : length ms ≤ i → Ok s ≡ depth_count (suc n) (seen v)
  sum_done h = counting_done n (seen v) s i (omega (arith, as_many)) c ∙ depth_more n (seen v) listing_short.few

  module _ (h : i < length ms) (next : View) (q : next ≡ next_of v (get_or ms i blank)) where
    in_list : i < length (entries l)
    in_list = omega (arith, ap length z)

    of_list : next ≡ next_of v (get_or (entries l) i blank)
    of_list = q ∙ ap (λ (xs : List Move). next_of v (get_or xs i blank)) z

    pub next_accepted : Accepted (seen next)
    next_accepted = step_accepted v a l e listing_short i in_list next of_list

    pub sum_below : (res x : Result ℕ Refusal) → res ≡ depth_count n (seen next) → res ≡ x → below n (seen v) (get_or (legal (seen v)) i blank) ≡ x
    sum_below res x = counted v a l e listing_short i in_list n next res x of_list

    module _ (low : n ≤ 6) (res : Result ℕ Refusal) (r : res ≡ depth_count n (seen next)) where
      pub sum_fits : (k : ℕ) → res ≡ Ok k → s + k < 2 ^ 64
      sum_fits k y = omega (arith, c.small, count_le n _ k low (sum_below res (Ok k) r y), as_many, listing_short.few)

      pub sum_again : (k : ℕ) → res ≡ Ok k → Counting n (seen v) (s + k) (i + 1)
      sum_again k y = counting_more n (seen v) s i k (omega (arith, as_many)) low c (sum_below res (Ok k) r y)

      pub sum_refused : (x : Refusal) → res ≡ Err x → Err x ≡ depth_count (suc n) (seen v)
      sum_refused x y =
          counting_refused n (seen v) s i x (omega (arith, as_many)) c (sum_below res (Err x) r y)
          ∙ depth_more n (seen v) listing_short.few

-- a depth that is not 0 is one more than the depth below
pub one_more : (d : ℕ) (b : Board) → (d ≡ 0 → ⊥) → depth_count (suc (d - 1)) b ≡ depth_count d b
one_more d b h = let e : suc (d - 1) ≡ d = omega arith in ap (λ (n : ℕ). depth_count n b) e
