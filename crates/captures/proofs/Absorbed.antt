-- What a short list had room for is all that the search of the same sequences adds to a longer one: a sequence that the
-- short list drops as a double is in the long list too, or that one has no room any more.
use Rattle.std.specs.Prelude.{Option, Some, None, unwrap_or}
use mathlib.Core.Path.{◌≡◌, refl, sym, ap, ap₂, ◌∙◌, subst}
use mathlib.Core.Logic.{◌⊎◌, inl, inr, ⊎_elim}
use mathlib.Core.Bool.{Bool, true, false, cond, ◌||◌, or_assoc, or-true, or-false, false≢true}
use mathlib.Core.List.{List, [], ◌∷◌, ◌++◌, foldl, foldl-append}
use Prim.Native.Nat.{ℕ, ◌+◌, ◌≤◌, ◌<◌}
use native.Mathlib.Omega.{arith}
use lib.ListN.{length, length-set, replicate, length-replicate, take}
use Rattle.std.proofs.lemmas.List.{take_more_set}
use lib.Dec.{eqb, ltb}
use borrow.Author.Tests.{ltb-true, ltb-false, le-ltb, lt-ltb, eqb-true, eq-eqb}
use Rattle.squares.specs.Sets.{size}
use Rattle.squares.specs.Squares.{first_of}
use Rattle.squares.proofs.Bools.{and_left, and_right}
use Rattle.positions.specs.declared.moves.Move.{Move}
use Rattle.positions.specs.Moves.{move, same}
use Rattle.captures.specs.declared.movegen.Captures.{Captures}
use Rattle.captures.specs.Lists.{blank, listed}
use Rattle.captures.specs.Record.{Ending, moves_in, move_of, cleared_by, appended, no_room, anew_by, more_at, more_by, added, record_of, note_of}
use Rattle.captures.proofs.Recorded.{Kept, kept_refl, kept_trans}

-- ---- one move
same_true : (m n : Move) → same m n ≡ true → m ≡ n
unfolding same
same_true m n h =
    let f = eqb-true m.from n.from (and_left _ _ h) in
    let r = and_right (eqb m.from n.from) _ h in
    let t = eqb-true m.to n.to (and_left _ _ r) in
    let c = eqb-true m.captured n.captured (and_right (eqb m.to n.to) _ r) in
    ap₂ (λ (x y : ℕ). move x y m.captured) f t ∙ ap (move n.from n.to) c

same_refl : (m : Move) → same m m ≡ true
unfolding same
same_refl m = rw (eq-eqb m.from m.from refl, eq-eqb m.to m.to refl, eq-eqb m.captured m.captured refl) refl

listed_snoc : (l : List Move) (m x : Move) → listed (l ++ (m ∷ [])) x ≡ (listed l x || same m x)
unfolding listed
listed_snoc [] m x = or-false (same m x)
listed_snoc (y ∷ l) m x = ap (λ (b : Bool). same y x || b) (listed_snoc l m x) ∙ sym (or_assoc (same y x) (listed l x) (same m x))

or_cases : (a b : Bool) → (a || b) ≡ true → (a ≡ true) ⊎ (b ≡ true)
or_cases true b e = inl refl
or_cases false b e = inr e

none_some : {A B : Type 0} {o : Option A} {n : A} → o ≡ None → o ≡ Some n → B
none_some p q = let z : ◌≡◌ {A = ℕ} 0 1 = cc in absurd (omega arith)

module _ {M : ℕ} where
  -- ---- what `added` does in each of its cases
  module _ (s : Captures M) (m : Move) where
    add_few : (eqb (size m.captured) 0 || ltb (size m.captured) s.best) ≡ true → added s m ≡ s
    add_few h = rw h refl

    add_anew : (eqb (size m.captured) 0 || ltb (size m.captured) s.best) ≡ false → s.best < size m.captured → added s m ≡ anew_by s m
    add_anew h l = rw (h, lt-ltb s.best (size m.captured) l) refl

    add_there : size m.captured ≡ s.best → listed (moves_in s) m ≡ true → added s m ≡ s
    add_there e l = go (eqb (size m.captured) 0 || ltb (size m.captured) s.best)
      where
        go : (b : Bool) → cond b s (cond (ltb s.best (size m.captured)) (anew_by s m) (cond (listed (moves_in s) m) s (more_by s m))) ≡ s
        go true = refl
        go false = rw (le-ltb s.best (size m.captured) (omega (arith, e)), l) refl

    add_full : size m.captured ≡ s.best → s.len ≡ None → added s m ≡ s
    unfolding more_by
    add_full e o = go (eqb (size m.captured) 0 || ltb (size m.captured) s.best) (listed (moves_in s) m)
      where
        stays : more_at s m s.len ≡ s
        stays = ap (more_at s m) o

        go : (b r : Bool) → cond b s (cond (ltb s.best (size m.captured)) (anew_by s m) (cond r s (more_at s m s.len))) ≡ s
        go true r = refl
        go false true = rw (le-ltb s.best (size m.captured) (omega (arith, e))) refl
        go false false = rw (le-ltb s.best (size m.captured) (omega (arith, e))) stays

    add_more : (eqb (size m.captured) 0 || ltb (size m.captured) s.best) ≡ false → size m.captured ≡ s.best → listed (moves_in s) m ≡ false
        → added s m ≡ more_at s m s.len
    unfolding more_by
    add_more h e l = rw (h, le-ltb s.best (size m.captured) (omega (arith, e)), l) refl

  -- ---- a move that the list takes no more
  record Absorbed (s : Captures M) (m : Move) : Type 0 where
    count : size m.captured ≡ s.best
    there : (listed (moves_in s) m ≡ true) ⊎ (s.len ≡ None)

  absorb : (s : Captures M) (m : Move) → Absorbed s m → added s m ≡ s
  absorb s m a = ⊎_elim (add_there s m a.count) (add_full s m a.count) a.there

  -- the search after one more of the largest number: it is absorbed, and so is what was
  record Taken (s r : Captures M) (m : Move) : Type 0 where
    kept : Kept s r
    best : r.best ≡ s.best
    room : length r.moves ≡ M
    self : Absorbed r m
    others : (x : Move) → Absorbed s x → Absorbed r x

  -- the moves after one more
  stored : (s : Captures M) (n : ℕ) (m : Move) → length s.moves ≡ M → s.len ≡ Some n → n < M
      → moves_in (appended s n m) ≡ moves_in s ++ (m ∷ [])
  stored s n m h e l =
      take_more_set s.moves n m (omega (arith, h, l)) ∙ ap (λ (o : Option ℕ). take (unwrap_or o 0) s.moves ++ (m ∷ [])) (sym e)

  taken : (s : Captures M) (m : Move) → length s.moves ≡ M → (eqb (size m.captured) 0 || ltb (size m.captured) s.best) ≡ false → size m.captured ≡ s.best → Taken s (added s m) m
  taken s m h u e = go (listed (moves_in s) m) refl
    where
      here : listed (moves_in s) m ≡ true → Taken s s m
      here l = record { kept = kept_refl s; best = refl; room = h; self = record { count = e; there = inl l }; others = λ x a. a }

      none : s.len ≡ None → Taken s s m
      none o = record { kept = kept_refl s; best = refl; room = h; self = record { count = e; there = inr o }; others = λ x a. a }

      some : (n : ℕ) → s.len ≡ Some n → (b : Bool) → ltb n M ≡ b → Taken s (cond b (appended s n m) (no_room s)) m
      some n o true l =
          let p = stored s n m h o (ltb-true n M l) in
          record {
            kept = record { them = refl; empty = refl; from = refl };
            best = refl;
            room = length-set s.moves n m ∙ h;
            self = record { count = e; there = inl (ap (λ (k : List Move). listed k m) p ∙ listed_snoc (moves_in s) m m ∙ rw (same_refl m, or-true) refl) };
            others = λ x a. record {
              count = a.count;
              there = ⊎_elim
                  (λ v. inl (ap (λ (k : List Move). listed k x) p ∙ listed_snoc (moves_in s) m x ∙ rw v refl))
                  (λ v. none_some v o)
                  a.there;
            };
          }
      some n o false l = record {
        kept = record { them = refl; empty = refl; from = refl };
        best = refl;
        room = h;
        self = record { count = e; there = inr refl };
        others = λ x a. record { count = a.count; there = inr refl };
      }

      at : (o : Option ℕ) → s.len ≡ o → Taken s (more_at s m o) m
      at None q = none q
      at (Some n) q = some n q (ltb n M) refl

      go : (b : Bool) → listed (moves_in s) m ≡ b → Taken s (added s m) m
      go true l = subst (λ (r : Captures M). Taken s r m) (sym (add_there s m e l)) (here l)
      go false l = subst (λ (r : Captures M). Taken s r m) (sym (add_more s m u e l)) (at s.len refl)

-- ---- the long list s after the first endings is A, the short one is t
record Follows {N M : ℕ} (s A : Captures M) (t : Captures N) : Type 0 where
  kept : Kept s A
  from : t.from ≡ s.from
  best : A.best ≡ t.best
  least : s.best ≤ t.best
  room : length t.moves ≡ N
  full : length A.moves ≡ M
  fits : (n : ℕ) → t.len ≡ Some n → n ≤ N
  same_as : (n : ℕ) → t.len ≡ Some n → A ≡ foldl added s (moves_in t)
  absorbed_all : (n : ℕ) → t.len ≡ Some n → (x : Move) → listed (moves_in t) x ≡ true → Absorbed A x

-- a search that takes over the board, the first square and the number of s, with an empty list of N entries
abbrev pub afresh : {M : ℕ} (N : ℕ) → Captures M → Captures N
afresh N s = record { moves = replicate N blank; len = Some 0; them = s.them; empty = s.empty; from = s.from; best = s.best }

begun : (N M : ℕ) (s : Captures M) → length s.moves ≡ M → Follows s s (afresh N s)
unfolding listed
begun N M s h = record {
  kept = kept_refl s;
  from = refl;
  best = refl;
  least = omega arith;
  room = length-replicate N blank;
  full = h;
  fits = λ n e. let z : 0 ≡ n = cc in omega (arith, z);
  same_as = λ n e. refl;
  absorbed_all = λ n e x l. absurd (false≢true l);
}

-- of one move, listed
listed_one : (m x : Move) → listed (m ∷ []) x ≡ true → m ≡ x
unfolding listed
listed_one m x l = same_true m x (sym (or-false (same m x)) ∙ l)

listed_self : (m : Move) → listed (m ∷ []) m ≡ true
unfolding listed
listed_self m = rw (same_refl m) refl

-- a cleared list with one move
alone_in : (N : ℕ) (t : Captures N) (k : ℕ) (m : Move) → 0 < N → moves_in (appended (cleared_by t k) 0 m) ≡ m ∷ []
alone_in N t k m l = take_more_set (replicate N blank) 0 m (omega (arith, l, length-replicate N blank))

-- cleared, two searches on one board are one
cleared_same : {M : ℕ} (s A : Captures M) → Kept s A → (k : ℕ) → cleared_by A k ≡ cleared_by s k
cleared_same {M} s A w k =
    ap₂ (λ (a b : ℕ). record { moves = replicate M blank; len = Some 0; them = a; empty = b; from = A.from; best = k }) w.them w.empty
    ∙ ap (λ (f : ℕ). record { moves = replicate M blank; len = Some 0; them = s.them; empty = s.empty; from = f; best = k }) w.from

module _ {N M : ℕ} (s A : Captures M) (t : Captures N) (w : Follows s A t) (e : Ending) where
  m : Move
  m = move_of t e.to e.taken

  -- the long list's step is that of the same move
  long : note_of A e ≡ added A m
  unfolding m record_of
  long = ap (λ (f : ℕ). added A (move (first_of f) (first_of e.to) e.taken)) (w.kept.from ∙ sym w.from)

  -- too few
  follow_few : (eqb (size e.taken) 0 || ltb (size e.taken) t.best) ≡ true → Follows s (added A m) t
  unfolding m
  follow_few h = subst (λ (r : Captures M). Follows s r t) (sym (add_few A m (rw w.best h))) w

  module _ (u : (eqb (size e.taken) 0 || ltb (size e.taken) t.best) ≡ false) where
    -- longer than all before
    follow_alone : t.best < size e.taken → Follows s (added A m) (anew_by t m)
    unfolding m more_by
    follow_alone h = subst (λ (r : Captures M). Follows s r (anew_by t m)) (sym is) (go (ltb 0 N) (ltb 0 M) refl refl)
      where
        k : ℕ
        k = size e.taken

        nonzero : (a b c : Bool) → (a || b) ≡ false → c ≡ false → (a || c) ≡ false
        nonzero true b c p q = p
        nonzero false b c p q = q

        below : (eqb (size m.captured) 0 || ltb (size m.captured) s.best) ≡ false
        below = nonzero (eqb (size e.taken) 0) (ltb (size e.taken) t.best) _ u (le-ltb (size e.taken) s.best (omega (arith, h, w.least)))

        is : added A m ≡ anew_by s m
        is = add_anew A m (rw w.best u) (rw w.best h) ∙ ap (λ (z : Captures M). more_by z m) (cleared_same s A w.kept k)

        -- the long list, and that m is absorbed by it
        long_list : Bool → Captures M
        long_list d = cond d (appended (cleared_by s k) 0 m) (no_room (cleared_by s k))

        mine : (d : Bool) → ltb 0 M ≡ d → Absorbed (long_list d) m
        mine true q = record { count = refl; there = inl (ap (λ (l : List Move). listed l m) (alone_in M s k m (ltb-true 0 M q)) ∙ listed_self m) }
        mine false q = record { count = refl; there = inr refl }

        entries : (d : Bool) → length (long_list d).moves ≡ M
        entries true = length-set (replicate M blank) 0 m ∙ length-replicate M blank
        entries false = length-replicate M blank

        board : (d : Bool) → Kept s (long_list d)
        board true = record { them = refl; empty = refl; from = refl }
        board false = record { them = refl; empty = refl; from = refl }

        number : (d : Bool) → (long_list d).best ≡ k
        number true = refl
        number false = refl

        go : (b d : Bool) → ltb 0 N ≡ b → ltb 0 M ≡ d → Follows s (long_list d) (cond b (appended (cleared_by t k) 0 m) (no_room (cleared_by t k)))
        go true d p q =
            let one = alone_in N t k m (ltb-true 0 N p) in
            record {
              kept = board d;
              from = w.from;
              best = number d;
              least = omega (arith, h, w.least);
              room = length-set (replicate N blank) 0 m ∙ length-replicate N blank;
              full = entries d;
              fits = λ n o. let z : 1 ≡ n = cc in omega (arith, z, ltb-true 0 N p);
              same_as = λ n o. sym (ap (foldl added s) one ∙ add_anew s m below (omega (arith, h, w.least)) ∙ ap long_list q);
              absorbed_all = λ n o x l. subst (Absorbed (long_list d)) (listed_one m x (ap (λ (v : List Move). listed v x) (sym one) ∙ l)) (mine d q);
            }
        go false d p q = record {
          kept = board d;
          from = w.from;
          best = number d;
          least = omega (arith, h, w.least);
          room = length-replicate N blank;
          full = entries d;
          fits = λ n o. none_some {o = None} refl o;
          same_as = λ n o. none_some {o = None} refl o;
          absorbed_all = λ n o. none_some {o = None} refl o;
        }

    module _ (h : size e.taken ≤ t.best) where
      count : size e.taken ≡ t.best
      count = go (eqb (size e.taken) 0) (ltb (size e.taken) t.best) refl u
        where
          go : (a b : Bool) → ltb (size e.taken) t.best ≡ b → (a || b) ≡ false → size e.taken ≡ t.best
          go true b p q = absurd (false≢true (sym q))
          go false true p q = absurd (false≢true (sym q))
          go false false p q = omega (arith, h, ltb-false (size e.taken) t.best p)

      step : Taken A (added A m) m
      unfolding m
      step = taken A m w.full (rw w.best u) (count ∙ sym w.best)

      -- a double
      follow_there : listed (moves_in t) m ≡ true → Follows s (added A m) t
      follow_there l = record {
        kept = kept_trans w.kept step.kept;
        from = w.from;
        best = step.best ∙ w.best;
        least = w.least;
        room = w.room;
        full = step.room;
        fits = w.fits;
        same_as = λ n o. absorb A m (w.absorbed_all n o m l) ∙ w.same_as n o;
        absorbed_all = λ n o x p. step.others x (w.absorbed_all n o x p);
      }

      -- a new one, where there is room
      follow_appended : (n : ℕ) → t.len ≡ Some n → n < N → Follows s (added A m) (appended t n m)
      follow_appended n o r = record {
        kept = kept_trans w.kept step.kept;
        from = w.from;
        best = step.best ∙ w.best;
        least = w.least;
        room = length-set t.moves n m ∙ w.room;
        full = step.room;
        fits = λ k q. let z : n + 1 ≡ k = cc in omega (arith, z, r);
        same_as = λ k q. ap (λ (x : Captures M). added x m) (w.same_as n o) ∙ sym (ap (foldl added s) longer ∙ foldl-append added s (moves_in t) (m ∷ []));
        absorbed_all = λ k q x p. ⊎_elim (λ v. step.others x (w.absorbed_all n o x v)) (λ v. subst (Absorbed (added A m)) (same_true m x v) step.self)
            (or_cases (listed (moves_in t) x) (same m x) (sym (listed_snoc (moves_in t) m x) ∙ ap (λ (k : List Move). listed k x) (sym longer) ∙ p));
      }
        where
          longer : moves_in (appended t n m) ≡ moves_in t ++ (m ∷ [])
          longer = stored t n m w.room o r

      -- no room
      follow_marked : Follows s (added A m) (no_room t)
      follow_marked = record {
        kept = kept_trans w.kept step.kept;
        from = w.from;
        best = step.best ∙ w.best;
        least = w.least;
        room = w.room;
        full = step.room;
        fits = λ n o. none_some {o = None} refl o;
        same_as = λ n o. none_some {o = None} refl o;
        absorbed_all = λ n o. none_some {o = None} refl o;
      }

      -- no room since before
      follow_none : t.len ≡ None → Follows s (added A m) t
      follow_none o = record {
        kept = kept_trans w.kept step.kept;
        from = w.from;
        best = step.best ∙ w.best;
        least = w.least;
        room = w.room;
        full = step.room;
        fits = w.fits;
        same_as = λ n q. none_some o q;
        absorbed_all = λ n q. none_some o q;
      }

      follow_more : (o : Option ℕ) → t.len ≡ o → Follows s (added A m) (more_at t m o)
      follow_more None q = follow_none q
      follow_more (Some n) q = go (ltb n N) refl
        where
          go : (b : Bool) → ltb n N ≡ b → Follows s (added A m) (cond b (appended t n m) (no_room t))
          go true p = follow_appended n q (ltb-true n N p)
          go false p = follow_marked

  follow : Follows s (note_of A e) (note_of t e)
  unfolding record_of more_by m
  follow = subst (λ (r : Captures M). Follows s r (note_of t e)) (sym long)
      (go (eqb (size e.taken) 0 || ltb (size e.taken) t.best) (ltb t.best (size e.taken)) (listed (moves_in t) m) refl refl refl)
    where
      go : (p q r : Bool) → (eqb (size e.taken) 0 || ltb (size e.taken) t.best) ≡ p → ltb t.best (size e.taken) ≡ q → listed (moves_in t) m ≡ r
          → Follows s (added A m) (cond p t (cond q (anew_by t m) (cond r t (more_at t m t.len))))
      go true q r ep eq er = follow_few ep
      go false true r ep eq er = follow_alone ep (ltb-true t.best (size e.taken) eq)
      go false false true ep eq er = follow_there ep (ltb-false t.best (size e.taken) eq) er
      go false false false ep eq er = follow_more ep (ltb-false t.best (size e.taken) eq) t.len refl

followed : {N M : ℕ} (s : Captures M) (es : List Ending) (A : Captures M) (t : Captures N) → Follows s A t → Follows s (foldl note_of A es) (foldl note_of t es)
followed s [] A t w = w
followed s (e ∷ es) A t w = followed s es (note_of A e) (note_of t e) (follow s A t w e)

pub absorbed : {N M : ℕ} (s : Captures M) → length s.moves ≡ M → (es : List Ending) (t : Captures N) → t ≡ foldl note_of (afresh N s) es → (n : ℕ) → t.len ≡ Some n
    → foldl added s (moves_in t) ≡ foldl note_of s es
absorbed {N} {M} s h es t q n o =
    let w = followed s es s (afresh N s) (begun N M s h) in
    ap (λ (x : Captures N). foldl added s (moves_in x)) q
    ∙ sym (w.same_as n (ap (λ (x : Captures N). x.len) (sym q) ∙ o))
