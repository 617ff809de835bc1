-- A record of the code is a step of the fold over moves alone: what a search has found, with room for any number.
use Rattle.std.specs.Prelude.{Option, Some, None, unwrap_or, option_map}
use mathlib.Core.Path.{◌≡◌, refl, sym, ap, ap₂, ◌∙◌, subst}
use mathlib.Core.Bool.{Bool, true, false, ◌||◌, cond, false≢true}
use mathlib.Core.List.{List, [], ◌∷◌, ◌++◌, map, foldl}
use Prim.Native.Nat.{ℕ, ◌≤◌}
use native.Mathlib.Omega.{arith}
use lib.Dec.{eqb, ltb, leb}
use lib.ListN.{length, length-append, length-replicate, replicate, set, take}
use borrow.Author.Tests.{ltb-true, ltb-false, leb-true, leb-false}
use Rattle.std.proofs.lemmas.List.{length-set}
use Rattle.squares.specs.Sets.{size}
use Rattle.squares.specs.Squares.{first_of}
use Rattle.positions.specs.declared.moves.Move.{Move}
use Rattle.positions.specs.Moves.{move}
use Rattle.captures.specs.declared.movegen.Captures.{Captures}
use Rattle.captures.specs.declared.moves.MoveList.{MoveList}
use Rattle.captures.specs.Lists.{blank, listed, list_of}
use Rattle.captures.specs.Record.{Ending, start_of, moves_in, entered, list_in, whole_in, move_of, cleared_by, appended, no_room, more_at, more_by, record_of, note_of}
use Rattle.captures.proofs.Limit.{Found, found, add_in, note_in}
use Rattle.captures.proofs.Recorded.{anew_of, Kept, kept_refl, kept_trans, record_kept}
use Rattle.captures.proofs.Stored.{filled, front_of, none_filled, store, refilled}

-- the move of an ending, where the piece began on the one-bit set f
abbrev pub move_to : ℕ → Ending → Move
move_to f e = move (first_of f) (first_of e.to) e.taken

-- the number of moves of a list; none where there were more than it holds
abbrev pub number_in : Found → Option ℕ
number_in x = cond x.overflow None (Some (length x.moves))

module _ {N : ℕ} where
  -- the search has found what x says: its entries are the moves of x and then blanks, also where there were more of them
  pub record Holds (s : Captures N) (x : Found) : Type 0 where
    pub room : length s.moves ≡ N
    pub list : s.moves ≡ filled blank N x.moves
    pub len : s.len ≡ number_in x
    pub few : length x.moves ≤ N
    pub full : x.overflow ≡ true → N ≤ length x.moves
    pub best : s.best ≡ x.most

  -- its moves, where there was room
  pub moves_are : (s : Captures N) (k : ℕ) (l : List Move) → Holds s (found k l false) → moves_in s ≡ l
  moves_are s k l h = ap₂ (λ (o : Option ℕ) (ms : List Move). take (unwrap_or o 0) ms) h.len h.list ∙ front_of blank N l h.few

  none_found : (s : Captures N) (k : ℕ) → Holds (cleared_by s k) (found k [] false)
  none_found s k = record {
    room = length-replicate N blank;
    list = none_filled blank N;
    len = refl;
    few = omega arith;
    full = λ e. absurd (false≢true e);
    best = refl;
  }

  pub none_holds : (them empty : ℕ) → Holds (start_of N them empty) (found 0 [] false)
  none_holds them empty = let h = none_found (start_of N them empty) 0 in
      record { room = h.room; list = h.list; len = h.len; few = h.few; full = h.full; best = h.best }

  -- one more, where there was room so far
  more : (s : Captures N) (k : ℕ) (l : List Move) (m : Move) → Holds s (found k l false) → Holds (more_by s m) (add_in N (found k l false) m)
  unfolding more_by
  more s k l m h = subst (λ (o : Option ℕ). Holds (more_at s m o) (add_in N (found k l false) m)) (sym h.len) (go (ltb (length l) N) (leb N (length l)) refl refl)
    where
      go : (b c : Bool) → ltb (length l) N ≡ b → leb N (length l) ≡ c
          → Holds (cond b (appended s (length l) m) (no_room s)) (found k (cond b (l ++ (m ∷ [])) l) c)
      go true true e q = absurd (let lt = ltb-true (length l) N e in let ge = leb-true N (length l) q in omega arith)
      go true false e q =
          let lt = ltb-true (length l) N e in
          record {
            room = length-set s.moves (length l) m ∙ h.room;
            list = ap (λ (ms : List Move). set ms (length l) m) h.list ∙ store blank N N l m lt (omega arith);
            len = ap Some (sym (length-append l (m ∷ [])));
            few = omega (arith, lt, length-append l (m ∷ []));
            full = λ e. absurd (false≢true e);
            best = h.best;
          }
      go false true e q = record { room = h.room; list = h.list; len = refl; few = h.few; full = λ e. leb-true N (length l) q; best = h.best }
      go false false e q = absurd (let ge = ltb-false (length l) N e in let lt = leb-false N (length l) q in omega arith)

  -- one more, each once; where there was no room, there still is none
  again : (s : Captures N) (k : ℕ) (l : List Move) (o : Bool) (m : Move) → Holds s (found k l o)
      → Holds (cond (listed (moves_in s) m) s (more_by s m)) (cond (listed l m) (found k l o) (add_in N (found k l o) m))
  unfolding more_by
  again s k l true m h =
      subst (λ (o : Option ℕ). Holds (cond (listed (take (unwrap_or o 0) s.moves) m) s (more_at s m o)) (cond (listed l m) (found k l true) (add_in N (found k l true) m)))
      (sym h.len) (go (listed (take 0 s.moves) m) (listed l m) (ltb (length l) N) refl)
    where
      go : (a b c : Bool) → ltb (length l) N ≡ c → Holds (cond a s s) (cond b (found k l true) (found k (cond c (l ++ (m ∷ [])) l) true))
      go a b true e = absurd (let lt = ltb-true (length l) N e in let ge = h.full refl in omega arith)
      go true true false e = h
      go true false false e = h
      go false true false e = h
      go false false false e = h
  again s k l false m h =
      subst (λ (ms : List Move). Holds (cond (listed ms m) s (more_by s m)) (cond (listed l m) (found k l false) (add_in N (found k l false) m))) (sym (moves_are s k l h))
      (go (listed l m))
    where
      go : (b : Bool) → Holds (cond b s (more_by s m)) (cond b (found k l false) (add_in N (found k l false) m))
      go true = h
      go false = more s k l m h

  pub record_holds : (s : Captures N) (x : Found) (to c : ℕ) → Holds s x → Holds (record_of s to c) (note_in N x (move_of s to c))
  unfolding record_of note_in
  record_holds s x to c h =
      subst (λ (k : ℕ). Holds (record_of s to c) (cond (eqb (size c) 0 || ltb (size c) k) x (cond (ltb k (size c)) (add_in N (found (size c) [] false) m) (cond (listed x.moves m) x (add_in N x m)))))
      h.best (go (eqb (size c) 0 || ltb (size c) s.best) (ltb s.best (size c)))
    where
      m : Move
      m = move_of s to c

      go : (p q : Bool)
          → Holds (cond p s (cond q (anew_of s to c) (cond (listed (moves_in s) m) s (more_by s m))))
          (cond p x (cond q (add_in N (found (size c) [] false) m) (cond (listed x.moves m) x (add_in N x m))))
      go true q = h
      go false true = more (cleared_by s (size c)) (size c) [] m (none_found s (size c))
      go false false = again s x.most x.moves x.overflow m h

  -- a search of one piece
  pub record Searched (s r : Captures N) (x : Found) : Type 0 where
    pub kept : Kept s r
    pub holds : Holds r x

  pub fold_holds : (es : List Ending) (s : Captures N) (x : Found) → Holds s x
      → Searched s (foldl note_of s es) (foldl (note_in N) x (map (move_to s.from) es))
  fold_holds [] s x h = record { kept = kept_refl s; holds = h }
  fold_holds (e ∷ es) s x h =
      let k = record_kept s e.to e.taken in
      let y = note_in N x (move_to s.from e) in
      let r = fold_holds es (note_of s e) y (record_holds s x e.to e.taken h) in
      record {
        kept = kept_trans k r.kept;
        holds = subst (λ (f : ℕ). Holds (foldl note_of (note_of s e) es) (foldl (note_in N) y (map (move_to f) es))) k.from r.holds;
      }

-- as a list of 256 entries
pub holds_list : {N : ℕ} (s : Captures N) (x : Found) → N ≤ 256 → Holds s x → whole_in s ≡ cond x.overflow None (Some (list_of x.moves))
unfolding whole_in list_of
holds_list {N} s x w h = ap (option_map (entered s.moves)) h.len ∙ go x.overflow
  where
    go : (o : Bool) → option_map (entered s.moves) (cond o None (Some (length x.moves))) ≡ cond o None (Some (list_of x.moves))
    go true = refl
    go false =
        ap₂ (λ (ms : List Move) (n : ℕ). Some (record { moves = ms; len = n }))
        (ap (λ (ms : List Move). take 256 (ms ++ replicate 256 blank)) h.list ∙ refilled blank N 256 x.moves h.few) (omega (arith, h.few))

-- the list of a search, where it had room for all or not
pub whole_some : {N : ℕ} (s : Captures N) (n : ℕ) (l : MoveList) → s.len ≡ Some n → l ≡ list_in s → Some l ≡ whole_in s
unfolding list_in whole_in
whole_some {N} s n l e q =
    ap Some (q ∙ ap (λ (o : Option ℕ). entered s.moves (unwrap_or o N)) e) ∙ sym (ap (option_map (entered s.moves)) e)

pub whole_none : {N : ℕ} (s : Captures N) → s.len ≡ None → None ≡ whole_in s
unfolding whole_in
whole_none s e = sym (ap (option_map (entered s.moves)) e)
