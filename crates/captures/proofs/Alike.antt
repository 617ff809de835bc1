-- A list of all captures that has room for them holds what a longer list holds.
use Rattle.std.specs.Prelude.{Some, None, option_map}
use mathlib.Core.Path.{◌≡◌, refl, sym, ap, ◌∙◌, subst}
use mathlib.Core.Bool.{Bool, true, false, cond, ◌||◌, false≢true}
use mathlib.Core.List.{List, [], ◌∷◌, ◌++◌, map, foldl}
use Prim.Native.Nat.{ℕ, ◌^◌, ◌≤◌}
use native.Mathlib.Omega.{arith}
use lib.Bits.{bit_or}
use lib.ListN.{length}
use lib.Dec.{eqb, ltb, leb}
use borrow.Author.Tests.{lt-ltb, lt-leb, leb-false}
use Rattle.squares.specs.Sets.{members}
use Rattle.positions.specs.declared.moves.Move.{Move}
use Rattle.captures.specs.declared.movegen.Came.TheVariants.{Nowhere}
use Rattle.captures.specs.declared.movegen.Captures.{Captures}
use Rattle.captures.specs.Lists.{listed, list_of}
use Rattle.captures.specs.Record.{Ending, whole_in, moves_in, start_of, note_of}
use Rattle.captures.specs.All.{all_captures_of}
use Rattle.captures.specs.Men.{onto, man_endings, man_captures, men_captures_of}
use Rattle.captures.specs.Kings.{skip_of, king_endings, king_captures, kings_captures_of}
use Rattle.captures.proofs.Limit.{Found, found, takes, add_in, note_in}
use Rattle.captures.proofs.Held.{move_to, number_in, Holds, moves_are, holds_list, none_holds, fold_holds}

-- what is found, where the shorter list t has room
pub record Same {N M : ℕ} (A : Captures M) (t : Captures N) : Type 0 where
  pub moves : moves_in A ≡ moves_in t
  pub len : A.len ≡ t.len

pub record Alike {N M : ℕ} (A : Captures M) (t : Captures N) : Type 0 where
  pub best : A.best ≡ t.best
  pub room : length t.moves ≡ N
  pub full : length A.moves ≡ M
  pub fits : (n : ℕ) → t.len ≡ Some n → n ≤ N
  pub same : (n : ℕ) → t.len ≡ Some n → Same A t

-- ---- on the moves alone
-- where the shorter list has room, the longer one has the same moves, and room too
record Close (x y : Found) : Type 0 where
  most : x.most ≡ y.most
  same : x.overflow ≡ false → (y.moves ≡ x.moves) × (y.overflow ≡ false)

module _ (n m : ℕ) (h : n ≤ m) (e : Move) where
  -- one more move
  add_close : (x y : Found) → Close x y → Close (add_in n x e) (add_in m y e)
  add_close x y w = record { most = w.most; same = go x.overflow (leb n (length x.moves)) refl refl }
    where
      fits : x.overflow ≡ false → leb n (length x.moves) ≡ false → ((add_in m y e).moves ≡ (add_in n x e).moves) × ((add_in m y e).overflow ≡ false)
      fits o q =
          let s = w.same o in
          let lt = leb-false n (length x.moves) q in
          let k : length y.moves ≡ length x.moves = ap length s.0 in (
            rw (lt-ltb (length x.moves) n lt, lt-ltb (length y.moves) m (omega (arith, k))) (ap (λ (l : List Move). l ++ (e ∷ [])) s.0),
            rw (s.1, lt-leb m (length y.moves) (omega (arith, k))) refl,
          )

      go : (a b : Bool) → x.overflow ≡ a → leb n (length x.moves) ≡ b → (a || b) ≡ false
          → ((add_in m y e).moves ≡ (add_in n x e).moves) × ((add_in m y e).overflow ≡ false)
      go true b p q t = absurd (false≢true (sym t))
      go false true p q t = absurd (false≢true (sym t))
      go false false p q t = fits p q

  -- one more, each once
  more_close : (x y : Found) → Close x y → Close (cond (listed x.moves e) x (add_in n x e)) (cond (listed y.moves e) y (add_in m y e))
  more_close x y w = record { most = top (listed x.moves e) (listed y.moves e); same = at x.overflow refl }
    where
      top : (a b : Bool) → (cond a x (add_in n x e)).most ≡ (cond b y (add_in m y e)).most
      top true true = w.most
      top true false = w.most
      top false true = w.most
      top false false = w.most

      dropped : (c : Bool) → Close (cond c x (add_in n x e)) (cond c y (add_in m y e))
      dropped true = w
      dropped false = add_close x y w

      stays : (a : Bool) → x.overflow ≡ true → (cond a x (add_in n x e)).overflow ≡ true
      stays true o = o
      stays false o = rw o refl

      at : (o : Bool) → x.overflow ≡ o → (cond (listed x.moves e) x (add_in n x e)).overflow ≡ false
          → ((cond (listed y.moves e) y (add_in m y e)).moves ≡ (cond (listed x.moves e) x (add_in n x e)).moves) × ((cond (listed y.moves e) y (add_in m y e)).overflow ≡ false)
      at true o t = absurd (false≢true (sym t ∙ stays (listed x.moves e) o))
      at false o t =
          subst (λ (c : Bool). (cond (listed x.moves e) x (add_in n x e)).overflow ≡ false → ((cond c y (add_in m y e)).moves ≡ (cond (listed x.moves e) x (add_in n x e)).moves) × ((cond c y (add_in m y e)).overflow ≡ false))
          (ap (λ (l : List Move). listed l e) (sym (w.same o).0)) (dropped (listed x.moves e)).same t

  note_close : (x y : Found) → Close x y → Close (note_in n x e) (note_in m y e)
  unfolding note_in
  note_close x y w =
      subst (λ (b : ℕ). Close (note_in n x e) (cond (eqb k 0 || ltb k b) y (cond (ltb b k) (add_in m none e) (cond (listed y.moves e) y (add_in m y e)))))
      w.most (go (eqb k 0 || ltb k x.most) (ltb x.most k))
    where
      k : ℕ
      k = takes e

      none : Found
      none = found k [] false

      go : (p q : Bool)
          → Close (cond p x (cond q (add_in n none e) (cond (listed x.moves e) x (add_in n x e))))
          (cond p y (cond q (add_in m none e) (cond (listed y.moves e) y (add_in m y e))))
      go true q = w
      go false true = add_close none none (record { most = refl; same = λ t. (refl, refl) })
      go false false = more_close x y w

fold_close : (n m : ℕ) → n ≤ m → (es : List Move) (x y : Found) → Close x y → Close (foldl (note_in n) x es) (foldl (note_in m) y es)
fold_close n m l [] x y w = w
fold_close n m l (e ∷ es) x y w = fold_close n m l es (note_in n x e) (note_in m y e) (note_close n m l e x y w)

-- ---- the two searches
module _ {N M : ℕ} (l : N ≤ M) (them empty : ℕ) where
  record On (A : Captures M) (t : Captures N) : Type 0 where
    short : Found
    long : Found
    close : Close short long
    short_holds : Holds t short
    long_holds : Holds A long
    short_them : t.them ≡ them
    long_them : A.them ≡ them

  -- one piece
  piece : (A : Captures M) (t : Captures N) (i : ℕ) (es : List Ending) → On A t → On (foldl note_of (onto empty A i) es) (foldl note_of (onto empty t i) es)
  piece A t i es w =
      let a = w.long_holds in
      let b = w.short_holds in
      let p = fold_holds es (onto empty A i) w.long (record { room = a.room; list = a.list; len = a.len; few = a.few; full = a.full; best = a.best }) in
      let q = fold_holds es (onto empty t i) w.short (record { room = b.room; list = b.list; len = b.len; few = b.few; full = b.full; best = b.best }) in
      record {
        short = foldl (note_in N) w.short (map (move_to (2 ^ i)) es);
        long = foldl (note_in M) w.long (map (move_to (2 ^ i)) es);
        close = fold_close N M l (map (move_to (2 ^ i)) es) w.short w.long w.close;
        short_holds = q.holds;
        long_holds = p.holds;
        short_them = q.kept.them ∙ w.short_them;
        long_them = p.kept.them ∙ w.long_them;
      }

  man : (A : Captures M) (t : Captures N) (i : ℕ) → On A t → On (man_captures empty A i) (man_captures empty t i)
  unfolding man_captures
  man A t i w =
      let es = man_endings A.them (bit_or empty (2 ^ i)) 65 (2 ^ i) 0 in
      subst (λ (x : ℕ). On (foldl note_of (onto empty A i) es) (foldl note_of (onto empty t i) (man_endings x (bit_or empty (2 ^ i)) 65 (2 ^ i) 0)))
      (w.long_them ∙ sym w.short_them) (piece A t i es w)

  king : (A : Captures M) (t : Captures N) (i : ℕ) → On A t → On (king_captures empty A i) (king_captures empty t i)
  unfolding king_captures
  king A t i w =
      let es = king_endings A.them (bit_or empty (2 ^ i)) 65 (2 ^ i) 0 (skip_of Nowhere) in
      subst (λ (x : ℕ). On (foldl note_of (onto empty A i) es) (foldl note_of (onto empty t i) (king_endings x (bit_or empty (2 ^ i)) 65 (2 ^ i) 0 (skip_of Nowhere))))
      (w.long_them ∙ sym w.short_them) (piece A t i es w)

  each : (f : Captures M → ℕ → Captures M) (g : Captures N → ℕ → Captures N) → ((A : Captures M) (t : Captures N) (i : ℕ) → On A t → On (f A i) (g t i))
      → (is : List ℕ) (A : Captures M) (t : Captures N) → On A t → On (foldl f A is) (foldl g t is)
  each f g one [] A t w = w
  each f g one (i ∷ is) A t w = each f g one is (f A i) (g t i) (one A t i w)

  begun : On (start_of M them empty) (start_of N them empty)
  begun = record {
    short = found 0 [] false;
    long = found 0 [] false;
    close = record { most = refl; same = λ t. (refl, refl) };
    short_holds = none_holds them empty;
    long_holds = none_holds them empty;
    short_them = refl;
    long_them = refl;
  }

  all : (men kings : ℕ) → On (all_captures_of M men kings them empty) (all_captures_of N men kings them empty)
  unfolding men_captures_of kings_captures_of
  all men kings =
      each (king_captures empty) (king_captures empty) king (members kings) _ _ (each (man_captures empty) (man_captures empty) man (members men) _ _ begun)

  -- where the shorter list has a number of moves
  numbered : (A : Captures M) (t : Captures N) (x y : Found) → Close x y → Holds t x → Holds A y → (n : ℕ) → t.len ≡ Some n → (n ≤ N) × Same A t
  numbered A t x y w p q n e = go x.overflow refl
    where
      go : (o : Bool) → x.overflow ≡ o → (n ≤ N) × Same A t
      go true o = absurd (let z : number_in x ≡ None = rw o refl in let y : ◌≡◌ {A = ℕ} 0 1 = cc in omega arith)
      go false o =
          let z = w.same o in
          let a : number_in x ≡ Some (length x.moves) = rw o refl in
          let b : number_in y ≡ Some (length y.moves) = rw z.1 refl in
          let k : n ≡ length x.moves = cc in (
            omega (arith, p.few),
            record {
              moves = moves_are A y.most y.moves (subst (λ (c : Bool). Holds A (found y.most y.moves c)) z.1 q) ∙ z.0 ∙ sym (moves_are t x.most x.moves (subst (λ (c : Bool). Holds t (found x.most x.moves c)) o p));
              len = q.len ∙ b ∙ ap (λ (l : List Move). Some (length l)) z.0 ∙ sym (p.len ∙ a);
            },
          )

  alike : (A : Captures M) (t : Captures N) → On A t → Alike A t
  alike A t w =
      let a = w.long_holds in
      let b = w.short_holds in
      record {
        best = a.best ∙ sym w.close.most ∙ sym b.best;
        room = b.room;
        full = a.room;
        fits = λ n e. (numbered A t w.short w.long w.close b a n e).0;
        same = λ n e. (numbered A t w.short w.long w.close b a n e).1;
      }

pub few_alike : (N M : ℕ) → N ≤ M → (men kings them empty : ℕ) → Alike (all_captures_of M men kings them empty) (all_captures_of N men kings them empty)
few_alike N M l men kings them empty = alike l them empty _ _ (all l them empty men kings)

-- the list of a search is its moves and then blanks, where it had room for them
pub listed_all : (N : ℕ) → N ≤ 256 → (men kings them empty : ℕ)
    → let s = all_captures_of N men kings them empty in whole_in s ≡ option_map (λ n. list_of (moves_in s)) s.len
listed_all N l men kings them empty = holds_list s w.short l w.short_holds ∙ sym (go w.short.overflow refl)
  where
    s : Captures N
    s = all_captures_of N men kings them empty

    w : On {N = N} {M = N} (omega arith) them empty s s
    w = all {N = N} {M = N} (omega arith) them empty men kings

    go : (o : Bool) → w.short.overflow ≡ o → option_map (λ n. list_of (moves_in s)) s.len ≡ cond w.short.overflow None (Some (list_of w.short.moves))
    go true o = ap (option_map (λ n. list_of (moves_in s))) (w.short_holds.len ∙ ap (λ (t : Bool). cond t None (Some (length w.short.moves))) o) ∙ sym (ap (λ (t : Bool). cond t None (Some (list_of w.short.moves))) o)
    go false o =
        ap (option_map (λ n. list_of (moves_in s))) (w.short_holds.len ∙ ap (λ (t : Bool). cond t None (Some (length w.short.moves))) o)
        ∙ ap (λ (xs : List Move). Some (list_of xs)) (moves_are s w.short.most w.short.moves (subst (λ (c : Bool). Holds s (found w.short.most w.short.moves c)) o w.short_holds))
        ∙ sym (ap (λ (t : Bool). cond t None (Some (list_of w.short.moves))) o)
