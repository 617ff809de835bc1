-- Where a text is answered with a move: the move is listed and legal, it fits, and no other listed move does.
use Rattle.std.specs.Prelude.{Err, Ok, Result}
use mathlib.Core.Path.{◌≡◌, refl, ap, ◌∙◌}
use Prim.Native.Nat.{ℕ, ◌≤◌, ◌<◌}
use native.Mathlib.Omega.{arith}
use mathlib.Core.Bool.{Bool, true, false, cond}
use mathlib.Core.List.Memᴰ.{head}
use mathlib.Core.List.Memᴰ.{not-nil}
use mathlib.Core.List.{List, [], ◌∷◌}
use lib.ListN.{length}
use lib.Dec.{leb, ltb}
use borrow.Author.Tests.{leb-true, le-leb, ltb-true, ltb-false, lt-ltb}
use Rattle.squares.specs.declared.refusal.Refusal.TheVariants.{BadPosition, NoMoveFits, TooManyMoves}
use Rattle.squares.proofs.Bools.{not_so, bool_ext}
use Rattle.positions.specs.Acceptance.{sound}
use Rattle.positions.specs.Boards.{board_of}
use Rattle.positions.specs.Moves.{same}
use Rattle.positions.specs.declared.moves.Move.{Move}
use Rattle.positions.specs.declared.position.Position.{Position}
use Rattle.rules.specs.Lists.{keep, times}
use Rattle.rules.specs.Ordered.{legal, listed}
use Rattle.rules.specs.Rules.{Legal}
use Rattle.rules.proofs.Lists.{in_keep, of_keep, keep_none, keep_ext, in_one}
use Rattle.rules.proofs.Laws.{listed_legal, listed_once}
use Rattle.rules.proofs.Same.{same_refl, same_true, listed_member}
use Rattle.rules.proofs.Times.{is_it, kept_one}
use Rattle.movegen.proofs.Listed.{fair_of}
use Rattle.notation.specs.Choice.{as_hub, by_ends, or_else, fitting, only, fit_of, fit_heard, parse_move_of}
use Rattle.notation.specs.Notation.{read_move_of}
use Rattle.notation.specs.declared.notation.Said.{Said}
use Rattle.squares.specs.declared.refusal.Refusal.{Refusal}

-- m is the one move of the list that p takes
pub record Alone (p : Move → Bool) (l : List Move) (m : Move) : Type 0 where
  pub fits : p m ≡ true
  pub only : (n : Move) → listed l n ≡ true → p n ≡ true → n ≡ m

-- what was read means m among the moves of the list
pub data Means (h : Said) (l : List Move) (m : Move) : Type 0 where
  -- three squares or more, read as Hub
  hub : 2 < h.count → Alone (as_hub h) l m → Means h l m
  -- by first and last square; no move fits as Hub
  ends : (2 < h.count → (n : Move) → listed l n ≡ true → as_hub h n ≡ false) → Alone (by_ends h) l m → Means h l m

pub record Fitted (p : Position) (h : Said) (m : Move) : Type 0 where
  pub accepted : sound p ≡ true
  pub few : length (legal (board_of p)) ≤ 256
  pub in_list : listed (legal (board_of p)) m ≡ true
  pub is_legal : Legal (board_of p) m
  pub means : Means h (legal (board_of p)) m

-- ---- lists
of_one : (l : List Move) (m : Move) → only l ≡ Ok m → l ≡ m ∷ []
unfolding only
of_one [] m e = absurd (let z : ◌≡◌ {A = ℕ} 0 1 = cc in omega arith)
of_one (x ∷ []) m e = ap (λ (y : Move). y ∷ []) (let z : x ≡ m = cc in z)
of_one (x ∷ (y ∷ l)) m e = absurd (let z : ◌≡◌ {A = ℕ} 0 1 = cc in omega arith)

alone : (p : Move → Bool) (l : List Move) (m : Move) → keep p l ≡ m ∷ [] → Alone p l m
alone p l m e =
    record {
      fits = (of_keep p l {x = m} (rw e (head refl))).1;
      only = λ n k q. in_one (rw e at (in_keep p ((listed_member l n).0 k) q));
    }

alone_listed : (p : Move → Bool) (l : List Move) (m : Move) → keep p l ≡ m ∷ [] → listed l m ≡ true
alone_listed p l m e = (listed_member l m).1 (of_keep p l {x = m} (rw e (head refl))).0

none_kept : (p : Move → Bool) (l : List Move) → keep p l ≡ [] → (n : Move) → listed l n ≡ true → p n ≡ false
none_kept p l e n k = not_so (p n) (λ q. not-nil (rw e at (in_keep p ((listed_member l n).0 k) q)))

module _ (h : Said) (l : List Move) (m : Move) where
  pub fitting_means : fitting h l ≡ m ∷ [] → Means h l m × (listed l m ≡ true)
  unfolding fitting or_else
  fitting_means e = go (ltb 2 h.count) refl e
    where
      hubs : (k : List Move) → keep (as_hub h) l ≡ k → 2 < h.count → or_else k (keep (by_ends h) l) ≡ m ∷ [] → Means h l m × (listed l m ≡ true)
      hubs [] q c e = (ends (λ c n k. none_kept (as_hub h) l q n k) (alone (by_ends h) l m e), alone_listed (by_ends h) l m e)
      hubs (x ∷ k) q c e = (hub c (alone (as_hub h) l m (q ∙ e)), alone_listed (as_hub h) l m (q ∙ e))

      go : (t : Bool) → ltb 2 h.count ≡ t → cond t (or_else (keep (as_hub h) l) (keep (by_ends h) l)) (keep (by_ends h) l) ≡ m ∷ [] → Means h l m × (listed l m ≡ true)
      go true c e = hubs (keep (as_hub h) l) refl (ltb-true 2 h.count c) e
      go false c e = (ends (λ d. absurd (omega (arith, d, ltb-false 2 h.count c))) (alone (by_ends h) l m e), alone_listed (by_ends h) l m e)

-- ---- and back: where that is so of a list without doubles, it is answered
kept_alone : (p : Move → Bool) (l : List Move) (m : Move) → Alone p l m → times same l m ≡ 1 → keep p l ≡ m ∷ []
unfolding is_it
kept_alone p l m a e =
    keep_ext p (is_it same m) l
    (λ x k. bool_ext (p x) (same x m) (λ t. ap (λ (n : Move). same n m) (a.only x ((listed_member l x).1 k) t) ∙ same_refl m) (λ t. ap p (same_true x m t) ∙ a.fits))
    ∙ kept_one same m (λ y. same_true y m) l e

-- no move of the list fits as Hub
hubless : Said → List Move → Type 0
hubless h l = 2 < h.count → (n : Move) → listed l n ≡ true → as_hub h n ≡ false

-- then first and last square decide
by_ends_lem : (h : Said) (l : List Move) → hubless h l → fitting h l ≡ keep (by_ends h) l
unfolding fitting or_else hubless
by_ends_lem h l none = go (ltb 2 h.count) refl
  where
    go : (t : Bool) → ltb 2 h.count ≡ t → cond t (or_else (keep (as_hub h) l) (keep (by_ends h) l)) (keep (by_ends h) l) ≡ keep (by_ends h) l
    go true c =
        ap (λ (k : List Move). or_else k (keep (by_ends h) l))
        (keep_none (as_hub h) l (λ n k. none (ltb-true 2 h.count c) n ((listed_member l n).1 k)))
    go false c = refl

pub means_fitting : (h : Said) (l : List Move) (m : Move) → Means h l m → times same l m ≡ 1 → fitting h l ≡ m ∷ []
unfolding fitting or_else hubless
means_fitting h l m (hub c a) e =
    ap (λ (t : Bool). cond t (or_else (keep (as_hub h) l) (keep (by_ends h) l)) (keep (by_ends h) l)) (lt-ltb 2 h.count c)
    ∙ ap (λ (k : List Move). or_else k (keep (by_ends h) l)) (kept_alone (as_hub h) l m a e)
means_fitting h l m (ends none a) e = by_ends_lem h l none ∙ kept_alone (by_ends h) l m a e

-- ---- what an answer says
pub fit_says : (p : Position) (h : Said) (m : Move) → fit_of p h ≡ Ok m → Fitted p h m
unfolding fit_of
fit_says p h m e = go (sound p) refl (leb (length (legal (board_of p))) 256) refl e
  where
    go : (s : Bool) → sound p ≡ s → (t : Bool) → leb (length (legal (board_of p))) 256 ≡ t
        → cond s (cond t (only (fitting h (legal (board_of p)))) (Err TooManyMoves)) (Err BadPosition) ≡ Ok m → Fitted p h m
    go true s true t e =
        let q = fitting_means h (legal (board_of p)) m (of_one (fitting h (legal (board_of p))) m e) in
        record {
          accepted = s;
          few = leb-true _ 256 t;
          in_list = q.1;
          is_legal = (listed_legal (board_of p) (fair_of p s) m).0 q.1;
          means = q.0;
        }
    go true s false t e = absurd (let z : ◌≡◌ {A = ℕ} 0 1 = cc in omega arith)
    go false s t u e = absurd (let z : ◌≡◌ {A = ℕ} 0 1 = cc in omega arith)

pub fitted_answer : (p : Position) (h : Said) (m : Move) → Fitted p h m → fit_of p h ≡ Ok m
unfolding fit_of only
fitted_answer p h m f =
    rw (f.accepted, le-leb _ 256 f.few)
    (ap only (means_fitting h (legal (board_of p)) m f.means (listed_once (board_of p) (fair_of p f.accepted) m f.in_list)))

-- 15 is told exactly where no listed move fits, as Hub or by first and last square
pub record Unfit (p : Position) (h : Said) : Type 0 where
  pub accepted : sound p ≡ true
  pub few : length (legal (board_of p)) ≤ 256
  pub not_hub : 2 < h.count → (n : Move) → listed (legal (board_of p)) n ≡ true → as_hub h n ≡ false
  pub not_ends : (n : Move) → listed (legal (board_of p)) n ≡ true → by_ends h n ≡ false

of_none : (l : List Move) → only l ≡ Err NoMoveFits → l ≡ []
unfolding only
of_none [] e = refl
of_none (x ∷ []) e = absurd (let z : ◌≡◌ {A = ℕ} 0 1 = cc in omega arith)
of_none (x ∷ (y ∷ l)) e = absurd (let z : ◌≡◌ {A = ℕ} 0 1 = cc in omega arith)

none_fitting : (h : Said) (l : List Move) → fitting h l ≡ [] → hubless h l × ((n : Move) → listed l n ≡ true → by_ends h n ≡ false)
unfolding fitting or_else hubless
none_fitting h l e = go (ltb 2 h.count) refl e
  where
    hubs : (k : List Move) → keep (as_hub h) l ≡ k → or_else k (keep (by_ends h) l) ≡ [] → hubless h l × ((n : Move) → listed l n ≡ true → by_ends h n ≡ false)
    hubs [] q e = ((λ c. none_kept (as_hub h) l q), none_kept (by_ends h) l e)
    hubs (x ∷ k) q e = absurd (not-nil (rw e at (head {x = x} {xs = k} refl)))

    go : (t : Bool) → ltb 2 h.count ≡ t → cond t (or_else (keep (as_hub h) l) (keep (by_ends h) l)) (keep (by_ends h) l) ≡ []
        → hubless h l × ((n : Move) → listed l n ≡ true → by_ends h n ≡ false)
    go true c e = hubs (keep (as_hub h) l) refl e
    go false c e = ((λ d. absurd (omega (arith, d, ltb-false 2 h.count c))), none_kept (by_ends h) l e)

pub none_says : (p : Position) (h : Said) → fit_of p h ≡ Err NoMoveFits → Unfit p h
unfolding fit_of hubless
none_says p h e = go (sound p) refl (leb (length (legal (board_of p))) 256) refl e
  where
    go : (s : Bool) → sound p ≡ s → (t : Bool) → leb (length (legal (board_of p))) 256 ≡ t
        → cond s (cond t (only (fitting h (legal (board_of p)))) (Err TooManyMoves)) (Err BadPosition) ≡ Err NoMoveFits → Unfit p h
    go true s true t e =
        let q = none_fitting h (legal (board_of p)) (of_none (fitting h (legal (board_of p))) e) in
        record { accepted = s; few = leb-true _ 256 t; not_hub = q.0; not_ends = q.1 }
    go true s false t e = absurd (let z : ◌≡◌ {A = ℕ} 0 1 = cc in omega arith)
    go false s t u e = absurd (let z : ◌≡◌ {A = ℕ} 0 1 = cc in omega arith)

pub unfit_answer : (p : Position) (h : Said) → Unfit p h → fit_of p h ≡ Err NoMoveFits
unfolding fit_of only hubless
unfit_answer p h f =
    rw (f.accepted, le-leb _ 256 f.few)
    (ap only (by_ends_lem h (legal (board_of p)) f.not_hub ∙ keep_none (by_ends h) (legal (board_of p)) (λ n k. f.not_ends n ((listed_member (legal (board_of p)) n).1 k))))

-- a text that is answered with a move says something, and that means the move
pub parse_says : (p : Position) (text : List ℕ) (m : Move) → parse_move_of p text ≡ Ok m → (h : Said) × (read_move_of text ≡ Ok h) × Fitted p h m
unfolding parse_move_of
parse_says p text m e = go (sound p) (read_move_of text) refl e
  where
    go : (s : Bool) (a : Result Said Refusal) → read_move_of text ≡ a → cond s (fit_heard p a) (Err BadPosition) ≡ Ok m
        → (h : Said) × (read_move_of text ≡ Ok h) × Fitted p h m
    go true (Ok h) r e = (h, r, fit_says p h m e)
    go true (Err x) r e = absurd (let z : ◌≡◌ {A = ℕ} 0 1 = cc in omega arith)
    go false a r e = absurd (let z : ◌≡◌ {A = ℕ} 0 1 = cc in omega arith)
