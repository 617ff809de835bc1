-- The search for the moves that fit, and what it answers on a position.
use Rattle.std.specs.Prelude.{Err, Ok, Result, None, Some, Option}
use Rattle.std.specs.List.{filter}
use Rattle.std.specs.Option.{unwrap_or, option_or}
use Rattle.std.specs.Iterator.{AlwaysYields}
use mathlib.Core.Path.{◌≡◌, refl, ap, ◌∙◌}
use native.Mathlib.Omega.{arith}
use Prim.Native.Nat.{ℕ}
use mathlib.Core.Bool.{Bool, true, false, cond, ◌&&◌}
use mathlib.Core.List.{List, [], ◌∷◌}
use lib.ListN.{length}
use lib.Dec.{leb, ltb}
use borrow.Author.Tests.{leb-true}
use Rattle.squares.specs.declared.refusal.Refusal.{Refusal}
use Rattle.squares.specs.declared.refusal.Refusal.TheVariants.{BadPosition, TooManyMoves, SeveralFit, NoMoveFits}
use Rattle.positions.specs.Acceptance.{sound}
use Rattle.positions.specs.Boards.{board_of}
use Rattle.positions.specs.declared.moves.Move.{Move}
use Rattle.positions.specs.declared.position.Position.{Position}
use Rattle.captures.specs.Lists.{entries, list_of}
use Rattle.rules.specs.Lists.{keep}
use Rattle.rules.specs.Ordered.{legal}
use Rattle.capture_laws.proofs.Stored.{few_entries}
use Rattle.captures.specs.declared.moves.MoveList.{MoveList}
use Rattle.movegen.specs.Lists.{listed_of, legal_moves_of}
use Rattle.notation.specs.Choice.{as_hub, by_ends, or_else, fitting, only, only_of, fit_of}
use Rattle.notation.specs.declared.notation.Said.{Said}

-- ---- what an iterator over moves gives, where it gives all that are kept
pub filter_keep : (p : Move → Bool) (l : List Move) → filter p l ≡ keep p l
unfolding keep
filter_keep p [] = refl
filter_keep p (m ∷ l) = go (p m) (filter_keep p l)
  where
    go : (t : Bool) → filter p l ≡ keep p l → cond t (m ∷ filter p l) (filter p l) ≡ elim t [ true ↦ m ∷ keep p l | false ↦ keep p l ]
    go true e = ap (λ (k : List Move). m ∷ k) e
    go false e = e

module _ {S A : Type 0} (steps : S → Option A → S → Type 0) (v : A → Move) where
  pub one_came : (l : List Move) (s t u : S) (a : A) → AlwaysYields steps v s l → steps s (Some a) t → steps t None u → Some (Ok (v a)) ≡ only_of l
  unfolding only
  one_came [] s t u a y e f = absurd (y a t e)
  one_came (m ∷ []) s t u a y e f = ap (λ (x : Move). Some (Ok x)) (y.1 a t e).0
  one_came (m ∷ (n ∷ l)) s t u a y e f = absurd ((y.1 a t e).1.0 u f)

  pub more_came : (l : List Move) (s t u : S) (a b : A) → AlwaysYields steps v s l → steps s (Some a) t → steps t (Some b) u → Some (Err SeveralFit) ≡ only_of l
  unfolding only
  more_came [] s t u a b y e f = absurd (y a t e)
  more_came (m ∷ []) s t u a b y e f = absurd ((y.1 a t e).1 b u f)
  more_came (m ∷ (n ∷ l)) s t u a b y e f = refl

-- ---- Hub first
module _ (h : Said) (l : List Move) where
  -- the first of two answers, by the moves of two lists
  first : (j k : List Move) → unwrap_or (option_or (only_of j) (only_of k)) (Err NoMoveFits) ≡ only (or_else j k)
  unfolding only or_else
  first [] [] = refl
  first [] (m ∷ k) = refl
  first (m ∷ j) k = refl

  none_kept : (k : List Move) → filter (λ (m : Move). false) k ≡ []
  none_kept [] = refl
  none_kept (m ∷ k) = none_kept k

  -- the moves that fit as Hub, where the text has three squares or more
  abbrev pub hub_fits : Move → Bool
  hub_fits m = ltb 2 h.count && as_hub h m

  pub chosen : unwrap_or (option_or (only_of (filter hub_fits l)) (only_of (filter (by_ends h) l))) (Err NoMoveFits) ≡ only (fitting h l)
  unfolding fitting keep or_else
  chosen = go (ltb 2 h.count)
    where
      answer : List Move → Result Move Refusal
      answer j = unwrap_or (option_or (only_of j) (only_of (filter (by_ends h) l))) (Err NoMoveFits)

      ends : (j : List Move) → answer j ≡ only (or_else j (keep (by_ends h) l))
      ends j = first j (filter (by_ends h) l) ∙ ap (λ (k : List Move). only (or_else j k)) (filter_keep (by_ends h) l)

      go : (t : Bool) → answer (filter (λ (m : Move). t && as_hub h m) l) ≡ only (cond t (or_else (keep (as_hub h) l) (keep (by_ends h) l)) (keep (by_ends h) l))
      go true = ap answer (filter_keep (as_hub h) l) ∙ ends (keep (as_hub h) l)
      go false = ap answer (none_kept l) ∙ first [] (filter (by_ends h) l) ∙ ap (λ (k : List Move). only (or_else [] k)) (filter_keep (by_ends h) l)

-- ---- on a position
module _ (p : Position) (h : Said) where
  abbrev told : Bool → Bool → Result MoveList Refusal
  told s t = cond s (cond t (Ok (list_of (legal (board_of p)))) (Err TooManyMoves)) (Err BadPosition)

  abbrev said : Bool → Bool → Result Move Refusal
  said s t = cond s (cond t (only (fitting h (legal (board_of p)))) (Err TooManyMoves)) (Err BadPosition)

  told_is : legal_moves_of p 256 ≡ told (sound p) (leb (length (legal (board_of p))) 256)
  unfolding legal_moves_of listed_of
  told_is = refl

  said_is : said (sound p) (leb (length (legal (board_of p))) 256) ≡ fit_of p h
  unfolding fit_of
  said_is = refl

  pub fit_done : (l : MoveList) → Ok l ≡ legal_moves_of p 256 → only (fitting h (entries l)) ≡ fit_of p h
  fit_done l e = go (sound p) (leb (length (legal (board_of p))) 256) refl (e ∙ told_is) ∙ said_is
    where
      go : (s t : Bool) → leb (length (legal (board_of p))) 256 ≡ t → Ok l ≡ told s t → only (fitting h (entries l)) ≡ said s t
      go true true e d =
          let q : l ≡ list_of (legal (board_of p)) = cc in
          ap (λ (x : MoveList). only (fitting h (entries x))) q
          ∙ ap (λ (xs : List Move). only (fitting h xs)) (few_entries (legal (board_of p)) (leb-true _ _ e))
      go true false e d = absurd (let z : ◌≡◌ {A = ℕ} 0 1 = cc in omega arith)
      go false t e d = absurd (let z : ◌≡◌ {A = ℕ} 0 1 = cc in omega arith)

  pub fit_refused : (x : Refusal) → Err x ≡ legal_moves_of p 256 → Err x ≡ fit_of p h
  fit_refused x e = go (sound p) (leb (length (legal (board_of p))) 256) (e ∙ told_is) ∙ said_is
    where
      go : (s t : Bool) → Err x ≡ told s t → Err x ≡ said s t
      go true true d = absurd (let z : ◌≡◌ {A = ℕ} 0 1 = cc in omega arith)
      go true false d = let q : x ≡ TooManyMoves = cc in ap Err q
      go false t d = let q : x ≡ BadPosition = cc in ap Err q
