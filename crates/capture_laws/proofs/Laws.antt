-- The laws that crates above cite: on a fair board the search for captures by formula ends with the list of the rules, in its
-- order, and every entry behind the moves is blank.
use Rattle.std.specs.Prelude.{Option, Some, None, option_map, unwrap_or}
use mathlib.Core.Path.{◌≡◌, refl, sym, ap, ap₂, ◌∙◌, subst}
use Prim.Native.Nat.{ℕ, min}
use mathlib.Core.Bool.{Bool, true, false, cond}
use mathlib.Core.List.{List, [], ◌∷◌, ◌++◌, map}
use lib.ListN.{length, take, replicate, length-map, length-take}
use lib.Dec.{leb, ltb}
use borrow.Author.Tests.{ltb-true, ltb-false, lt-leb, le-leb}
use Rattle.squares.specs.declared.piece.PieceKind.TheVariants.{Man, King}
use Rattle.positions.specs.Boards.{Board, enemy, empty, pieces}
use Rattle.positions.specs.declared.moves.Move.{Move}
use Rattle.captures.specs.declared.movegen.Captures.{Captures}
use Rattle.captures.specs.declared.moves.MoveList.{MoveList}
use Rattle.captures.specs.Kings.{kings_captures_of}
use Rattle.captures.specs.Lists.{blank, list_of, whole_list}
use Rattle.captures.specs.Men.{men_captures_of}
use Rattle.captures.specs.Record.{entered, list_in, whole_in, start_of}
use native.Mathlib.Omega.{arith}
use Rattle.captures.proofs.Limit.{Found}
use Rattle.rules.specs.Lists.{keep, distinct, best, longest}
use Rattle.rules.specs.Ordered.{count, captures, same_bits, legal}
use Rattle.rules.specs.Rules.{BitMove, numbered, Open, NoJump, Fair}
use Rattle.rules.proofs.Agreement.{bits_some}
use Rattle.rules.proofs.Laws.{no_jump}
use Rattle.captures.proofs.Held.{number_in}
use Rattle.captures.proofs.Stored.{filled, refilled}
use Rattle.capture_laws.proofs.Search.{search_of, search_holds, found_law}
use Rattle.capture_laws.proofs.Stored.{cut_entries}

-- the list of a search is these moves, the first 256 of them, then blanks; it has their number where there are no more
abbrev pub Filled : Captures 256 → List Move → Type 0
Filled s ms = (list_in s ≡ list_of ms) × (s.len ≡ cond (ltb 256 (length ms)) None (Some (length ms)))

-- so where there are at most 256
pub filled_whole : (s : Captures 256) (ms : List Move) → Filled s ms → whole_in s ≡ whole_list ms
unfolding list_in whole_in list_of whole_list
filled_whole s ms f = ap (option_map (entered s.moves)) f.1 ∙ go (ltb 256 (length ms)) refl
  where
    go : (t : Bool) → ltb 256 (length ms) ≡ t
        → option_map (entered s.moves) (cond t None (Some (length ms))) ≡ cond (leb (length ms) 256) (Some (list_of ms)) None
    go true e = sym (ap (λ (c : Bool). cond c (Some (list_of ms)) None) (lt-leb (length ms) 256 (ltb-true 256 (length ms) e)))
    go false e =
        let h = ltb-false 256 (length ms) e in
        ap₂ (λ (l : List Move) (n : ℕ). Some (record { moves = l; len = n })) (ap (λ (l : MoveList). l.moves) f.0) (omega (arith, h))
        ∙ sym (ap (λ (c : Bool). cond c (Some (list_of ms)) None) (le-leb (length ms) 256 h))

module _ (b : Board) (fair : Fair b) where
  -- the longest captures, each once, in the order of the rules
  pub captures_filled : let s = kings_captures_of (men_captures_of (start_of 256 (enemy b) (empty b)) (pieces b Man) (empty b)) (pieces b King) (empty b) in
      Filled s (map numbered (longest same_bits count (captures b)))
  unfolding list_in list_of
  captures_filled = (
    ap₂ (λ (l : List Move) (n : ℕ). record { moves = l; len = n })
        (ap (λ (l : List Move). take 256 (l ++ replicate 256 blank)) entries ∙ refilled blank 256 256 (take 256 (map numbered l)) (omega (arith, length-take 256 (map numbered l))) ∙ cut_entries (map numbered l))
        (ap (λ (o : Option ℕ). unwrap_or o 256) number ∙ at_most (ltb 256 (length (map numbered l))) refl),
    number,
  )
    where
      l : List BitMove
      l = longest same_bits count (captures b)

      entries : (search_of b).moves ≡ filled blank 256 (take 256 (map numbered l))
      entries = (search_holds b fair).list ∙ ap (λ (x : Found). filled blank 256 x.moves) (found_law b fair 256)

      go : (t : Bool) → ltb 256 (length l) ≡ t → cond t None (Some (length (take 256 (map numbered l)))) ≡ cond t None (Some (length l))
      go true e = refl
      go false e = ap Some (omega (arith, ltb-false 256 (length l) e, length-take 256 (map numbered l), length-map l numbered))

      number : (search_of b).len ≡ cond (ltb 256 (length (map numbered l))) None (Some (length (map numbered l)))
      number =
          (search_holds b fair).len ∙ ap number_in (found_law b fair 256) ∙ go (ltb 256 (length l)) refl
          ∙ ap (λ (n : ℕ). cond (ltb 256 n) None (Some n)) (sym (length-map l numbered))

      at_most : (t : Bool) → ltb 256 (length (map numbered l)) ≡ t → unwrap_or (cond t None (Some (length (map numbered l)))) 256 ≡ min 256 (length (map numbered l))
      at_most true e = let lt = ltb-true 256 (length (map numbered l)) e in omega arith
      at_most false e = let ge = ltb-false 256 (length (map numbered l)) e in omega arith

  longest_legal : (c : BitMove) (cs : List BitMove) → captures b ≡ c ∷ cs → map numbered (longest same_bits count (captures b)) ≡ legal b
  unfolding legal
  longest_legal c cs e = ap (map numbered) (sym (bits_some b c cs e))

  -- where there is a capture they are the legal moves
  pub captures_legal : (captures b ≡ [] → ⊥) → Filled (search_of b) (legal b)
  captures_legal some = go (captures b) refl
    where
      go : (l : List BitMove) → captures b ≡ l → Filled (search_of b) (legal b)
      go [] e = absurd (some e)
      go (c ∷ cs) e = subst (Filled (search_of b)) (longest_legal c cs e) captures_filled

  pub captures_open : Open b → Filled (search_of b) (legal b)
  captures_open o = captures_legal (λ e. (no_jump b fair).0 e o)

  -- where no jump is open nothing is found
  pub captures_shut : NoJump b → Filled (search_of b) []
  unfolding keep distinct best longest
  captures_shut n = subst (λ (l : List BitMove). Filled (search_of b) (map numbered (longest same_bits count l))) ((no_jump b fair).1 n) captures_filled
