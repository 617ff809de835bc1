-- A short list that had room for all captures gives the list of the search, and its number.
use Rattle.std.specs.Prelude.{Option, Some, None, MatchOption, is_some, option_map, ok_or}
use Rattle.squares.specs.declared.refusal.Refusal.TheVariants.{TooManyMoves}
use mathlib.Core.List.{List}
use Rattle.positions.specs.declared.moves.Move.{Move}
use mathlib.Core.Path.{◌≡◌, refl, sym, ap₂, ◌∙◌, subst}
use mathlib.Core.Bool.{true, false≢true}
use Prim.Native.Nat.{ℕ, ◌≤◌}
use native.Mathlib.Omega.{arith}
use Rattle.captures.specs.declared.movegen.Captures.{Captures}
use Rattle.captures.specs.All.{all_captures_of}
use Rattle.captures.specs.Lists.{list_of}
use Rattle.captures.specs.Record.{moves_in, entered, whole_in}
use Rattle.captures.proofs.Alike.{Same, Alike, few_alike, listed_all}
use Rattle.movegen.specs.Generate.{long_captures_of, capture_moves_of}
use Rattle.movegen.specs.LastPly.{listed_count}

-- the number of a search's moves is that of its list
pub counted : {N : ℕ} (s : Captures N) → listed_count (whole_in s) ≡ ok_or s.len TooManyMoves
unfolding listed_count whole_in
counted s = go s.len
  where
    go : (o : Option ℕ) → listed_count (option_map (entered s.moves) o) ≡ ok_or o TooManyMoves
    go None = refl
    go (Some n) = refl

module _ (men kings them empty : ℕ) (t : Captures 14) (q : t ≡ all_captures_of 14 men kings them empty) where
  room : (n : ℕ) → t.len ≡ Some n → Same (long_captures_of men kings them empty) t
  room = (subst (λ (x : Captures 14). Alike (long_captures_of men kings them empty) x) (sym q) (few_alike 14 256 (omega arith) men kings them empty)).same

  -- the list of a search of all captures
  listed : (N : ℕ) → N ≤ 256 → (s : Captures N) → s ≡ all_captures_of N men kings them empty → whole_in s ≡ option_map (λ n. list_of (moves_in s)) s.len
  listed N h s e = subst (λ (x : Captures N). whole_in x ≡ option_map (λ n. list_of (moves_in x)) x.len) (sym e) (listed_all N h men kings them empty)

  -- the number of moves in the short list, or in the long one
  pub long_number : {r : Option ℕ} {P : Type 0} → MatchOption t.len P (λ n. r ≡ Some n) → (P → r ≡ (long_captures_of men kings them empty).len)
      → r ≡ (long_captures_of men kings them empty).len
  long_number {r} {P} e f = go t.len refl e
    where
      go : (o : Option ℕ) → t.len ≡ o → MatchOption o P (λ n. r ≡ Some n) → r ≡ (long_captures_of men kings them empty).len
      go None p e = f e
      go (Some n) p e = e ∙ sym p ∙ sym (room n p).len

  pub spread_is : is_some t.len ≡ true → whole_in t ≡ capture_moves_of men kings them empty
  unfolding capture_moves_of
  spread_is e = go t.len refl e
    where
      go : (o : Option ℕ) → t.len ≡ o → is_some o ≡ true → whole_in t ≡ whole_in (long_captures_of men kings them empty)
      go None p r = absurd (false≢true r)
      go (Some n) p r =
          let s = room n p in
          listed 14 (omega arith) t q ∙ ap₂ (λ (ms : List Move) (k : Option ℕ). option_map (λ n. list_of ms) k) (sym s.moves) (sym s.len)
          ∙ sym (listed 256 (omega arith) (long_captures_of men kings them empty) refl)
