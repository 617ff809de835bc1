-- One move more of a list, and all of them.
use Prim.Native.Nat.{ℕ, ◌+◌, ◌≤◌, ◌<◌}
use mathlib.Core.Path.{◌≡◌, ap, sym, ◌∙◌}
use mathlib.Core.List.{List, [], ◌∷◌, ◌++◌, map}
use native.Mathlib.Numerals.{add-one}
use native.Mathlib.Omega.{arith}
use lib.ListN.{length, take, get_or}
use lib.Seq.{take-suc, take_all}
use denote.Ref.{Bor}
use Rattle.std.proofs.lemmas.List.{flat_map_more, map-append}
use Rattle.positions.specs.declared.moves.Move.{Move}
use Rattle.captures.specs.Lists.{blank}
use Rattle.texts.specs.Lent.{over}
use Rattle.texts.specs.declared.space.Space.{Space}
use Rattle.wording.specs.Output.{decimal}
use Rattle.texts.proofs.Overs.{over_none, over_then, over_as}
use Rattle.replies.specs.Answers.{move_word, moves_text, counts_text}

pub moves_none : (s : Space) → s ≡ over (moves_text []) s
unfolding moves_text
moves_none s = sym (over_none s)

moves_more : (l : List Move) (m : Move) → moves_text l ++ (32 ∷ move_word m) ≡ moves_text (l ++ (m ∷ []))
unfolding moves_text
moves_more l m = flat_map_more (λ (x : Move). 32 ∷ move_word x) [] l m

-- one more of the first moves
pub moves_next : (l k : List Move) (n : ℕ) (a b c d : Space) → k ≡ l → n < length k → b ≡ over (moves_text (take n l)) a → c ≡ over (32 ∷ []) b
    → d ≡ over (move_word (get_or k n blank)) c → d ≡ over (moves_text (take (n + 1) l)) a
moves_next l k n a b c d i h x y z =
    let e : take n k ++ (get_or k n blank ∷ []) ≡ take (n + 1) l = sym (take-suc k n blank h) ∙ ap (λ (m : ℕ). take m k) (sym (add-one n)) ∙ ap (take (n + 1)) i in
    over_as _ _ a d (moves_more (take n k) (get_or k n blank) ∙ ap moves_text e)
    (over_then _ _ a b d (over_as _ _ a b (ap (λ (m : List Move). moves_text (take n m)) (sym i)) x) (over_then (32 ∷ []) _ b c d y z))

pub moves_all : (l k : List Move) (n : ℕ) (a b : Space) → k ≡ l → length k ≤ n → b ≡ over (moves_text (take n l)) a → b ≡ over (moves_text l) a
moves_all l k n a b i h x = over_as _ _ a b (ap moves_text (take_all n l (omega (arith, h, ap length i)))) x

-- the moves and counts that pairs of references lead to
abbrev pub paired : List (Bor Move × Bor ℕ) → List (Move × ℕ)
paired y = map (λ (p : Bor Move × Bor ℕ). (p.0.now, p.1.now)) y

pub counts_none : (s : Space) → s ≡ over (counts_text []) s
unfolding counts_text
counts_none s = sym (over_none s)

counts_more : (l : List (Move × ℕ)) (p : Move × ℕ) → counts_text l ++ (32 ∷ (move_word p.0 ++ (61 ∷ decimal p.1))) ≡ counts_text (l ++ (p ∷ []))
unfolding counts_text
counts_more l p = flat_map_more (λ (q : Move × ℕ). 32 ∷ (move_word q.0 ++ (61 ∷ decimal q.1))) [] l p

-- one more of the pairs
pub counts_next : (y : List (Bor Move × Bor ℕ)) (p : Bor Move × Bor ℕ) (a b c d e f : Space) → b ≡ over (counts_text (paired y)) a
    → c ≡ over (32 ∷ []) b → d ≡ over (move_word p.0.now) c → e ≡ over (61 ∷ []) d → f ≡ over (decimal p.1.now) e
    → f ≡ over (counts_text (paired (y ++ (p ∷ [])))) a
counts_next y p a b c d e f v w x k z =
    over_as _ _ a f (counts_more (paired y) (p.0.now, p.1.now) ∙ ap counts_text (sym (map-append (λ (p : Bor Move × Bor ℕ). (p.0.now, p.1.now)) y (p ∷ []))))
    (over_then _ _ a b f v (over_then (32 ∷ []) _ b c f w (over_then _ _ c d f x (over_then (61 ∷ []) _ d e f k z))))
