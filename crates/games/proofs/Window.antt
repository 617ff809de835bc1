-- Laws on what a game keeps: the window position by position, entries still blank.
use mathlib.Core.Path.{◌≡◌, refl, ap, ◌∙◌}
use Prim.Native.Nat.{ℕ, zero, suc, ◌-◌, ◌<◌, ◌≤◌}
use native.Mathlib.Omega.{arith}
use mathlib.Core.Bool.{Bool, true, ◌&&◌}
use mathlib.Core.List.{List, [], ◌∷◌, ◌++◌}
use lib.ListN.{length, take, drop, get_or, set, replicate}
use Rattle.std.specs.List.{list_all}
use Rattle.std.proofs.lemmas.List.{drop-replicate}
use lib.Seq.{set_at, length-take-le}
use Rattle.squares.proofs.Bools.{and_left, and_right}
use Rattle.positions.specs.Acceptance.{sound}
use Rattle.positions.specs.declared.position.Position.{Position}
use Rattle.positions.proofs.Accepts.{blank_sound}
use Rattle.games.specs.Games.{blank_position, window_of, last_of, all_sound, valid}
use Rattle.games.specs.declared.game.Game.{Game}
use Rattle.games.proofs.Valid.{valid_says}

-- ---- the kept positions are sound

-- as the test of the library
pub all_tested : (l : List Position) → list_all sound l ≡ all_sound l
unfolding all_sound
all_tested [] = refl
all_tested (p ∷ l) = ap (λ (b : Bool). sound p && b) (all_tested l)

all_at : (d : Position) → sound d ≡ true → (l : List Position) (n i : ℕ) → i < n → all_sound (take n l) ≡ true → sound (get_or l i d) ≡ true
unfolding all_sound
all_at d s [] n i h e = s
all_at d s (p ∷ l) zero i h e = absurd (omega arith)
all_at d s (p ∷ l) (suc n) zero h e = and_left (sound p) (all_sound (take n l)) e
all_at d s (p ∷ l) (suc n) (suc i) h e = all_at d s l n i (omega arith) (and_right (sound p) (all_sound (take n l)) e)

-- the current position is one of those kept; an unused entry is sound too
pub last_sound : (g : Game) → valid g ≡ true → sound (last_of g) ≡ true
unfolding last_of window_of
last_sound g e =
    let v = valid_says g e in
    let n = v.len in
    all_at blank_position blank_sound g.kept g.len g.reversible (omega arith) v.sound

-- ---- the positions kept, then blanks

-- one is stored over the first blank one
pub appended_blank : (b v : Position) (n : ℕ) (l : List Position) → length l ≡ 51 → n ≤ 50
    → set (take n l ++ drop n (replicate 51 b)) n v ≡ take n l ++ (v ∷ replicate (50 - n) b)
appended_blank b v n l e h =
    let k : 51 - n ≡ suc (50 - n) = omega arith in
    ap (λ (r : List Position). set (take n l ++ r) n v) (drop-replicate n 51 b ∙ ap (λ (i : ℕ). replicate i b) k)
    ∙ set_at (take n l) b (replicate (50 - n) b) v n (length-take-le n l (omega arith))
