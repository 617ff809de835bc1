-- What the test of refusal 13 says of a game, and the games that a play makes: they pass it again.
use mathlib.Core.Path.{◌≡◌, refl, sym, ap, ap₂, ◌∙◌}
use Prim.Native.Nat.{ℕ, suc, ◌+◌, ◌-◌, ◌≤◌, ◌<◌, min}
use native.Mathlib.Nat.{min-le_left}
use native.Mathlib.Omega.{arith}
use mathlib.Core.Bool.{Bool, true, false, cond, ◌||◌}
use mathlib.Core.List.{List, [], ◌∷◌, ◌++◌}
use lib.Dec.{eqb, leb}
use lib.ListN.{length, take, replicate, length-append, length-replicate}
use lib.Seq.{append_snoc, take_at, get_or_at, length-take-le}
use borrow.Author.Tests.{leb-true, le-leb, eqb-true, eq-eqb}
use Rattle.squares.proofs.Bools.{and_left, and_right, and_both}
use Rattle.positions.specs.Acceptance.{sound}
use Rattle.positions.specs.Boards.{Board}
use Rattle.positions.specs.Moves.{is_capture}
use Rattle.positions.specs.Successor.{promotes}
use Rattle.positions.specs.declared.moves.Move.{Move}
use Rattle.positions.specs.declared.position.Position.{Position}
use Rattle.games.specs.Games.{blank_position, window_of, last_of, all_sound, valid, material_after}
use Rattle.games.specs.Play.{alone_of, appended_of}
use Rattle.games.specs.declared.game.Game.{Game}

pub record Valid (g : Game) : Type 0 where
  pub reversible : g.reversible ≤ 50
  pub material : g.material ≤ 32
  pub len : g.len ≡ g.reversible + 1
  pub sound : all_sound (window_of g) ≡ true

pub valid_says : (g : Game) → valid g ≡ true → Valid g
unfolding valid
valid_says g e =
    let rest = and_right (leb g.reversible 50) _ e in
    let last = and_right (leb g.material 32) _ rest in
    record {
      reversible = leb-true _ _ (and_left _ _ e);
      material = leb-true _ _ (and_left _ _ rest);
      len = eqb-true _ _ (and_left _ _ last);
      sound = and_right (eqb g.len (g.reversible + 1)) _ last;
    }

-- so the window ends within what is kept
pub window_fits : (g : Game) → valid g ≡ true → g.len ≤ 51
window_fits g e = let v = valid_says g e in omega arith

pub says_valid : (g : Game) → Valid g → valid g ≡ true
unfolding valid
says_valid g v =
    and_both _ _ (le-leb _ _ v.reversible) (and_both _ _ (le-leb _ _ v.material) (and_both _ _ (eq-eqb _ _ v.len) v.sound))

pub sound_append : (xs ys : List Position) → all_sound xs ≡ true → all_sound ys ≡ true → all_sound (xs ++ ys) ≡ true
unfolding all_sound
sound_append [] ys a b = b
sound_append (x ∷ xs) ys a b =
    and_both (sound x) (all_sound (xs ++ ys)) (and_left (sound x) (all_sound xs) a) (sound_append xs ys (and_right (sound x) (all_sound xs) a) b)

pub sound_one : (p : Position) → sound p ≡ true → all_sound (p ∷ []) ≡ true
unfolding all_sound
sound_one p s = and_both (sound p) true s refl

-- the second counter stays within 32
pub material_fits : (b : Board) (m : Move) (n : ℕ) → material_after b m n ≤ 32
unfolding material_after
material_fits b m n = go (is_capture m || promotes b m)
  where
    go : (t : Bool) → cond t 0 (min 32 (n + 1)) ≤ 32
    go true = omega arith
    go false = min-le_left 32 (n + 1)

-- ---- a game that keeps one position
module _ (p : Position) (n : ℕ) where
  pub alone_window : window_of (alone_of p n) ≡ p ∷ []
  unfolding window_of alone_of
  alone_window = refl

  pub alone_last : last_of (alone_of p n) ≡ p
  unfolding last_of alone_of
  alone_last = refl

  pub alone_long : length (alone_of p n).kept ≡ 51
  unfolding alone_of
  alone_long = refl

  pub alone_first : (alone_of p n).reversible ≡ 0
  unfolding alone_of
  alone_first = refl

  pub alone_second : (alone_of p n).material ≡ n
  unfolding alone_of
  alone_second = refl

  pub alone_valid : sound p ≡ true → n ≤ 32 → valid (alone_of p n) ≡ true
  alone_valid s h = says_valid (alone_of p n) (record {
    reversible = unfold alone_of in omega arith;
    material = unfold alone_of in h;
    len = unfold alone_of in refl;
    sound = ap all_sound alone_window ∙ sound_one p s;
  })

-- ---- a game with one more position
module _ (g : Game) (p : Position) (n : ℕ) (v : Valid g) (k : length g.kept ≡ 51) (h : g.reversible < 50) where
  front : length (window_of g) ≡ g.len
  unfolding window_of
  front = length-take-le g.len g.kept (omega (arith, v.len))

  pub more_window : window_of (appended_of g p n) ≡ window_of g ++ (p ∷ [])
  unfolding window_of appended_of
  more_window =
      ap (take (g.len + 1)) (sym (append_snoc (window_of g) p (replicate (50 - g.len) blank_position)))
      ∙ take_at (window_of g ++ (p ∷ [])) (replicate (50 - g.len) blank_position) (g.len + 1)
      (length-append (window_of g) (p ∷ []) ∙ ap (λ (j : ℕ). j + 1) front)

  pub more_last : last_of (appended_of g p n) ≡ p
  unfolding last_of appended_of
  more_last = get_or_at (window_of g) p (replicate (50 - g.len) blank_position) blank_position (g.reversible + 1) (front ∙ v.len)

  pub more_long : length (appended_of g p n).kept ≡ 51
  unfolding appended_of
  more_long =
      length-append (window_of g) (p ∷ replicate (50 - g.len) blank_position)
      ∙ ap₂ (λ (i j : ℕ). i + suc j) front (length-replicate (50 - g.len) blank_position)
      ∙ (let e = v.len in omega arith)

  pub more_first : (appended_of g p n).reversible ≡ g.reversible + 1
  unfolding appended_of
  more_first = refl

  pub more_second : (appended_of g p n).material ≡ n
  unfolding appended_of
  more_second = refl

  pub more_valid : sound p ≡ true → n ≤ 32 → valid (appended_of g p n) ≡ true
  more_valid s l = says_valid (appended_of g p n) (record {
    reversible = unfold appended_of in omega arith;
    material = unfold appended_of in l;
    len = unfold appended_of in ap (λ (j : ℕ). j + 1) v.len;
    sound = ap all_sound more_window ∙ sound_append (window_of g) (p ∷ []) v.sound (sound_one p s);
  })
