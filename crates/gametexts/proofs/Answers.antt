-- What the answers of a game's entries say about the game.
use Rattle.std.specs.Prelude.{Err, Ok}
use mathlib.Core.Path.{◌≡◌, refl, sym, ap, ◌∙◌}
use Prim.Native.Nat.{ℕ}
use native.Mathlib.Omega.{arith}
use mathlib.Core.Bool.{Bool, true, false, cond}
use Rattle.squares.specs.declared.refusal.Refusal.{Refusal}
use Rattle.squares.specs.declared.refusal.Refusal.TheVariants.{BadGame}
use Rattle.positions.specs.declared.position.Position.{Position}
use Rattle.games.specs.Games.{last_of, valid, judged_of, ended}
use Rattle.games.specs.Play.{is_over_of, stands_of}
use Rattle.games.specs.declared.game.Game.{Game}

-- where a position is answered, the game is valid, and the position is its current one
pub stands_at : (g : Game) (p : Position) → stands_of g ≡ Ok p → (valid g ≡ true) × (p ≡ last_of g)
unfolding stands_of
stands_at g p e = go (valid g) refl e
  where
    go : (t : Bool) → valid g ≡ t → cond t (Ok (last_of g)) (Err BadGame) ≡ Ok p → (valid g ≡ true) × (p ≡ last_of g)
    go true v e = (v, cc)
    go false v e = absurd (let z : ◌≡◌ {A = ℕ} 0 1 = cc in omega arith)

-- the only refusal is 13
pub stands_not : (g : Game) (e : Refusal) → stands_of g ≡ Err e → (valid g ≡ false) × (e ≡ BadGame)
unfolding stands_of
stands_not g e h = go (valid g) refl h
  where
    go : (t : Bool) → valid g ≡ t → cond t (Ok (last_of g)) (Err BadGame) ≡ Err e → (valid g ≡ false) × (e ≡ BadGame)
    go true v h = absurd (let z : ◌≡◌ {A = ℕ} 0 1 = cc in omega arith)
    go false v h = (v, cc)

module _ (g : Game) (v : valid g ≡ true) where
  over_told : is_over_of g ≡ Ok (ended (judged_of g))
  unfolding is_over_of
  over_told = ap (λ (t : Bool). cond t (Ok (ended (judged_of g))) (Err BadGame)) v

  pub over_at : (t : Bool) → is_over_of g ≡ Ok t → ended (judged_of g) ≡ t
  over_at t e = let f = sym over_told ∙ e in cc

  pub over_not : (e : Refusal) → is_over_of g ≡ Err e → ⊥
  over_not e h = let f = sym over_told ∙ h in let z : ◌≡◌ {A = ℕ} 0 1 = cc in omega arith
