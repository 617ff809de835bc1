-- A refused play: game and book stay.
use mathlib.Core.Path.{◌≡◌}
use Prim.Native.Nat.{ℕ, suc}
use native.Mathlib.Omega.{arith}
use mathlib.Core.Bool.{false}
use borrow.Author.Tests.{ne_eqb}
use Rattle.squares.specs.declared.refusal.Refusal.{Refusal}
use Rattle.positions.specs.Boards.{Board}
use Rattle.positions.specs.declared.moves.Move.{Move}
use Rattle.games.specs.Book.{Book, book_answer, book_next}
use Rattle.games.specs.Play.{play_of, after_play}
use Rattle.games.specs.declared.game.Game.{Game}
use Rattle.games.proofs.BookPlay.{next_of}
use Rattle.games.proofs.Stands.{Stands}
use Rattle.std.specs.Prelude.{Err}

pub refused_stands : (start : Board) (g : Game) (b : Book) → Stands start g b → (m : Move) (e : Refusal) (n : ℕ) → play_of g m ≡ Err e
    → book_answer b m ≡ suc n → Stands start (after_play g (play_of g m)) (book_next b m)
refused_stands start g b r m e n p k = rw (p, next_of b m false (ne_eqb (book_answer b m) 0 (λ q. omega (arith, k)))) r
