-- The position after a move is its board, as the other side sees it, with the hash carried on.
use mathlib.Core.Path.{◌≡◌, refl, ap, ap₂, ◌∙◌}
use Prim.Native.Nat.{ℕ}
use lib.Bits.{bit_xor}
use Rattle.squares.specs.Sets.{without}
use Rattle.squares.specs.Pieces.{other}
use Rattle.squares.specs.Keys.{side_key}
use Rattle.squares.specs.declared.piece.Color.{Color}
use Rattle.squares.specs.declared.piece.Color.TheVariants.{White, Black}
use Rattle.positions.specs.Boards.{Board, board_of}
use Rattle.positions.specs.Hash.{keys_on}
use Rattle.positions.specs.Successor.{moved_key, position_after, play_of}
use Rattle.positions.specs.declared.moves.Move.{Move}
use Rattle.positions.specs.declared.position.Position.{Position}
use Rattle.captures.specs.View.{view_of}
use Rattle.captures.specs.declared.view.View.{View}
use Rattle.movegen.specs.Generate.{seen, next_of}
use Rattle.movegen.proofs.Generated.{next_board}

-- a board and a hash are a position
abbrev joined : Board → ℕ → Position
joined b h = record { white = b.white; black = b.black; kings = b.kings; side = b.side; hash = h }

hash_kept : (s : Color) (us them kings hash : ℕ) → hash ≡ (position_after s us them kings hash).hash
hash_kept White us them kings hash = refl
hash_kept Black us them kings hash = refl

pub played : (p q : Position) (m : Move) (v : View) (taken mover side : ℕ)
    → board_of q ≡ seen v
    → v ≡ next_of (view_of (board_of p)) m
    → q.hash ≡ bit_xor (bit_xor (bit_xor p.hash taken) mover) side
    → taken ≡ keys_on (other p.side) m.captured p.kings
    → mover ≡ moved_key p.side (without p.kings m.captured) m
    → side ≡ side_key
    → q ≡ play_of p m
unfolding play_of
played p q m v taken mover side b n h d e f = ap₂ joined (b ∙ ap seen n ∙ next_board p m) (h ∙ rw (d, e, f) (hash_kept p.side _ _ _ _))
