-- The board is the next one, the hash that of the definition.
use mathlib.Core.Path.{ap, ◌∙◌}
use Prim.Native.Nat.{ℕ}
use Rattle.squares.specs.declared.piece.Color.{Color}
use Rattle.positions.specs.Hash.{keys_on}
use Rattle.positions.specs.Successor.{moved_key}
use Rattle.captures.specs.declared.view.View.{View}
use Rattle.movegen.specs.Generate.{next_of}
use Rattle.movegen.proofs.Played.{played}
use Rattle.movegen.proofs.position.play.Goals as goal

pub returns : goal.returns
returns c =
    let p = c.args.p in
    let m = c.args.mv in
    played p _ m _ _ _ _
    c.with_hash.ensures.sets
    (c.next-v.ensures ∙ ap (λ (v : View). next_of v m) c.from.ensures)
    c.with_hash.ensures.hash
    (c.keys_on.ensures ∙ ap (λ (x : Color). keys_on x m.captured p.kings) c.not.ensures)
    (c.moved_key.ensures ∙ ap (λ (k : ℕ). moved_key p.side k m) c.difference-kept.ensures)
    c.side_key.ensures
