-- The bits of 64, turned round and shifted down by ten, masked to the squares.
use mathlib.Core.Path.{ap₂, ◌∙◌, sym}
use Prim.Native.Nat.{ℕ, ◌/◌}
use lib.Bits.{bit_and}
use Rattle.squares.proofs.Numbers.{all_is}
use Rattle.positions.proofs.Rotation.{turned_round}
use Rattle.positions.proofs.position.rotate.Goals as goal

pub returns : goal.returns
returns c = ap₂ (λ (x m : ℕ). bit_and (x / 1024) m) c.reverse_bits.ensures (sym all_is) ∙ turned_round c.args.set
