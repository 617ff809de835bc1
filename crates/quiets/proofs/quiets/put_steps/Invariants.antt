-- What is still to be put in for the bits left comes to the whole.
use mathlib.Core.List.{◌∷◌, [], flat_map}
use Rattle.squares.specs.Sets.{members}
use Rattle.quiets.specs.Quiets.{put_all, step_move}
use Rattle.quiets.proofs.Added.{Adding}
use Rattle.quiets.proofs.quiets.put_steps.Given as goal

abbrev pub invariant-loop-at : goal.invariant-loop-at
invariant-loop-at l =
    Adding (λ i. step_move l.d i ∷ []) (put_all l.fn.list (flat_map (λ i. step_move l.d i ∷ []) (members l.initial.at-iterator.0))) l.list l.at-iterator.0
