-- What is still to be put in for the kings left comes to the whole.
use Rattle.quiets.specs.Quiets.{put_all, flights, king_quiets}
use Rattle.quiets.proofs.Added.{Adding}
use Rattle.quiets.proofs.quiets.put_kings.Given as goal

abbrev pub invariant-loop-at : goal.invariant-loop-at
invariant-loop-at l = Adding (flights l.s.empty) (put_all l.fn.list (king_quiets l.fn.s.kings l.s.empty)) l.list l.at-iterator.0
