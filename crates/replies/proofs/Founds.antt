-- What is said after `found`.
use Rattle.std.specs.Prelude.{Result, Ok, Err, Some}
use mathlib.Core.Path.{◌≡◌}
use mathlib.Core.List.{List, []}
use Prim.Native.Nat.{ℕ}
use Rattle.std.specs.Result.{result_ok}
use Rattle.texts.specs.Lent.{over}
use Rattle.texts.specs.declared.space.Space.{Space}
use Rattle.texts.proofs.Overs.{over_none}
use Rattle.squares.specs.declared.refusal.Refusal.{Refusal}
use Rattle.replies.specs.Answers.{on_ok}

-- `found` writes nothing of what was found, so what is said of it is all that is written
pub found_said : {A : Type 0} (r : Result A Refusal) (x : A) (say : A → List ℕ) (a b c : Space) → result_ok r ≡ Some x → b ≡ over (on_ok r (λ _. [])) a → c ≡ over (say x) b → c ≡ over (on_ok r say) a
found_said (Ok y) x say a b c e f g = let h = over_none a in cc
found_said (Err w) x say a b c e f g = cc
