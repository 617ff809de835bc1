-- Each turn puts in the step to the lowest bit left; where it has no room, neither have all.
use Rattle.std.proofs.Common.{rules, ◌≡◌, sym, ap, ◌∙◌, ℕ, ◌-◌, ◌^◌, [], ◌∷◌}
use Rattle.std.specs.Prelude.{Result, None}
use mathlib.Core.List.{map, flat_map}
use lib.Bits.{bit_and}
use Rattle.squares.specs.Sets.{lowest, members}
use Rattle.squares.specs.Directions.{direction_at, shifted}
use Rattle.positions.specs.declared.moves.Move.{Move}
use Rattle.captures.specs.declared.moves.MoveList.{MoveList}
use Rattle.captures.specs.Lists.{kept, put_of}
use Rattle.quiets.specs.Quiets.{put_all, quiet_move, step_move, men_steps}
use Rattle.quiets.proofs.Added.{adding_turn, adding_stop, adding_done, ones, put_one, step_made}
use Rattle.quiets.proofs.quiets.put_steps.Goals as goal

-- the move that is put in is the step to the lowest bit left
put_step : (d o left at back : ℕ) (m : Move) (l : MoveList) (r : Result MoveList MoveList) → at ≡ 2 ^ lowest left
    → o ≡ 3 - d → back ≡ shifted (direction_at o) at → m ≡ quiet_move back at → r ≡ put_of l m → r ≡ put_all l (step_move d (lowest left) ∷ [])
put_step d o left at back m l r ea eo eb em e =
    e ∙ ap (put_of l) (step_made d at (lowest left) back m ea (eb ∙ ap (λ (k : ℕ). shifted (direction_at k) at) eo) em)
    ∙ sym (put_one l (step_move d (lowest left)))

-- the steps by the bit reached
steps_are : (men empty d y : ℕ) (l : MoveList) → y ≡ shifted (direction_at d) men
    → put_all l (flat_map (λ i. step_move d i ∷ []) (members (bit_and y empty))) ≡ put_all l (men_steps men empty d)
unfolding men_steps
steps_are men empty d y l e = ap (put_all l) (ones (step_move d) _ ∙ ap (λ (t : ℕ). map (step_move d) (members (bit_and t empty))) e)

pub loop-at-preserved : goal.loop-at-preserved
loop-at-preserved c =
    let s = c.in-Some.ensures.steps in
    let l = c.loop-at in
    rw s.2
    (adding_turn _ _ l.list l.at-iterator.0 l.invariant c.put.new.self s.0
    (put_step _ _ _ _ _ _ l.list _ s.1 c.opposite.ensures c.shift-in-loop-at.ensures c.by_bits.ensures c.in_ok-put.ensures))

pub returns-in_err-put : goal.returns-in_err-put
returns-in_err-put c =
    let q : c.from_residual.result ≡ None = search rules in
    let s = c.in-Some.ensures.steps in
    let l = c.loop-at in
    ap (kept c.put.new.self) q
    ∙ adding_stop _ _ l.list l.at-iterator.0 (rw c.into_iter-at-iterator.ensures.into_iter_gives at l.invariant) _ s.0
    (put_step _ _ _ _ _ _ l.list _ s.1 c.opposite.ensures c.shift-in-loop-at.ensures c.by_bits.ensures c.in_err-put.ensures)
    ∙ steps_are _ _ _ _ _ c.shift.ensures

pub returns : goal.returns
returns c =
    adding_done _ _ c.loop-at.list c.loop-at.at-iterator.0 (rw c.into_iter-at-iterator.ensures.into_iter_gives at c.loop-at.invariant) c.in-None.ensures.steps.0
    ∙ steps_are _ _ _ _ _ c.shift.ensures
