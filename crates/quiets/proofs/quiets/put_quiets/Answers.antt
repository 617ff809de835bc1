-- The men's steps in both directions, then the kings' moves; where some have no room, neither have all.
use Rattle.std.proofs.Common.{rules, ◌≡◌, ap, ◌∙◌, ℕ}
use Rattle.std.specs.Prelude.{None}
use Rattle.captures.specs.Lists.{kept}
use Rattle.quiets.specs.Quiets.{put_all, men_steps}
use Rattle.quiets.proofs.Filled.{first_full, second_full, kings_last}
use Rattle.quiets.proofs.quiets.put_quiets.Goals as goal

pub returns-in_err-put_steps : goal.returns-in_err-put_steps
returns-in_err-put_steps c =
    let s = c.args.s in
    let q : c.from_residual.result ≡ None = search rules in
    ap (kept c.put_steps.new.list) q
    ∙ first_full s.men s.kings s.empty s.side _ _ (c.in_err-put_steps.ensures ∙ ap (λ (d : ℕ). put_all c.args.list.now (men_steps s.men s.empty d)) c.forward-left.ensures.left)

pub returns-in_err-put_steps-2 : goal.returns-in_err-put_steps-2
returns-in_err-put_steps-2 c =
    let s = c.args.s in
    let q : c.from_residual-in_err-put_steps-2.result ≡ None = search rules in
    ap (kept c.put_steps-2.new.list) q
    ∙ second_full s.men s.kings s.empty s.side _ c.put_steps.new.list _
    (c.in_ok-put_steps.ensures ∙ ap (λ (d : ℕ). put_all c.args.list.now (men_steps s.men s.empty d)) c.forward-left.ensures.left)
    (c.in_err-put_steps-2.ensures ∙ ap (λ (d : ℕ). put_all c.put_steps.new.list (men_steps s.men s.empty d)) c.forward-left.ensures.right)

pub returns : goal.returns
returns c =
    let s = c.args.s in
    kings_last s.men s.kings s.empty s.side _ c.put_steps.new.list c.put_steps-2.new.list _
    (c.in_ok-put_steps.ensures ∙ ap (λ (d : ℕ). put_all c.args.list.now (men_steps s.men s.empty d)) c.forward-left.ensures.left)
    (c.in_ok-put_steps-2.ensures ∙ ap (λ (d : ℕ). put_all c.put_steps.new.list (men_steps s.men s.empty d)) c.forward-left.ensures.right)
    c.put_kings.ensures
