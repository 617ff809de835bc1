-- The test by sets chooses between the two lists, as the formula does. A short list that did not overflow has the captures of the
-- long one.
use mathlib.Core.Path.{◌≡◌, sym, ap, ◌∙◌}
use Rattle.std.proofs.Common.{rules}
use mathlib.Core.Bool.{true, false}
use Rattle.captures.specs.View.{sets_of}
use Rattle.captures.specs.declared.view.Sets.{Sets}
use Rattle.captures.specs.declared.view.View.{View}
use Rattle.quiets.specs.Tests.{has_capture_of}
use Rattle.quiets.specs.Quiets.{put_all, all_quiets, quiet_moves_of}
use Rattle.quiets.proofs.Filled.{all_room, no_room}
use Rattle.captures.specs.declared.moves.MoveList.{MoveList}
use Rattle.captures.specs.Record.{whole_in}
use Rattle.std.specs.Prelude.{Option, None}
use Rattle.movegen.specs.Generate.{capture_moves_of, moves_by_sets, generate_of}
use Rattle.movegen.proofs.Generated.{takes_captures, takes_quiets}
use Rattle.movegen.proofs.ShortLists.{spread_is}
use Rattle.movegen.proofs.movegen.generate.Goals as goal

-- the captures, where a jump is open
captures_are : (v : View) (s : Sets) (l : Option MoveList) → s ≡ sets_of v → l ≡ capture_moves_of s.men s.kings s.them s.empty
    → has_capture_of s.men s.kings s.them s.empty ≡ true → l ≡ generate_of v
unfolding generate_of
captures_are v s l q e h = e ∙ takes_captures s.men s.kings s.them s.empty s.side h ∙ ap (λ (s : Sets). moves_by_sets s.men s.kings s.them s.empty s.side) q

pub returns-then-is_some : goal.returns-then-is_some
returns-then-is_some c =
    captures_are c.args.v c.from-sets.result _ c.from-sets.ensures
    (c.whole.ensures ∙ spread_is _ _ _ _ _ c.all_captures-few.ensures (sym c.is_some.ensures ∙ c.if-is_some.true))
    (sym c.has_capture.ensures ∙ c.if-has_capture.true)

pub returns-then-has_capture : goal.returns-then-has_capture
unfolding capture_moves_of
returns-then-has_capture c =
    captures_are c.args.v c.from-sets.result _ c.from-sets.ensures (c.whole-then-has_capture.ensures ∙ ap whole_in c.all_captures.ensures) (sym c.has_capture.ensures ∙ c.if-has_capture.true)

-- the quiet moves, where none is open
quiets_are : (v : View) (s : Sets) (l : Option MoveList) → s ≡ sets_of v → l ≡ quiet_moves_of s.men s.kings s.empty s.side → has_capture_of s.men s.kings s.them s.empty ≡ false
    → l ≡ generate_of v
unfolding generate_of
quiets_are v s l q e h = e ∙ takes_quiets s.men s.kings s.them s.empty s.side h ∙ ap (λ (s : Sets). moves_by_sets s.men s.kings s.them s.empty s.side) q

pub returns-in_err-put_quiets : goal.returns-in_err-put_quiets
returns-in_err-put_quiets c =
    let s = c.from-sets.result in
    let q : c.from_residual.result ≡ None = search rules in
    q
    ∙ quiets_are c.args.v s None c.from-sets.ensures
    (no_room s.men s.kings s.empty s.side _ (c.in_err-put_quiets.ensures ∙ ap (λ (l : MoveList). put_all l (all_quiets s.men s.kings s.empty s.side)) c.new-list.ensures))
    (sym c.has_capture.ensures ∙ c.if-has_capture.false)

pub returns : goal.returns
returns c =
    let s = c.from-sets.result in
    quiets_are c.args.v s _ c.from-sets.ensures
    (all_room s.men s.kings s.empty s.side _ (c.in_ok-put_quiets.ensures ∙ ap (λ (l : MoveList). put_all l (all_quiets s.men s.kings s.empty s.side)) c.new-list.ensures))
    (sym c.has_capture.ensures ∙ c.if-has_capture.false)
