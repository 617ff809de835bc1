-- Past 13, 1, 9 and 14 the answer is that of the search for the move, or of the play of the move that was found.
use Rattle.std.proofs.Common.{rules, ◌≡◌, false, refl}
use Rattle.std.specs.Prelude.{Ok, Err}
use Rattle.notation.specs.Choice.{fit_of}
use Rattle.notation.specs.Notation.{read_move_of}
use Rattle.games.specs.Games.{last_of, judged_of, ended}
use Rattle.games.specs.Play.{stands_of, play_of}
use Rattle.gametexts.specs.Texts.{play_said, play_str_of}
use Rattle.gametexts.proofs.Answers.{stands_at, over_at}
use Rattle.gametexts.proofs.game.play_str.Goals as goal

pub returns-in_err-mv : goal.returns-in_err-mv
unfolding play_str_of play_said
returns-in_err-mv c =
    let g = c.args.g in
    let q : c.from_residual-in_err-mv.result ≡ Err c.in_err-mv.field-0.0 = search rules in
    let at : stands_of g ≡ Ok c.in_ok-p.p = search rules in
    let r : read_move_of c.args.text.now ≡ Ok c.in_ok-said.said = search rules in
    let s = stands_at g c.in_ok-p.p at in
    let o : ended (judged_of g) ≡ false = over_at g s.0 false (search rules) in
    let f : fit_of (last_of g) c.in_ok-said.said ≡ Err c.in_err-mv.field-0.0 = search rules in
    rw (q, s.0, r, o, f) refl

pub returns-in_err-game : goal.returns-in_err-game
unfolding play_str_of play_said
returns-in_err-game c =
    let g = c.args.g in
    let q : c.from_residual-in_err-game.result ≡ Err c.in_err-game.field-0.0 = search rules in
    let at : stands_of g ≡ Ok c.in_ok-p.p = search rules in
    let r : read_move_of c.args.text.now ≡ Ok c.in_ok-said.said = search rules in
    let s = stands_at g c.in_ok-p.p at in
    let o : ended (judged_of g) ≡ false = over_at g s.0 false (search rules) in
    let f : fit_of (last_of g) c.in_ok-said.said ≡ Ok c.in_ok-mv.mv = search rules in
    let d : play_of g c.in_ok-mv.mv ≡ Err c.in_err-game.field-0.0 = search rules in
    rw (q, s.0, r, o, f, d) refl
