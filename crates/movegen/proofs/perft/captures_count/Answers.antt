-- A short list that has a length has as many moves as the long one.
use Rattle.std.proofs.Common.{rules, ◌≡◌, sym, ap, ◌∙◌}
use Rattle.std.specs.Prelude.{Err, ok_or}
use Rattle.squares.specs.declared.refusal.Refusal.TheVariants.{TooManyMoves}
use Rattle.movegen.specs.Generate.{long_captures_of, capture_moves_of}
use Rattle.movegen.proofs.ShortLists.{counted, long_number}
use Rattle.movegen.proofs.perft.captures_count.Goals as goal

pub returns-in_err-ok_or : goal.returns-in_err-ok_or
unfolding capture_moves_of
returns-in_err-ok_or c =
    let s = c.args.s in
    let q : c.from_residual.result ≡ Err c.in_err-ok_or.field-0.0 = search rules in
    let e = long_number s.men s.kings s.them s.empty _ c.all_captures-few.ensures c.or_else-len.ensures (λ h. search rules) in
    q ∙ c.in_err-ok_or.ensures.value ∙ ap (λ o. ok_or o TooManyMoves) e ∙ sym (counted (long_captures_of s.men s.kings s.them s.empty))

pub returns : goal.returns
unfolding capture_moves_of
returns c =
    let s = c.args.s in
    let e = long_number s.men s.kings s.them s.empty _ c.all_captures-few.ensures c.or_else-len.ensures (λ h. search rules) in
    c.in_ok-ok_or.ensures.value ∙ ap (λ o. ok_or o TooManyMoves) e ∙ sym (counted (long_captures_of s.men s.kings s.them s.empty))
