-- Each return is one case of the definition: too few, more than before, found already, one more.
use Rattle.std.proofs.Common.{arith, ◌≡◌, sym, ap₂, refl, true, false, ◌∙◌, eqb, ltb}
use mathlib.Core.Bool.{◌||◌, or-true}
use borrow.Author.Tests.{eq-eqb, ne_eqb, lt-ltb, le-ltb}
use Rattle.captures.specs.Lists.{listed}
use Rattle.captures.specs.Record.{moves_in, move_of, more_by}
use Rattle.captures.proofs.Listed.{listed_any}
use Rattle.captures.proofs.Recorded.{record_few, record_anew, record_there, record_more}
use Rattle.captures.proofs.movegen.Captures.record.Goals as goal
use Rattle.captures.proofs.movegen.Captures.record.Goals.{then-count-eq0-via-then-count-eq0, then-count-eq0-via-else-count-eq0+then-count-self, then-self-count, else-self-count+else-contains}

pub returns-then-count-eq0 : goal.returns-then-count-eq0
returns-then-count-eq0 g c =
    let a = c.args in
    let n = c.count-count.result in
    let few : (eqb n 0 || ltb n a.self.now.best) ≡ true = elim c.then-count-eq0.branch [
      | then-count-eq0-via-then-count-eq0 w ↦ rw (eq-eqb n 0 w.if-count-eq0.true) refl
      | then-count-eq0-via-else-count-eq0+then-count-self w ↦ rw (lt-ltb n a.self.now.best (omega (arith, w.if-count-self.true))) (or-true (eqb n 0))
    ] in
    record_few a.self.now a.to a.captured n c.count-count.ensures few

pub returns-then-contains : goal.returns-then-contains
returns-then-contains g c =
    let a = c.args in
    let n = c.count-count.result in
    let enough : (eqb n 0 || ltb n a.self.now.best) ≡ false = rw (ne_eqb n 0 c.if-count-eq0.false, le-ltb n a.self.now.best (omega (arith, c.if-count-self.false))) refl in
    let there : listed (moves_in a.self.now) (move_of a.self.now a.to a.captured) ≡ true =
    ap₂ listed (sym c.entries.ensures) (sym c.by_bits-mv.ensures) ∙ sym (listed_any c.entries.result.now _) ∙ sym c.contains.ensures.value ∙ c.if-contains.true in
    record_there a.self.now a.to a.captured n c.count-count.ensures enough c.if-self-count.false there

pub returns : goal.returns
returns g c =
    let a = c.args in
    let n = c.count-count.result in
    let enough : (eqb n 0 || ltb n a.self.now.best) ≡ false = rw (ne_eqb n 0 c.if-count-eq0.false, le-ltb n a.self.now.best (omega (arith, c.if-count-self.false))) refl in
    elim c.if-self-count.branch [
      | then-self-count w ↦
          c.push.ensures ∙ ap₂ more_by (w.self-is ∙ w.clear.ensures) c.by_bits-mv.ensures
          ∙ record_anew a.self.now a.to a.captured n c.count-count.ensures enough w.if-self-count.true
      | else-self-count+else-contains w ↦
          let new : listed (moves_in a.self.now) (move_of a.self.now a.to a.captured) ≡ false =
          ap₂ listed (sym w.entries.ensures) (sym c.by_bits-mv.ensures) ∙ sym (listed_any w.entries.result.now _) ∙ sym w.contains.ensures.value ∙ w.if-contains.false in
          c.push.ensures ∙ ap₂ more_by w.self-is c.by_bits-mv.ensures
          ∙ record_more a.self.now a.to a.captured n c.count-count.ensures enough w.if-self-count.false new
    ]
