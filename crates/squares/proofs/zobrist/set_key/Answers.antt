-- Each turn takes one bit's key. The bit is below 64, so its place is in the table. The table is tested once.
use Rattle.std.proofs.Common.{rules, ◌*◌, ◌^◌, ◌+◌, ◌<◌, get_or, arith, ap, refl, ◌∙◌}
use Rattle.std.proofs.iter.Serving.{same_first}
use Rattle.std.proofs.lemmas.Iterator.Consumers.{fold_from_yields_List}
use lib.Bits.{bit_and, bit_xor, and_le_r}
use Rattle.squares.specs.Keys.{advance, scramble, output, outputs, keys}
use Rattle.squares.proofs.Yielded.{bit_below, block_below, members_come, xor_members}
use Rattle.squares.proofs.Keys.{keyed}
use Rattle.squares.proofs.zobrist.set_key.Goals as goal

pub fold-requires-clause-callable : goal.fold-requires-clause-callable
fold-requires-clause-callable c = record {
  at = λ xs t q x u y r s.
      let l : x < 64 = bit_below xs _ t u x (omega (arith, and_le_r c.args.set 0x003F_F7FE_FFDF_FBFF)) y s in
      let k : c.index.result < 4 = omega (arith, c.index.ensures, block_below c.args.color c.args.kind) in
      let e = same_first _ (λ p x q k. search (rules, t)) xs _ q r in
      let n : q.0.1.now + x < 256 = omega (arith, l, k, ap (λ p. p.1.now) e) in
      search (rules, n);
}

pub returns : goal.returns
unfolding keys outputs output advance scramble
returns c =
    let m = bit_and c.args.set 0x003F_F7FE_FFDF_FBFF in
    let b : m < 2 ^ 64 = omega (arith, and_le_r c.args.set 0x003F_F7FE_FFDF_FBFF) in
    fold_from_yields_List _ (λ a i. bit_xor a (get_or keys (64 * c.index.result + i) 0)) 0 c.fold.result c.fold.ensures.ran (members_come m refl b) (λ a x b q k. search (rules, k))
    ∙ xor_members (λ i. get_or keys (64 * c.index.result + i) 0) m b
    ∙ keyed c.args.color c.args.kind c.args.set c.index.ensures
