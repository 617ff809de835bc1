-- 10,000 times 5,760 fits an i32.
use lib.Dec.{lit<}
use Rattle.scores.proofs.Integers.{times_of, within_le, fits, read}
use Rattle.scores.proofs.eval.term.Goals as goal

pub overflow_mul-result : goal.overflow_mul-result
overflow_mul-result c =
    fits (times_of 10000 5760 c.args.weight c.args.number (within_le 10000 c.args.weight c.requires.weight_value) c.requires.number_bound (lit< tt) (lit< tt)) (lit< tt)

pub returns : goal.returns
returns c =
    read (times_of 10000 5760 c.args.weight c.args.number (within_le 10000 c.args.weight c.requires.weight_value) c.requires.number_bound (lit< tt) (lit< tt)) (lit< tt)
