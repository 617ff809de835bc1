-- The library reads a hexadecimal digit.
use native.Mathlib.Omega.{arith}
use Rattle.wording.proofs.Values.{digit_found}
use Rattle.wording.proofs.escapes.digit.Goals as goal

pub returns : goal.returns
returns c = digit_found 16 c.args.b c.to_digit.result (omega arith) c.to_digit.ensures.value
