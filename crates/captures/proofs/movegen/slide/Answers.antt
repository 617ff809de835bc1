-- The chain finds the first square ahead that is not empty.
use Rattle.std.proofs.Common.{rules, tests, ◌∙◌, eqb, ℕ, bit_and}
use Rattle.std.proofs.lemmas.Iterator.Consumers.{YieldsList-from_first}
use Rattle.std.proofs.lemmas.Iterator.Search.{find_from_yields_List}
use Rattle.squares.specs.Directions.{direction_at}
use Rattle.captures.specs.Rays.{ray_left}
use Rattle.captures.proofs.Rays.{slide_found}
use Rattle.captures.proofs.movegen.slide.Goals as goal

pub returns : goal.returns
returns c =
    c.unwrap_or.ensures
    ∙ slide_found (direction_at c.args.d) c.args.empty c.args.from c.ranges.from.fits _
    (find_from_yields_List (λ (s : ℕ). eqb (bit_and s c.args.empty) 0) _ _ c.find.result c.find.ensures.ran (YieldsList-from_first (λ (x : ℕ). x) ray_left _ c.new.ensures) (λ x b q k. search (rules, tests)))
