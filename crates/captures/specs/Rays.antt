-- What lies ahead in one direction: the first bit that is not empty, and the landings from near to far (docs/RULES.md,
-- "Jumps", "Quiet moves"). Squares are sets of one bit here.
use Rattle.std.specs.Prelude.{ℕ, zero, suc, cond, List, [], ◌∷◌, eqb}
use Rattle.std.specs.Int.Bits.{bit_and}
use Rattle.squares.specs.Directions.{Direction, direction_at, shifted}
use Rattle.captures.specs.declared.ray.Ray.{Ray}

-- after this many steps every bit has left the 64 bits
unfoldable pub far : ℕ
far = 64

-- s moved on in direction d as long as it meets `empty`, at most n steps
unfoldable pub slide_from : ℕ → Direction → ℕ → ℕ → ℕ
slide_from zero d empty s = s
slide_from (suc n) d empty s = cond (eqb (bit_and s empty) 0) s (slide_from n d empty (shifted d s))

-- the first bit after `from` in direction d that is not in `empty`
unfoldable pub slide_of : Direction → ℕ → ℕ → ℕ
slide_of d empty from = slide_from far d empty (shifted d from)

-- `land` and the empty squares that follow it in direction d, near to far, at most n
unfoldable pub landings : ℕ → Direction → ℕ → ℕ → List ℕ
landings zero d empty land = []
landings (suc n) d empty land = cond (eqb land 0) [] (land ∷ landings n d empty (bit_and (shifted d land) empty))

-- the squares of `within` that follow `from` in direction d, near to far, up to the first that is not in it
abbrev pub ray_of : Direction → ℕ → ℕ → List ℕ
ray_of d within from = landings far d within (bit_and (shifted d from) within)

-- those that a ray has still to give
abbrev pub ray_left : Ray → List ℕ
ray_left r = landings far (direction_at r.d) r.within r.next
