-- A piece without a jump records nothing.
use mathlib.Core.Path.{◌≡◌, refl, sym, ap, ◌∙◌}
use mathlib.Core.Bool.{false}
use mathlib.Core.List.{foldl}
use Prim.Native.Nat.{ℕ, ◌^◌}
use lib.Bits.{bit_or}
use Rattle.squares.proofs.Members.{without_none}
use Rattle.squares.proofs.Sizes.{size_zero}
use Rattle.captures.specs.declared.movegen.Came.TheVariants.{Nowhere}
use Rattle.captures.specs.declared.movegen.Captures.{Captures}
use Rattle.captures.specs.Open.{man_jump, king_jump}
use Rattle.captures.specs.Record.{note_of, record_of}
use Rattle.captures.specs.Walks.{any_up_to}
use Rattle.captures.specs.Men.{set_onto, man_jumps, man_endings, man_captures}
use Rattle.captures.specs.Kings.{skip_of, king_jumps, king_endings, king_captures}

-- nothing is taken
record_none : {N : ℕ} (s : Captures N) (to : ℕ) → record_of s to 0 ≡ s
unfolding record_of
record_none s to = rw size_zero refl

module _ (them empty at : ℕ) where
  pub man_first : any_up_to (man_jumps them empty at 0) 4 ≡ any_up_to (man_jump at them empty) 4
  unfolding any_up_to man_jump
  man_first = rw (without_none them) refl

  pub king_first : any_up_to (king_jumps them empty at 0 (skip_of Nowhere)) 4 ≡ any_up_to (king_jump at them empty) 4
  unfolding any_up_to king_jump skip_of
  king_first = rw (without_none them) refl

pub man_shut : {N : ℕ} (empty : ℕ) (s : Captures N) (at i : ℕ) → at ≡ 2 ^ i → any_up_to (man_jump at s.them (bit_or empty at)) 4 ≡ false → set_onto empty s at ≡ man_captures empty s i
unfolding man_captures man_endings
man_shut empty s at i q e =
    sym (rw (man_first s.them (bit_or empty at) at ∙ e) (record_none (set_onto empty s at) at))
    ∙ ap (λ (a : ℕ). foldl note_of (set_onto empty s a) (man_endings s.them (bit_or empty a) 65 a 0)) q

pub king_shut : {N : ℕ} (empty : ℕ) (s : Captures N) (at i : ℕ) → at ≡ 2 ^ i → any_up_to (king_jump at s.them (bit_or empty at)) 4 ≡ false → set_onto empty s at ≡ king_captures empty s i
unfolding king_captures king_endings
king_shut empty s at i q e =
    sym (rw (king_first s.them (bit_or empty at) at ∙ e) (record_none (set_onto empty s at) at))
    ∙ ap (λ (a : ℕ). foldl note_of (set_onto empty s a) (king_endings s.them (bit_or empty a) 65 a 0 (skip_of Nowhere))) q
