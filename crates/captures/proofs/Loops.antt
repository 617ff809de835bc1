-- The loops over the pieces: one piece's search is one step of a fold over the members of the set.
use mathlib.Core.Path.{◌≡◌, ap, ◌∙◌}
use mathlib.Core.List.{foldl}
use Prim.Native.Nat.{ℕ, ◌^◌, ◌<◌, suc-le-suc}
use lib.Bits.{bit_or}
use Rattle.squares.specs.Sets.{size, without}
use Rattle.squares.proofs.Sizes.{size_most}
use Rattle.captures.specs.declared.movegen.Came.TheVariants.{Nowhere}
use Rattle.captures.specs.declared.movegen.Captures.{Captures}
use Rattle.captures.specs.Record.{note_of}
use Rattle.captures.specs.Men.{set_onto, man_endings, Man, man_captures}
use Rattle.captures.specs.Kings.{skip_of, king_endings, King, king_captures}

pub few_enemies : (s : ℕ) → size s < 65
few_enemies s = suc-le-suc (size_most s)

pub man_turn : {N : ℕ} (empty : ℕ) (s r : Captures N) (at i : ℕ) → at ≡ 2 ^ i → Man note_of s.them (bit_or empty at) (set_onto empty s at) at 0 r → r ≡ man_captures empty s i
unfolding man_captures
man_turn empty s r at i q m =
    m.found 65 (few_enemies (without s.them 0)) ∙ ap (λ (a : ℕ). foldl note_of (set_onto empty s a) (man_endings s.them (bit_or empty a) 65 a 0)) q

pub king_turn : {N : ℕ} (empty : ℕ) (s r : Captures N) (at i : ℕ) → at ≡ 2 ^ i → King note_of s.them (bit_or empty at) (set_onto empty s at) at 0 (skip_of Nowhere) r → r ≡ king_captures empty s i
unfolding king_captures
king_turn empty s r at i q m =
    m.found 65 (few_enemies (without s.them 0)) ∙ ap (λ (a : ℕ). foldl note_of (set_onto empty s a) (king_endings s.them (bit_or empty a) 65 a 0 (skip_of Nowhere))) q
