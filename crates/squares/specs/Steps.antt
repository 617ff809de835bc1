-- What a call of `next` does on the bits of a set, `Members` and `Singles` of src/bitboard.rt.
use Rattle.std.specs.Prelude.{◌≡◌, ℕ, ◌-◌, ◌^◌, ◌<◌, bit_and, MatchOption}
use Rattle.std.specs.declared.option.Option.{Option}
use Rattle.squares.specs.Sets.{lowest}
use Rattle.squares.specs.declared.bitboard.Members.{Members}
use Rattle.squares.specs.declared.bitboard.Singles.{Singles}

-- the lowest bit comes, and the others are left; where none is left, none comes
abbrev pub member_steps : Members → Option ℕ → Members → Type 0
member_steps s r t =
    MatchOption r ((s.0 ≡ 0) × (t ≡ s)) (λ i. (0 < s.0) × (i ≡ lowest s.0) × (t.0 ≡ bit_and s.0 (s.0 - 1)))

-- the same, where the set of the lowest bit alone comes
abbrev pub single_steps : Singles → Option ℕ → Singles → Type 0
single_steps s r t =
    MatchOption r ((s.0 ≡ 0) × (t ≡ s)) (λ x. (0 < s.0) × (x ≡ 2 ^ lowest s.0) × (t.0 ≡ bit_and s.0 (s.0 - 1)))
