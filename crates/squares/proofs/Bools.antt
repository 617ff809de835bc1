-- A Boolean law is one computed test over all values of its variables.
use Rattle.std.proofs.Common.{◌≡◌, Bool, true, false, not, ◌&&◌, ◌||◌, refl, true≢false}
use mathlib.Core.Bool.{xor, beq, false≢true}

-- ---- conjunctions
pub and_left : (x y : Bool) → (x && y) ≡ true → x ≡ true
and_left true y h = refl
and_left false y h = h

pub and_right : (x y : Bool) → (x && y) ≡ true → y ≡ true
and_right true y h = h
and_right false y h = absurd (false≢true h)

pub and_both : (x y : Bool) → x ≡ true → y ≡ true → (x && y) ≡ true
and_both true y h l = l
and_both false y h l = h

-- ---- negations
pub not_true : (x : Bool) → not x ≡ true → x ≡ false
not_true true h = absurd (false≢true h)
not_true false h = refl

pub not_false : (x : Bool) → not x ≡ false → x ≡ true
not_false true h = refl
not_false false h = absurd (true≢false h)

-- ---- disjunctions
pub or_none : (x y : Bool) → (x || y) ≡ false → (x ≡ false) × (y ≡ false)
or_none true y h = absurd (true≢false h)
or_none false y h = (refl, h)

-- ---- x implies y
unfoldable pub imp : Bool → Bool → Bool
imp x y = not x || y

pub imp_elim : (x y : Bool) → imp x y ≡ true → x ≡ true → y ≡ true
unfolding imp
imp_elim true y h e = h
imp_elim false y h e = absurd (false≢true e)

pub imp_intro : (x y : Bool) → (x ≡ true → y ≡ true) → imp x y ≡ true
unfolding imp
imp_intro true y h = h refl
imp_intro false y h = refl

-- ---- x exactly where y
unfoldable pub iff : Bool → Bool → Bool
iff x y = beq x y

pub iff_eq : (x y : Bool) → iff x y ≡ true → x ≡ y
unfolding iff
iff_eq true true h = refl
iff_eq true false h = absurd (false≢true h)
iff_eq false true h = absurd (false≢true h)
iff_eq false false h = refl

pub eq_iff : (x y : Bool) → x ≡ y → iff x y ≡ true
unfolding iff
eq_iff true true h = refl
eq_iff true false h = absurd (true≢false h)
eq_iff false true h = absurd (false≢true h)
eq_iff false false h = refl

-- two Booleans that follow from each other
pub bool_ext : (x y : Bool) → (x ≡ true → y ≡ true) → (y ≡ true → x ≡ true) → x ≡ y
bool_ext true true f g = refl
bool_ext true false f g = absurd (false≢true (f refl))
bool_ext false true f g = absurd (false≢true (g refl))
bool_ext false false f g = refl

-- what is not so is false
pub not_so : (x : Bool) → (x ≡ true → ⊥) → x ≡ false
not_so true f = absurd (f refl)
not_so false f = refl

-- ---- f at all values of its variables
unfoldable pub every : (Bool → Bool) → Bool
every f = f true && f false

unfoldable pub every2 : (Bool → Bool → Bool) → Bool
every2 f = every (λ a. every (f a))

unfoldable pub every3 : (Bool → Bool → Bool → Bool) → Bool
every3 f = every (λ a. every2 (f a))

unfoldable pub every4 : (Bool → Bool → Bool → Bool → Bool) → Bool
every4 f = every (λ a. every3 (f a))

unfoldable pub every5 : (Bool → Bool → Bool → Bool → Bool → Bool) → Bool
every5 f = every (λ a. every4 (f a))

unfoldable pub every6 : (Bool → Bool → Bool → Bool → Bool → Bool → Bool) → Bool
every6 f = every (λ a. every5 (f a))

unfoldable pub every7 : (Bool → Bool → Bool → Bool → Bool → Bool → Bool → Bool) → Bool
every7 f = every (λ a. every6 (f a))

unfoldable pub every8 : (Bool → Bool → Bool → Bool → Bool → Bool → Bool → Bool → Bool) → Bool
every8 f = every (λ a. every7 (f a))

-- what a computed test opens
unfoldable pub tested : Unit {0}
unfolding every every2 every3 every4 every5 every6 every7 every8 imp iff xor
tested = tt

pub at : (f : Bool → Bool) → every f ≡ true → (x : Bool) → f x ≡ true
unfolding every
at f h true = and_left (f true) (f false) h
at f h false = and_right (f true) (f false) h

pub at2 : (f : Bool → Bool → Bool) → every2 f ≡ true → (a b : Bool) → f a b ≡ true
unfolding every2
at2 f h a = at (f a) (at (λ x. every (f x)) h a)

pub at3 : (f : Bool → Bool → Bool → Bool) → every3 f ≡ true → (a b c : Bool) → f a b c ≡ true
unfolding every3
at3 f h a = at2 (f a) (at (λ x. every2 (f x)) h a)

pub at4 : (f : Bool → Bool → Bool → Bool → Bool) → every4 f ≡ true → (a b c d : Bool) → f a b c d ≡ true
unfolding every4
at4 f h a = at3 (f a) (at (λ x. every3 (f x)) h a)

pub at5 : (f : Bool → Bool → Bool → Bool → Bool → Bool) → every5 f ≡ true → (a b c d e : Bool) → f a b c d e ≡ true
unfolding every5
at5 f h a = at4 (f a) (at (λ x. every4 (f x)) h a)

pub at6 : (f : Bool → Bool → Bool → Bool → Bool → Bool → Bool) → every6 f ≡ true → (a b c d e g : Bool) → f a b c d e g ≡ true
unfolding every6
at6 f h a = at5 (f a) (at (λ x. every5 (f x)) h a)

pub at7 : (f : Bool → Bool → Bool → Bool → Bool → Bool → Bool → Bool) → every7 f ≡ true → (a b c d e g k : Bool) → f a b c d e g k ≡ true
unfolding every7
at7 f h a = at6 (f a) (at (λ x. every6 (f x)) h a)

pub at8 : (f : Bool → Bool → Bool → Bool → Bool → Bool → Bool → Bool → Bool) → every8 f ≡ true → (a b c d e g k l : Bool) → f a b c d e g k l ≡ true
unfolding every8
at8 f h a = at7 (f a) (at (λ x. every7 (f x)) h a)
