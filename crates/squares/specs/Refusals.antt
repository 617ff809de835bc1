-- The number and the square that each refusal is reported with (docs/RULES.md, "Refusals").
use Rattle.std.specs.Prelude.{ℕ, Bool, cond, ◌==◌, List, ◌∷◌, ◌++◌, Err, Ok, Result}
use Rattle.std.specs.Fmt.{decimal}
use Prim.Native.Char.{code}
use Rattle.squares.specs.declared.refusal.Refusal.{Refusal}
use Rattle.squares.specs.declared.refusal.Refusal.TheVariants.{TextTooLong, NoSide, NoColor, BadSquare, BadHubByte, NotFifty, Overlap, ManOnPromotionRow, BadMoveText, BeyondLimit, NoSuchSquare, BadPosition, BadGame, GameOver, NoMoveFits, SeveralFit, TooManyMoves, FenTooLong, SpaceTooShort}

abbrev pub number_of : Refusal → ℕ
number_of TextTooLong = 1
number_of NoSide = 2
number_of NoColor = 3
number_of BadSquare = 4
number_of BadHubByte = 5
number_of NotFifty = 6
number_of (Overlap n) = 7
number_of (ManOnPromotionRow n) = 8
number_of BadMoveText = 9
number_of BeyondLimit = 10
number_of NoSuchSquare = 11
number_of BadPosition = 12
number_of BadGame = 13
number_of GameOver = 14
number_of NoMoveFits = 15
number_of SeveralFit = 16
number_of TooManyMoves = 17
number_of FenTooLong = 18
number_of SpaceTooShort = 19

-- the square of 7 and 8, else 0
abbrev pub square_of : Refusal → ℕ
square_of TextTooLong = 0
square_of NoSide = 0
square_of NoColor = 0
square_of BadSquare = 0
square_of BadHubByte = 0
square_of NotFifty = 0
square_of (Overlap n) = n
square_of (ManOnPromotionRow n) = n
square_of BadMoveText = 0
square_of BeyondLimit = 0
square_of NoSuchSquare = 0
square_of BadPosition = 0
square_of BadGame = 0
square_of GameOver = 0
square_of NoMoveFits = 0
square_of SeveralFit = 0
square_of TooManyMoves = 0
square_of FenTooLong = 0
square_of SpaceTooShort = 0

-- the number of an answer: 0 where nothing was refused
abbrev pub answer_number_of : {A : Type 0} → Result A Refusal → ℕ
answer_number_of (Ok x) = 0
answer_number_of (Err e) = number_of e

-- how a refusal is printed: its number, a space and its square
abbrev pub refusal_output : Refusal → List ℕ
refusal_output e = decimal (number_of e) ++ (code " " ∷ decimal (square_of e))

-- the error e, unless a test holds
abbrev pub unless_of : {E : Type 0} → E → Bool → Result Unit E
unless_of e t = cond t (Ok tt) (Err e)

-- the refusal with number n; only 7 and 8 keep the square
abbrev pub refusal_at : ℕ → ℕ → Refusal
refusal_at n square =
    cond (n == 1) TextTooLong
    (cond (n == 2) NoSide
    (cond (n == 3) NoColor
    (cond (n == 4) BadSquare
    (cond (n == 5) BadHubByte
    (cond (n == 6) NotFifty
    (cond (n == 7) (Overlap square)
    (cond (n == 8) (ManOnPromotionRow square)
    (cond (n == 9) BadMoveText
    (cond (n == 10) BeyondLimit
    (cond (n == 11) NoSuchSquare
    (cond (n == 12) BadPosition
    (cond (n == 13) BadGame
    (cond (n == 14) GameOver
    (cond (n == 15) NoMoveFits
    (cond (n == 16) SeveralFit
    (cond (n == 17) TooManyMoves
    (cond (n == 18) FenTooLong
    SpaceTooShort)))))))))))))))))

-- the same for a refusal that has no square
abbrev pub refusal : ℕ → Refusal
refusal n = refusal_at n 0
