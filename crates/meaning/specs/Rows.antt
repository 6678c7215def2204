-- What is said of a row's operands and of its signal, and which tables a formula is: rows that name earlier rows. Assumes nothing.
use Rattle.std.specs.Prelude.{ℕ, ◌<◌, ◌≡◌, Bool, true, false}
use Rattle.tables.specs.declared.row.UnaryKind.{UnaryKind}
use Rattle.tables.specs.declared.row.UnaryKind.TheVariants.{Not, Next, Always, Ever}
use Rattle.tables.specs.declared.row.Row.{Row}
use Rattle.tables.specs.declared.row.Row.TheVariants.{Constant, Signal, Unary, Binary}
use Rattle.meaning.specs.Satisfaction.{Table}

-- P of each operand
abbrev pub Each {ℓ} : (ℕ → Type ℓ) → Row → Type ℓ
Each P (Constant c) = Unit {ℓ}
Each P (Signal c s) = Unit {ℓ}
Each P (Unary c a) = P a
Each P (Binary c a b) = P a × P b

-- P of the signal, where the row names one
abbrev pub EachSignal : (ℕ → Type 0) → Row → Type 0
EachSignal P (Constant c) = Unit {0}
EachSignal P (Signal c s) = P s
EachSignal P (Unary c a) = Unit {0}
EachSignal P (Binary c a b) = Unit {0}

-- each of the rows below n has operands below itself; rows count from 1, so a formula of m rows has them below m + 1
abbrev pub Ordered : ℕ → Table → Type 0
Ordered n t = (k : ℕ) → k < n → Each (λ a. a < k) (t k)

-- the kinds of one operand that are not its negation
abbrev pub positive : UnaryKind → Bool
positive Not = false
positive Next = true
positive Always = true
positive Ever = true

-- no `not` row, as in a normal form
abbrev pub Positive : Row → Type 0
Positive (Constant c) = Unit {0}
Positive (Signal c s) = Unit {0}
Positive (Unary c a) = positive c ≡ true
Positive (Binary c a b) = Unit {0}
