-- Rows by their operands. Assumes nothing.
use Rattle.std.specs.Prelude.{ℕ, ◌-◌, ◌≤◌, ◌<◌, ◌≡◌, Bool, false, not, List, ◌⊎◌, get_or}
use Rattle.tables.specs.declared.row.Row.{Row}
use Rattle.tables.specs.declared.row.Row.TheVariants.{Constant, Signal, Unary, Binary}
use Rattle.tables.specs.declared.row.RowPlace.{RowPlace}
use Rattle.tables.specs.declared.row.Formula.{Formula}
use Rattle.meaning.specs.Rows.{positive}
use Rattle.rule_file.specs.Rule.{in_place, unused}

-- the row in place i, whose number is i + 1
abbrev pub row_in : List RowPlace → ℕ → Row
row_in ps i = (get_or ps i (in_place unused)).row

-- the row of number k
abbrev pub row_of : Formula → ℕ → Row
row_of f k = row_in f.places (k - 1)

-- the row is a `not`
abbrev pub is_not : Row → Bool
is_not (Constant c) = false
is_not (Signal c s) = false
is_not (Unary c a) = not (positive c)
is_not (Binary c a b) = false

-- x is an operand of the row
abbrev pub OperandOf : Row → ℕ → Type 0
OperandOf (Constant c) x = ⊥
OperandOf (Signal c s) x = ⊥
OperandOf (Unary c a) x = x ≡ a
OperandOf (Binary c a b) x = (x ≡ a) ⊎ (x ≡ b)

-- "An operand is the number of an earlier row": as the operands of row n have to be
abbrev pub Below : ℕ → Row → Type 0
Below n r = (x : ℕ) → OperandOf r x → (1 ≤ x) × (x < n)

-- the row of the same kind with another number for each operand
abbrev pub with_operands : (ℕ → ℕ) → Row → Row
with_operands g (Constant c) = Constant c
with_operands g (Signal c s) = Signal c s
with_operands g (Unary c a) = Unary c (g a)
with_operands g (Binary c a b) = Binary c (g a) (g b)
