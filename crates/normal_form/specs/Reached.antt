-- "The .. rows that the root reaches", with their signs (01, "Normal form"). Assumes nothing.
use Rattle.std.specs.Prelude.{ℕ}
use Rattle.tables.specs.declared.row.Formula.{Formula}
use Rattle.normal_form.specs.declared.sign.Sign.{Sign}
use Rattle.normal_form.specs.Operand.{OperandOf, row_of}
use Rattle.normal_form.specs.Sign.{operand_sign}

-- row k is reached under sign s: the root is, under the sign of the whole; and the operands of a row that is, under its sign,
-- or under the other one where the row is `not`
pub data Reached (f : Formula) (sign : Sign) : ℕ → Sign → Type 0 where
  root : Reached f sign f.rows sign
  operand : {k : ℕ} {s : Sign} (a : ℕ) → Reached f sign k s → OperandOf (row_of f k) a → Reached f sign a (operand_sign (row_of f k) s)
