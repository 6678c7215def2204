-- Signs, and the slots of rows under them. Assumes nothing.
use Rattle.std.specs.Prelude.{ℕ, ◌+◌, ◌*◌, ◌-◌, ◌%◌, eqb}
use Rattle.tables.specs.Choice.{pick}
use Rattle.tables.specs.Kind.{dual_of}
use Rattle.tables.specs.declared.row.Row.{Row}
use Rattle.normal_form.specs.Operand.{is_not}
use Rattle.normal_form.specs.declared.sign.Sign.{Sign}
use Rattle.normal_form.specs.declared.sign.Sign.TheVariants.{Plain, Negated}

abbrev pub turned : Sign → Sign
turned Plain = Negated
turned Negated = Plain

-- a row taken with a sign: itself, or its dual
abbrev pub signed : Sign → Row → Row
signed Plain r = r
signed Negated r = dual_of r

-- the sign under which a row takes its operands: "Taking a row negated takes its operands negated", and `not` turns the sign
abbrev pub operand_sign : Row → Sign → Sign
operand_sign r s = pick (is_not r) (turned s) s

-- each row has two slots, in rising order of the rows, plain before negated
abbrev pub place : Sign → ℕ
place Plain = 0
place Negated = 1

abbrev pub slot_of : ℕ → Sign → ℕ
slot_of k s = 2 * (k - 1) + place s

-- the sign of a slot
abbrev pub sign_of : ℕ → Sign
sign_of j = pick (eqb (j % 2) 0) Plain Negated
