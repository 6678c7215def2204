-- Which rows the root reaches, and under which signs, computed. (Reached.antt says it in words.) Assumes nothing.
use Rattle.std.specs.Prelude.{ℕ, zero, suc, ◌*◌, ◌/◌, Bool, true, false, List, get_or, set, replicate}
use Rattle.tables.specs.Choice.{pick}
use Rattle.tables.specs.declared.row.Row.{Row}
use Rattle.tables.specs.declared.row.Row.TheVariants.{Constant, Signal, Unary, Binary}
use Rattle.tables.specs.declared.row.RowPlace.{RowPlace}
use Rattle.tables.specs.declared.row.Formula.{Formula}
use Rattle.normal_form.specs.declared.sign.Sign.{Sign}
use Rattle.normal_form.specs.Operand.{row_in}
use Rattle.normal_form.specs.Sign.{operand_sign, slot_of, sign_of}

abbrev pub mark : List Bool → ℕ → Sign → List Bool
mark m k s = set m (slot_of k s) true

-- the operands of a row of sign s are marked
abbrev pub operands_marked : Row → Sign → List Bool → List Bool
operands_marked (Constant c) s m = m
operands_marked (Signal c i) s m = m
operands_marked (Unary c a) s m = mark m a (operand_sign (Unary c a) s)
operands_marked (Binary c a b) s m = mark (mark m a s) b s

-- from slot j - 1 down to slot 0: the operands of what is marked are marked
unfoldable pub marked_down : List RowPlace → ℕ → List Bool → List Bool
marked_down ps zero m = m
marked_down ps (suc j) m = marked_down ps j (pick (get_or m j false) (operands_marked (row_in ps (j / 2)) (sign_of j) m) m)

abbrev pub no_marks : List Bool
no_marks = replicate 128 false

-- the slots that the root, taken with a sign, reaches
unfoldable pub reach : Formula → Sign → List Bool
reach f s = marked_down f.places (2 * f.rows) (mark no_marks f.rows s)
