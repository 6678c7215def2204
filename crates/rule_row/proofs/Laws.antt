-- What crates above cite of rows: numbers in their ranges are small. Assumes nothing.
use mathlib.Core.Path.{◌≡◌}
use mathlib.Core.Bool.{Bool, true, false}
use Prim.Native.Nat.{ℕ, ◌≤◌, ◌<◌}
use native.Mathlib.Omega.{arith}
use lib.Dec.{leb, ltb, eqb}
use borrow.Author.Tests.{leb-true, ltb-true}
use Rattle.tables.specs.Choice.{pick}
use Rattle.tables.specs.Kind.{first_number, second_number}
use Rattle.tables.specs.declared.row.Row.{Row}
use Rattle.tables.specs.declared.row.Row.TheVariants.{Constant, Signal, Unary, Binary}
use Rattle.tables.proofs.Choices.{clash, pick_both}
use Rattle.rule_row.specs.Row.{is_signal, is_operand, in_range}

pick_no : (t b : Bool) → pick t false b ≡ true → b ≡ true
pick_no true b e = clash (cc)
pick_no false b e = e

pub signal_most : (signals s : ℕ) → is_signal signals s ≡ true → s ≤ signals
signal_most signals s e = leb-true s signals (pick_no (eqb s 0) (leb s signals) e)

pub operand_below : (number a : ℕ) → is_operand number a ≡ true → a < number
operand_below number a e = ltb-true a number (pick_no (eqb a 0) (ltb a number) e)

-- numbers in their ranges lie below any bound that the ranges lie below
pub numbers_below : (signals number bound : ℕ) → signals < bound → number ≤ bound → (r : Row) → in_range signals number r ≡ true → (first_number r < bound) × (second_number r < bound)
numbers_below signals number bound hs hn (Constant k) e = (omega arith, omega arith)
numbers_below signals number bound hs hn (Signal k s) e = (omega (arith, signal_most signals s e), omega arith)
numbers_below signals number bound hs hn (Unary k a) e = (omega (arith, operand_below number a e), omega arith)
numbers_below signals number bound hs hn (Binary k a b) e =
    let w = pick_both (is_operand number a) (is_operand number b) e in
    (omega (arith, operand_below number a w.0), omega (arith, operand_below number b w.1))
