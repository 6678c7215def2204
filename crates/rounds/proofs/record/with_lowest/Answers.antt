use mathlib.Core.Path.{◌≡◌, refl}
use mathlib.Core.Bool.{Bool, true, false}
use native.Mathlib.Omega.{arith}
use mir.Val.{bool_byte}
use Rattle.tables.specs.Choice.{pick}
use Rattle.tables.proofs.Bits.{digit}
use Rattle.rounds.proofs.record.with_lowest.Goals as goal

-- what a truth value is as a number
number : (on : Bool) → bool_byte on ≡ pick on 1 0
number true = refl
number false = refl

pub overflow_add-result : goal.overflow_add-result
overflow_add-result c = omega (arith, number c.args.on, digit c.args.on)

pub returns : goal.returns
returns c = record { word = rw (number c.args.on) }
