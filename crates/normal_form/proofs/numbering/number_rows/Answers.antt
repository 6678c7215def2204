use mathlib.Core.Path.{refl}
use native.Mathlib.Omega.{arith}
use mathlib.Core.Path.{◌≡◌}
use mathlib.Core.Bool.{true, false}
use Prim.Native.Nat.{◌/◌}
use borrow.Author.Rules.{rules}
use Rattle.tables.specs.Kind.{first_number}
use Rattle.tables.specs.declared.row.Row.{Row}
use Rattle.normal_form.specs.Operand.{row_in, is_not}
use Rattle.normal_form.specs.Sign.{turned}
use Rattle.normal_form.specs.Numbering.{number_in}
use Rattle.normal_form.proofs.Operands.{slot_row_fits, unary_below, alike_signed, alike_operand}
use Rattle.normal_form.proofs.NumberLoop.{list_start, list_room, list_free, list_shared, list_own, list_end}
use Rattle.normal_form.proofs.numbering.number_rows.Goals as goal
use Rattle.normal_form.proofs.numbering.number_rows.Goals.{then-marks-j+in-Unary-Not-default, then-marks-j+in_default, in_default-via-in-Unary+in_default, in_default-via-in_default, else-marks-j}

pub loop-j-init : goal.loop-j-init
loop-j-init c = list_start _ _ _

pub number_in-requires : goal.number_in-requires
number_in-requires c =
    let b = unary_below (slot_row_fits c.args.formula c.requires c.loop-j.j (omega arith)) c.in-Unary-Not-default.is in
    record { some = b.0; most = omega (arith, b.1) }

pub renumber-requires : goal.renumber-requires
renumber-requires c = λ x o.
    let row = row_in c.args.formula.places (c.loop-j.j / 2) in
    slot_row_fits c.args.formula c.requires c.loop-j.j (omega arith) x
    (alike_operand (alike_signed c.sign_of-sign.result row) x (rw c.signed_row.ensures.answer at o))

pub bounds-places-rows : goal.bounds-places-rows
bounds-places-rows c = omega (arith, list_room c.loop-j.invariant, c.requires.most_rows)

pub overflow_add-rows : goal.overflow_add-rows
overflow_add-rows c = omega (arith, list_room c.loop-j.invariant, c.requires.most_rows)

pub loop-j-preserved : goal.loop-j-preserved
loop-j-preserved c =
    let few = c.requires.most_rows in
    let below = slot_row_fits c.args.formula c.requires c.loop-j.j (omega arith) in
    let row : Row = row_in c.args.formula.places (c.loop-j.j / 2) in
    elim c.if-marks-j.branch [
      | then-marks-j+in-Unary-Not-default w ↦
          let z : is_not row ≡ true = search rules in
          let e : w.number_in.result ≡ number_in c.loop-j.numbers (first_number row) (turned w.sign_of-sign.result) = rw (w.in-Unary-Not-default.is, w.number_in.ensures.answer, w.turned.ensures.answer) in
          rw (w.places-is, w.numbers-is, w.rows-is) (list_shared c.loop-j.invariant (omega arith) (omega arith) w.if-marks-j.true refl w.sign_of-sign.ensures.answer below z e)
      | then-marks-j+in_default w ↦
          let z : is_not row ≡ false = elim w.in_default.branch [ in_default-via-in-Unary+in_default x ↦ search rules | in_default-via-in_default x ↦ search rules ] in
          rw (w.places-is, w.numbers-is, w.rows-is) (list_own c.loop-j.invariant (omega arith) (omega arith) w.if-marks-j.true refl w.sign_of-sign.ensures.answer below z (rw w.signed_row.ensures.answer at w.renumber.ensures.answer))
      | else-marks-j w ↦ rw (w.places-is, w.numbers-is, w.rows-is) (list_free c.loop-j.invariant (omega arith) (omega arith) w.if-marks-j.false)
    ]

pub returns : goal.returns
returns c = record { answer = list_end c.loop-j.invariant c.args.formula.signals (omega arith) }
