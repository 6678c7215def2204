use mathlib.Core.Path.{ap, ◌∙◌}
use mathlib.Core.Bool.{true}
use Prim.Native.Nat.{◌*◌, ◌-◌}
use native.Mathlib.Omega.{arith}
use lib.ListN.{set}
use Rattle.normal_form.specs.Reach.{marked_down, no_marks, reach}
use Rattle.normal_form.proofs.Operands.{slot_row_fits}
use Rattle.normal_form.proofs.MarkLoop.{down_marked, down_free, down_end}
use borrow.Author.Rules.{rules}
use Rattle.normal_form.proofs.reach.reach.Goals as goal

pub mark_operands-requires : goal.mark_operands-requires
mark_operands-requires c = slot_row_fits c.args.formula c.requires (c.loop-j.j - 1) (omega (arith, c.loop-j.invariant.within))

pub loop-j-preserved-then-marks-j : goal.loop-j-preserved-then-marks-j
loop-j-preserved-then-marks-j c = rw (c.mark_operands.ensures.left, c.sign_of.ensures.answer) (down_marked c.loop-j.invariant (search rules) c.if-marks-j.true)

pub loop-j-preserved : goal.loop-j-preserved
loop-j-preserved c = down_free c.loop-j.invariant (search rules) c.if-marks-j.false

pub returns : goal.returns
unfolding reach
returns c = record { answer = down_end c.loop-j.invariant (search rules) ∙ ap (λ i. marked_down c.args.formula.places (2 * c.args.formula.rows) (set no_marks i true)) c.slot.ensures.answer.0 }
