use mathlib.Core.Path.{◌∙◌}
use Rattle.simulator.proofs.Digits.{other_byte, other_inputs, other_latches, all_right}
use Rattle.simulator.proofs.check_digits.Goals as goal

pub returns-then-not-digits : goal.returns-then-not-digits
returns-then-not-digits c = record { answer = c.call_refused.ensures.answer ∙ other_byte c.args.header.inputs c.args.header.latches c.args.inputs.now c.args.latches.now c.are_digits.ensures.answer c.are_digits-2.ensures.answer c.if-not-digits.true }

pub returns-then-inputs-header : goal.returns-then-inputs-header
returns-then-inputs-header c = record { answer = c.call_refused-then-inputs-header.ensures.answer ∙ other_inputs c.args.header.inputs c.args.header.latches c.args.inputs.now c.args.latches.now c.are_digits.ensures.answer c.are_digits-2.ensures.answer c.if-not-digits.false c.if-inputs-header.true }

pub returns-then-latches-header : goal.returns-then-latches-header
returns-then-latches-header c = record { answer = c.call_refused-then-latches-header.ensures.answer ∙ other_latches c.args.header.inputs c.args.header.latches c.args.inputs.now c.args.latches.now c.are_digits.ensures.answer c.are_digits-2.ensures.answer c.if-not-digits.false c.if-inputs-header.false c.if-latches-header.true }

pub returns : goal.returns
returns c = record { answer = all_right c.args.header.inputs c.args.header.latches c.args.inputs.now c.args.latches.now c.are_digits.ensures.answer c.are_digits-2.ensures.answer c.if-not-digits.false c.if-inputs-header.false c.if-latches-header.false }
