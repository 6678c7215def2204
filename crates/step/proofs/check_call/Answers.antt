use mathlib.Core.Path.{◌∙◌}
use native.Mathlib.Omega.{arith}
use Rattle.step.proofs.Checks.{measured, other_byte, other_signals, other_sizes, too_short_lem, all_right}
use Rattle.step.proofs.check_call.Goals as goal

pub returns-then-not-digits : goal.returns-then-not-digits
returns-then-not-digits c = record {
  answer = c.call_refused.ensures.answer ∙ other_byte c.args.form c.args.given.now c.args.activators.now c.args.signals.now c.args.room c.are_digits.ensures.answer c.are_digits-2.ensures.answer c.are_digits-3.ensures.answer
      c.if-not-digits.true;
}

pub returns-then-not-count : goal.returns-then-not-count
returns-then-not-count c = record {
  answer = c.call_refused-then-not-count.ensures.answer ∙ other_signals c.args.form c.args.given.now c.args.activators.now c.args.signals.now c.args.room c.are_digits.ensures.answer c.are_digits-2.ensures.answer c.are_digits-3.ensures.answer
      c.if-not-digits.false c.if-not-count.true;
}

pub returns-then-not-sizes : goal.returns-then-not-sizes
returns-then-not-sizes c = record {
  answer = let sizes = measured c.args.form c.args.given.now c.args.activators.now c.args.signals.now c.args.room c.state_size.ensures.answer
      c.if-not-sizes.true in
      c.call_refused-then-not-sizes.ensures.answer ∙ other_sizes c.args.form c.args.given.now c.args.activators.now c.args.signals.now c.args.room c.are_digits.ensures.answer c.are_digits-2.ensures.answer c.are_digits-3.ensures.answer
      c.if-not-digits.false c.if-not-count.false sizes;
}

pub returns-then-room-output_size : goal.returns-then-room-output_size
returns-then-room-output_size c = record {
  answer = let sizes = measured c.args.form c.args.given.now c.args.activators.now c.args.signals.now c.args.room c.state_size.ensures.answer
      c.if-not-sizes.false in
      c.call_refused-then-room-output_size.ensures.answer ∙ too_short_lem c.args.form c.args.given.now c.args.activators.now c.args.signals.now c.args.room c.are_digits.ensures.answer c.are_digits-2.ensures.answer c.are_digits-3.ensures.answer
      c.if-not-digits.false c.if-not-count.false sizes
      (omega (arith, c.output_size.ensures.answer, c.if-room-output_size.true));
}

pub returns : goal.returns
returns c = record {
  answer = let sizes = measured c.args.form c.args.given.now c.args.activators.now c.args.signals.now c.args.room c.state_size.ensures.answer
      c.if-not-sizes.false in
      all_right c.args.form c.args.given.now c.args.activators.now c.args.signals.now c.args.room c.are_digits.ensures.answer c.are_digits-2.ensures.answer c.are_digits-3.ensures.answer
      c.if-not-digits.false c.if-not-count.false sizes
      (omega (arith, c.output_size.ensures.answer, c.if-room-output_size.false));
}
