use mathlib.Core.Path.{◌∙◌}
use Rattle.run.proofs.Services.{other_byte, other_width, no_room, all_right}
use borrow.Author.Rules.{rules}
use Rattle.run.proofs.check_cycle.Goals as goal

pub returns-then-not-are_digits : goal.returns-then-not-are_digits
returns-then-not-are_digits c = record { outcome = c.call_refused.ensures.answer ∙ other_byte c.args.signals c.args.taken c.args.digits.now c.are_digits.ensures.answer c.if-not-are_digits.true-raw }

pub returns-then-digits-signals : goal.returns-then-digits-signals
returns-then-digits-signals c = record { outcome = c.call_refused-then-digits-signals.ensures.answer ∙ other_width c.args.signals c.args.taken c.args.digits.now c.are_digits.ensures.answer c.if-not-are_digits.false-raw c.if-digits-signals.true }

pub returns-then-taken-ge256 : goal.returns-then-taken-ge256
returns-then-taken-ge256 c = record { outcome = c.call_refused-then-taken-ge256.ensures.answer ∙ no_room c.args.signals c.args.taken c.args.digits.now c.are_digits.ensures.answer c.if-not-are_digits.false-raw c.if-digits-signals.false (search rules) }

pub returns : goal.returns
returns c = record { outcome = all_right c.args.signals c.args.taken c.args.digits.now c.are_digits.ensures.answer c.if-not-are_digits.false-raw c.if-digits-signals.false (search rules) }
