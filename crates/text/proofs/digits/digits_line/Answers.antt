use mathlib.Core.Path.{sym}
use native.Mathlib.Omega.{arith}
use lib.ListN.{length-take}
use Rattle.tables.proofs.Choices.{know}
use Rattle.text.proofs.Searching.{found}
use Rattle.text.proofs.DigitCuts.{no_sign, other_key, too_short_lem, no_feed, no_digits, good_line}
use borrow.Author.Rules.{rules}
use Rattle.text.proofs.digits.digits_line.Goals as goal

pub returns-in_default : goal.returns-in_default
returns-in_default c = record { answer = sym (no_sign _ _ _ _ (know c.in_default.is c.find.ensures.answer)); within = tt }

pub slice_bounds-is_numbered-end : goal.slice_bounds-is_numbered-end
slice_bounds-is_numbered-end c = simp length-take (omega (arith, (found _ _ 0 c.find.ensures.answer c.in-At.is).below))

pub returns-then-not-is_numbered : goal.returns-then-not-is_numbered
returns-then-not-is_numbered c = record { answer = sym (other_key _ _ _ _ (know c.in-At.is c.find.ensures.answer) (know c.is_numbered.ensures.answer c.if-not-is_numbered.true)); within = tt }

pub overflow_add-from : goal.overflow_add-from
overflow_add-from c = omega (arith, (found _ _ 0 c.find.ensures.answer c.in-At.is).below)

pub overflow_sub-rest : goal.overflow_sub-rest
overflow_sub-rest c = omega (arith, (found _ _ 0 c.find.ensures.answer c.in-At.is).below)

pub returns-then-rest-from : goal.returns-then-rest-from
returns-then-rest-from c = record { answer = sym (too_short_lem _ _ _ _ (know c.in-At.is c.find.ensures.answer) (know c.is_numbered.ensures.answer c.if-not-is_numbered.false) c.if-rest-from.true); within = tt }

pub returns-then-rest-end-ne10 : goal.returns-then-rest-end-ne10
returns-then-rest-end-ne10 c = record { answer = sym (no_feed _ _ _ _ (know c.in-At.is c.find.ensures.answer) (know c.is_numbered.ensures.answer c.if-not-is_numbered.false) c.if-rest-end-ne10.true); within = tt }

pub returns-then-not-are_digits : goal.returns-then-not-are_digits
returns-then-not-are_digits c = record { answer = sym (no_digits _ _ _ _ (know c.in-At.is c.find.ensures.answer) (know c.is_numbered.ensures.answer c.if-not-is_numbered.false) (know c.are_digits.ensures.answer c.if-not-are_digits.true)); within = tt }

pub returns : goal.returns
returns c = record { answer = sym (good_line _ _ _ _ (know c.in-At.is c.find.ensures.answer) (know c.is_numbered.ensures.answer c.if-not-is_numbered.false) c.requires (omega (arith, c.if-rest-from.false)) c.if-rest-end-ne10.false (know c.are_digits.ensures.answer c.if-not-are_digits.false)); within = (search rules, omega (arith, c.if-rest-from.false)) }
