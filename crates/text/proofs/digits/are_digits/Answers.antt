use borrow.Author.Rules.{rules}
use Rattle.text.proofs.DigitLines.{digits_start, digits_more, digits_end}
use Rattle.text.proofs.digits.are_digits.Goals as goal

pub loop-i-init : goal.loop-i-init
loop-i-init c = digits_start _

pub loop-i-preserved : goal.loop-i-preserved
loop-i-preserved c = digits_more c.loop-i.invariant (search rules) c.is_digit-all.ensures.answer

pub returns : goal.returns
returns c = record { answer = digits_end c.loop-i.invariant (search rules) }
