use Rattle.text.proofs.Numbers.{digits_long, digits_start, digits_bound, digits_end}
use borrow.Author.Rules.{rules}
use native.Mathlib.Omega.{arith}
use Rattle.text.proofs.Numbers.{digit_low, digit_high, digit}
use Rattle.text.proofs.number.read_digits.Goals as goal

pub returns-then-s-gt5 : goal.returns-then-s-gt5
returns-then-s-gt5 c = record { answer = digits_long _ c.if-s-gt5.true }

pub loop-i-init : goal.loop-i-init
loop-i-init c = digits_start _ c.if-s-gt5.false

pub returns-then-d-lt48 : goal.returns-then-d-lt48
returns-then-d-lt48 c = record { answer = digit_low c.loop-i.invariant (search rules) c.if-d-lt48.true }

pub returns-then-d-gt57 : goal.returns-then-d-gt57
returns-then-d-gt57 c = record { answer = digit_high c.loop-i.invariant (search rules) c.if-d-lt48.false c.if-d-gt57.true }

pub overflow_mul-value : goal.overflow_mul-value
overflow_mul-value c = omega (arith, digits_bound c.loop-i.invariant)

pub overflow_add-value : goal.overflow_add-value
overflow_add-value c = omega (arith, digits_bound c.loop-i.invariant)

pub loop-i-preserved : goal.loop-i-preserved
loop-i-preserved c = digit c.loop-i.invariant (search rules) c.if-d-lt48.false c.if-d-gt57.false

pub returns : goal.returns
returns c = record { answer = digits_end c.loop-i.invariant (search rules) }
