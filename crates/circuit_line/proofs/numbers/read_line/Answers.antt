use mathlib.Core.Path.{sym}
use native.Mathlib.Omega.{arith}
use lib.ListN.{length-take}
use borrow.Author.Tests.{not-true, not-false}
use Rattle.tables.proofs.Choices.{know}
use Rattle.text.proofs.Searching.{found}
use Rattle.circuit_line.proofs.NumberLines.{plain_none, line_wrong, line_good, line_within}
use borrow.Author.Rules.{rules}
use Rattle.circuit_line.proofs.numbers.read_line.Goals as goal

pub returns-in_default : goal.returns-in_default
returns-in_default c = record { answer = sym (plain_none _ _ (know c.find.ensures.answer c.in_default.is)); within = tt }

pub slice_bounds-read_numbers-end : goal.slice_bounds-read_numbers-end
slice_bounds-read_numbers-end c = simp length-take (omega (arith, (found _ _ 0 c.find.ensures.answer c.in-At.is).below))

pub returns-then-not-numbers : goal.returns-then-not-numbers
returns-then-not-numbers c = record { answer = sym (line_wrong _ _ c.read_numbers-numbers.result (know c.find.ensures.answer c.in-At.is) c.read_numbers-numbers.ensures.answer (not-true _ c.if-not-numbers.true)); within = tt }

pub overflow_add-result : goal.overflow_add-result
overflow_add-result c = omega (arith, (found _ _ 0 c.find.ensures.answer c.in-At.is).below)

pub returns : goal.returns
returns c = let q = know c.find.ensures.answer c.in-At.is in let y = not-false _ c.if-not-numbers.false in record { answer = line_good _ _ c.read_numbers-numbers.result q c.read_numbers-numbers.ensures.answer y c.requires.0 c.requires.1 (search rules); within = line_within _ _ c.read_numbers-numbers.result q c.read_numbers-numbers.ensures.answer y c.requires.0 c.requires.1 (search rules) c.read_numbers-numbers.ensures.small c.read_numbers-numbers.ensures.unused }
