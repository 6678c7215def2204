use mathlib.Core.Path.{sym}
use native.Mathlib.Omega.{arith}
use lib.ListN.{length-take}
use borrow.Author.Tests.{not-true, not-false}
use Rattle.tables.proofs.Choices.{know}
use Rattle.text.proofs.Searching.{found}
use Rattle.circuit_line.proofs.NumberLines.{plain_none}
use Rattle.circuit_file.proofs.Headers.{header_short, header_unnamed, header_wrong, header_unequal, header_good, header_within}
use borrow.Author.Rules.{rules}
use Rattle.circuit_file.proofs.read_header.Goals as goal

pub returns-in_default : goal.returns-in_default
returns-in_default c = record { answer = sym (plain_none _ _ (know c.find.ensures.answer c.in_default.is)); within = tt }

pub returns-then-end-lt4 : goal.returns-then-end-lt4
returns-then-end-lt4 c = record { answer = sym (header_short _ (know c.find.ensures.answer c.in-At.is) c.if-end-lt4.true); within = tt }

pub slice_bounds-same-end : goal.slice_bounds-same-end
slice_bounds-same-end c = simp length-take (omega (arith, (found _ _ 0 c.find.ensures.answer c.in-At.is).below))

pub returns-then-not-same : goal.returns-then-not-same
returns-then-not-same c = record { answer = sym (header_unnamed _ (know c.find.ensures.answer c.in-At.is) c.if-end-lt4.false (know c.same.ensures.answer c.if-not-same.true)); within = tt }

pub slice_bounds-read_numbers-end : goal.slice_bounds-read_numbers-end
slice_bounds-read_numbers-end c = omega (arith, (found _ _ 0 c.find.ensures.answer c.in-At.is).below)

pub returns-then-not-numbers : goal.returns-then-not-numbers
returns-then-not-numbers c = record { answer = sym (header_wrong _ (know c.find.ensures.answer c.in-At.is) c.if-end-lt4.false (know c.same.ensures.answer c.if-not-same.false) c.read_numbers-numbers.result c.read_numbers-numbers.ensures.answer (not-true _ c.if-not-numbers.true)); within = tt }

pub overflow_add-values : goal.overflow_add-values
overflow_add-values c = omega (arith, c.read_numbers-numbers.ensures.small 1, c.read_numbers-numbers.ensures.small 2)

pub overflow_add-values-2 : goal.overflow_add-values-2
overflow_add-values-2 c = omega (arith, c.read_numbers-numbers.ensures.small 1, c.read_numbers-numbers.ensures.small 2, c.read_numbers-numbers.ensures.small 4)

pub returns-then-values : goal.returns-then-values
returns-then-values c = record { answer = sym (header_unequal _ (know c.find.ensures.answer c.in-At.is) c.if-end-lt4.false (know c.same.ensures.answer c.if-not-same.false) c.read_numbers-numbers.result c.read_numbers-numbers.ensures.answer (not-false _ c.if-not-numbers.false) (search rules) c.if-values.true); within = tt }

pub overflow_add-result : goal.overflow_add-result
overflow_add-result c = omega (arith, (found _ _ 0 c.find.ensures.answer c.in-At.is).below)

pub returns : goal.returns
returns c = let q = know c.find.ensures.answer c.in-At.is in record { answer = sym (header_good _ q c.if-end-lt4.false (know c.same.ensures.answer c.if-not-same.false) c.read_numbers-numbers.result c.read_numbers-numbers.ensures.answer (not-false _ c.if-not-numbers.false) (search rules) c.if-values.false); within = header_within _ q c.read_numbers-numbers.result.values c.read_numbers-numbers.ensures.small }
