use mathlib.Core.Path.{◌∙◌}
use native.Mathlib.Omega.{arith}
use Rattle.tables.proofs.Choices.{rest_part}
use Rattle.circuit_line.proofs.Sections.{line_known}
use Rattle.circuit_file.proofs.Reading.{lines_start, numbers_length, taken_length, numbers_used, lines_room, lines_wrong, lines_not, lines_more, lines_end, lines_surplus}
use borrow.Author.Rules.{rules}
use Rattle.circuit_file.proofs.read_lines.Goals as goal

pub loop-k-init : goal.loop-k-init
loop-k-init c = (lines_start, search rules, search rules, search rules)

pub returns-in_default : goal.returns-in_default
returns-in_default c = record { answer = c.refuse.ensures.answer ∙ lines_wrong c.loop-k.invariant.0 (search rules) c.section_of-section.ensures.answer c.width-count.ensures.answer c.read_line.ensures.answer c.in_default.is }

pub bounds-taken-variable : goal.bounds-taken-variable
bounds-taken-variable c = omega (arith, (line_known c.read_line.ensures.within c.in-Line.is).small.0)

pub returns-then-not-is_possible : goal.returns-then-not-is_possible
returns-then-not-is_possible c = record { answer = c.refuse-then-not-is_possible.ensures.answer ∙ lines_not c.loop-k.invariant.0 (search rules) c.section_of-section.ensures.answer c.width-count.ensures.answer c.read_line.ensures.answer c.in-Line.is c.read_line.ensures.within c.is_possible.ensures.answer c.if-not-is_possible.true }

pub overflow_cast-numbers : goal.overflow_cast-numbers
overflow_cast-numbers c = omega (arith, (line_known c.read_line.ensures.within c.in-Line.is).small.0)

pub overflow_cast-numbers-in-loop-k : goal.overflow_cast-numbers-in-loop-k
overflow_cast-numbers-in-loop-k c = omega (arith, (line_known c.read_line.ensures.within c.in-Line.is).small.1)

pub overflow_cast-numbers-in-loop-k-2 : goal.overflow_cast-numbers-in-loop-k-2
overflow_cast-numbers-in-loop-k-2 c = omega (arith, (line_known c.read_line.ensures.within c.in-Line.is).small.2)

pub bounds-numbers-used-in-loop-k-2 : goal.bounds-numbers-used-in-loop-k-2
bounds-numbers-used-in-loop-k-2 c = omega (arith, lines_room c.loop-k.invariant.0 (line_known c.read_line.ensures.within c.in-Line.is) c.width-count.ensures.within.0 c.requires.1)

pub bounds-taken-variable-in-loop-k : goal.bounds-taken-variable-in-loop-k
bounds-taken-variable-in-loop-k c = omega (arith, (line_known c.read_line.ensures.within c.in-Line.is).small.0)

pub slice_bounds-rest-count : goal.slice_bounds-rest-count
slice_bounds-rest-count c = omega (arith, (line_known c.read_line.ensures.within c.in-Line.is).inside)

pub slice_bounds-rest-start : goal.slice_bounds-rest-start
slice_bounds-rest-start c = omega (arith, (line_known c.read_line.ensures.within c.in-Line.is).inside)

pub loop-k-preserved : goal.loop-k-preserved
loop-k-preserved c = let p = lines_more c.loop-k.invariant.0 (search rules) c.section_of-section.ensures.answer c.width-count.ensures.answer c.read_line.ensures.answer c.in-Line.is c.read_line.ensures.within c.is_possible.ensures.answer c.if-not-is_possible.false c.defines.ensures.answer c.width-count.ensures.within.0 c.width-count.ensures.within.1 c.requires.1 in
    (rw rest_part p, numbers_length p, taken_length p, numbers_used p c.requires.1)

pub returns-then-rest-ne0 : goal.returns-then-rest-ne0
returns-then-rest-ne0 c = record { answer = c.refuse-then-rest-ne0.ensures.answer ∙ lines_surplus c.loop-k.invariant.0 (search rules) (λ z. omega arith) }

pub returns : goal.returns
returns c = record { answer = lines_end c.loop-k.invariant.0 (search rules) (search rules) }
