use mathlib.Core.Path.{sym}
use native.Mathlib.Omega.{arith}
use lib.ListN.{length-take}
use Rattle.tables.proofs.Choices.{know}
use Rattle.text.proofs.Counts.{value_no_number, value_below, value_above, value_within}
use Rattle.text.proofs.Lines.{cut_known, keyed_absent, keyed_other, keyed_bad, keyed_good}
use Rattle.text.proofs.line.count_line.Goals as goal

pub returns-in_default : goal.returns-in_default
returns-in_default c = record { answer = sym (keyed_absent _ _ _ (know c.cut_line.ensures.answer c.in_default.is)) }

pub slice_bounds-same-end : goal.slice_bounds-same-end
slice_bounds-same-end c = simp length-take (omega (arith, cut_known _ c.cut_line.ensures.answer c.in-Line.is))

pub returns-then-not-same : goal.returns-then-not-same
returns-then-not-same c = record { answer = sym (keyed_other _ _ _ (know c.cut_line.ensures.answer c.in-Line.is) (know c.same.ensures.answer c.if-not-same.true)) }

pub overflow_add-equals : goal.overflow_add-equals
overflow_add-equals c = omega (arith, cut_known _ c.cut_line.ensures.answer c.in-Line.is)

pub slice_bounds-read_padded-count : goal.slice_bounds-read_padded-count
slice_bounds-read_padded-count c = omega (arith, cut_known _ c.cut_line.ensures.answer c.in-Line.is)

pub slice_bounds-read_padded-start : goal.slice_bounds-read_padded-start
slice_bounds-read_padded-start c = omega (arith, cut_known _ c.cut_line.ensures.answer c.in-Line.is)

pub slice_bounds-read_padded-end : goal.slice_bounds-read_padded-end
slice_bounds-read_padded-end c = omega (arith, cut_known _ c.cut_line.ensures.answer c.in-Line.is)

pub returns-in_default-read_padded : goal.returns-in_default-read_padded
returns-in_default-read_padded c = record { answer = sym (keyed_bad _ _ _ (know c.cut_line.ensures.answer c.in-Line.is) (know c.same.ensures.answer c.if-not-same.false) (value_no_number _ _ _ _ (know c.read_padded.ensures.answer c.in_default-read_padded.is))) }

pub returns-then-n-low : goal.returns-then-n-low
returns-then-n-low c = record { answer = sym (keyed_bad _ _ _ (know c.cut_line.ensures.answer c.in-Line.is) (know c.same.ensures.answer c.if-not-same.false) (value_below c.args.low _ _ _ (know c.read_padded.ensures.answer c.in-Is.is) c.if-n-low.true)) }

pub returns-then-high-n : goal.returns-then-high-n
returns-then-high-n c = record { answer = sym (keyed_bad _ _ _ (know c.cut_line.ensures.answer c.in-Line.is) (know c.same.ensures.answer c.if-not-same.false) (value_above _ _ _ _ (know c.read_padded.ensures.answer c.in-Is.is) c.if-n-low.false c.if-high-n.true)) }

pub overflow_add-result : goal.overflow_add-result
overflow_add-result c = omega (arith, cut_known _ c.cut_line.ensures.answer c.in-Line.is)

pub returns : goal.returns
returns c = record { answer = sym (keyed_good _ _ _ (know c.cut_line.ensures.answer c.in-Line.is) (know c.same.ensures.answer c.if-not-same.false) (value_within _ c.args.high _ _ (know c.read_padded.ensures.answer c.in-Is.is) c.if-n-low.false c.if-high-n.false)) }
