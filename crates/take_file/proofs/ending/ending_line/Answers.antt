use mathlib.Core.Path.{sym}
use native.Mathlib.Omega.{arith}
use lib.ListN.{length-take}
use Rattle.tables.proofs.Choices.{know}
use Rattle.text.proofs.Lines.{cut_known, keyed_absent, keyed_other, keyed_bad, keyed_good}
use Rattle.take_file.proofs.Endings.{ending_none, ending_formless, ending_beyond, ending_loop}
use borrow.Author.Rules.{rules}
use Rattle.take_file.proofs.ending.ending_line.Goals as goal

pub returns-in_default : goal.returns-in_default
returns-in_default c = record { answer = sym (keyed_absent _ _ _ (know c.cut_line.ensures.answer c.in_default.is)) }

pub slice_bounds-same-end : goal.slice_bounds-same-end
slice_bounds-same-end c = simp length-take (omega (arith, cut_known _ c.cut_line.ensures.answer c.in-Line.is))

pub returns-then-not-same : goal.returns-then-not-same
returns-then-not-same c = record { answer = sym (keyed_other _ _ _ (know c.cut_line.ensures.answer c.in-Line.is) (know c.same.ensures.answer c.if-not-same.true)) }

pub overflow_add-value : goal.overflow_add-value
overflow_add-value c = omega (arith, cut_known _ c.cut_line.ensures.answer c.in-Line.is)

pub slice_bounds-value-count : goal.slice_bounds-value-count
slice_bounds-value-count c = omega (arith, cut_known _ c.cut_line.ensures.answer c.in-Line.is)

pub slice_bounds-value-start : goal.slice_bounds-value-start
slice_bounds-value-start c = omega (arith, cut_known _ c.cut_line.ensures.answer c.in-Line.is)

pub slice_bounds-value-end : goal.slice_bounds-value-end
slice_bounds-value-end c = omega (arith, cut_known _ c.cut_line.ensures.answer c.in-Line.is)

pub overflow_add-result : goal.overflow_add-result
overflow_add-result c =
    omega (arith, cut_known _ c.cut_line.ensures.answer c.in-Line.is)

pub returns-then-same : goal.returns-then-same
returns-then-same c = record { answer = sym (keyed_good _ _ _ (know c.cut_line.ensures.answer c.in-Line.is) (know c.same.ensures.answer c.if-not-same.false) (ending_none _ _ (know c.same-2.ensures.answer c.if-same.true))) }

pub returns-in_default-read_padded : goal.returns-in_default-read_padded
returns-in_default-read_padded c = record {
  answer = sym (keyed_bad _ _ _ (know c.cut_line.ensures.answer c.in-Line.is) (know c.same.ensures.answer c.if-not-same.false) (ending_formless _ _ (know
      c.same-2.ensures.answer c.if-same.false) (know c.read_padded.ensures.answer c.in_default-read_padded.is)));
}

pub returns-then-cycles-cycle : goal.returns-then-cycles-cycle
returns-then-cycles-cycle c = record {
  answer = sym (keyed_bad _ _ _ (know c.cut_line.ensures.answer c.in-Line.is) (know c.same.ensures.answer c.if-not-same.false) (ending_beyond _ _ (know
      c.same-2.ensures.answer c.if-same.false) (know c.read_padded.ensures.answer c.in-Is.is) (search rules)));
}

pub overflow_add-result-2 : goal.overflow_add-result-2
overflow_add-result-2 c =
    omega (arith, cut_known _ c.cut_line.ensures.answer c.in-Line.is)

pub returns : goal.returns
returns c = record {
  answer = sym (keyed_good _ _ _ (know c.cut_line.ensures.answer c.in-Line.is) (know c.same.ensures.answer c.if-not-same.false) (ending_loop _ _ (know
      c.same-2.ensures.answer c.if-same.false) (know c.read_padded.ensures.answer c.in-Is.is) (omega arith)));
}
