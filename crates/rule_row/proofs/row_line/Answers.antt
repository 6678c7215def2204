use Prim.Native.Nat.{◌+◌}
use Rattle.tables.specs.declared.row.Row.{Row}
use mathlib.Core.Path.{◌∙◌, sym, ap}
use native.Mathlib.Omega.{arith}
use lib.ListN.{length-take}
use Rattle.tables.proofs.Choices.{know}
use Rattle.text.proofs.Lines.{cut_known, keyed_absent, keyed_other, keyed_bad, keyed_good}
use Rattle.rule_row.specs.Row.{form_as, row_line_as}
use Rattle.rule_row.specs.declared.RowLine.TheVariants.{Row as RowRead}
use Rattle.rule_row.proofs.RowValues.{value_formless, value_outside, value_inside, small_numbers}
use Rattle.rule_row.proofs.row_line.Goals as goal

pub returns-in_default : goal.returns-in_default
returns-in_default c = record { answer = sym (keyed_absent _ _ _ (know c.cut_line.ensures.answer c.in_default.is)) }

pub slice_bounds-is_numbered-end : goal.slice_bounds-is_numbered-end
slice_bounds-is_numbered-end c = simp length-take (omega (arith, cut_known _ c.cut_line.ensures.answer c.in-Line.is))

pub returns-then-not-is_numbered : goal.returns-then-not-is_numbered
returns-then-not-is_numbered c = record { answer = sym (keyed_other _ _ _ (know c.cut_line.ensures.answer c.in-Line.is) (know c.is_numbered.ensures.answer c.if-not-is_numbered.true)) }

pub overflow_add-equals : goal.overflow_add-equals
overflow_add-equals c = omega (arith, cut_known _ c.cut_line.ensures.answer c.in-Line.is)

pub slice_bounds-row_form-count : goal.slice_bounds-row_form-count
slice_bounds-row_form-count c = omega (arith, cut_known _ c.cut_line.ensures.answer c.in-Line.is)

pub slice_bounds-row_form-start : goal.slice_bounds-row_form-start
slice_bounds-row_form-start c = omega (arith, cut_known _ c.cut_line.ensures.answer c.in-Line.is)

pub slice_bounds-row_form-end : goal.slice_bounds-row_form-end
slice_bounds-row_form-end c = omega (arith, cut_known _ c.cut_line.ensures.answer c.in-Line.is)

pub returns-in_default-row_form : goal.returns-in_default-row_form
returns-in_default-row_form c = record { answer = sym (keyed_bad _ _ _ (know c.cut_line.ensures.answer c.in-Line.is) (know c.is_numbered.ensures.answer c.if-not-is_numbered.false) (value_formless _ _ _ (sym c.row_form.ensures.answer ∙ ap form_as c.in_default-row_form.is))) }

pub returns-then-not-in_range : goal.returns-then-not-in_range
returns-then-not-in_range c = record {
  answer = sym (keyed_bad _ _ _ (know c.cut_line.ensures.answer c.in-Line.is) (know c.is_numbered.ensures.answer c.if-not-is_numbered.false) (value_outside _ _ _
      (sym c.row_form.ensures.answer ∙ ap form_as c.in-Form.is) (know c.in_range.ensures.answer c.if-not-in_range.true)));
}

pub overflow_add-result : goal.overflow_add-result
overflow_add-result c =
    omega (arith, cut_known _ c.cut_line.ensures.answer c.in-Line.is)

pub returns : goal.returns
returns c = record {
  answer = let i = know c.in_range.ensures.answer c.if-not-in_range.false in
      ap (λ (r : Row). row_line_as (RowRead r (c.in-Line.end + 1))) (c.with_numbers-small.ensures.answer ∙ small_numbers _ _ c.requires.1 c.requires.0 c.in-Form.row c.in-Form.first c.in-Form.second i)
      ∙ sym (keyed_good _ _ _ (know c.cut_line.ensures.answer c.in-Line.is) (know c.is_numbered.ensures.answer c.if-not-is_numbered.false) (value_inside _ _ _ (sym c.row_form.ensures.answer ∙ ap form_as c.in-Form.is) i));
}
