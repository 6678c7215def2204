use mathlib.Core.Path.{◌∙◌}
use native.Mathlib.Omega.{arith}
use lib.ListN.{length-take}
use Rattle.tables.proofs.Choices.{know, rest_part}
use Rattle.text.proofs.Searching.{found}
use Rattle.rule_row.specs.Row.{row_form}
use Rattle.rule_row.proofs.row_form.Goals as goal

pub returns-in_default : goal.returns-in_default
unfolding row_form
returns-in_default c = record { answer = c.form_of.ensures.answer ∙ rw (know c.find.ensures.answer c.in_default.is) }

pub slice_bounds-word-end : goal.slice_bounds-word-end
slice_bounds-word-end c = simp length-take (omega (arith, (found _ _ 0 c.find.ensures.answer c.in-At.is).below))

pub overflow_add-numbers : goal.overflow_add-numbers
overflow_add-numbers c = omega (arith, (found _ _ 0 c.find.ensures.answer c.in-At.is).below)

pub slice_bounds-numbers-count : goal.slice_bounds-numbers-count
slice_bounds-numbers-count c = omega (arith, (found _ _ 0 c.find.ensures.answer c.in-At.is).below)

pub slice_bounds-numbers-start : goal.slice_bounds-numbers-start
slice_bounds-numbers-start c = omega (arith, (found _ _ 0 c.find.ensures.answer c.in-At.is).below)

pub returns-in_default-read_padded : goal.returns-in_default-read_padded
unfolding row_form
returns-in_default-read_padded c = record {
  answer = rw (
    know c.find.ensures.answer c.in-At.is,
    know (rw rest_part at c.find-2.ensures.answer) c.in_default-find.is,
    know (rw
        rest_part at c.read_padded.ensures.answer) c.in_default-read_padded.is,
  );
}

pub returns-in_default-find : goal.returns-in_default-find
unfolding row_form
returns-in_default-find c = record {
  answer = c.form_of-in_default-find.ensures.answer ∙ rw (
    know c.find.ensures.answer c.in-At.is,
    know (rw rest_part at c.find-2.ensures.answer) c.in_default-find.is,
    know (rw
        rest_part at c.read_padded.ensures.answer) c.in-Is.is,
  );
}

pub slice_bounds-read_padded-end : goal.slice_bounds-read_padded-end
slice_bounds-read_padded-end c = simp length-take (omega (arith, simp length-take at (found _ _ 0 c.find-2.ensures.answer c.in-At-find.is).below))

pub returns-in_default-read_padded-2 : goal.returns-in_default-read_padded-2
unfolding row_form
returns-in_default-read_padded-2 c = record {
  answer = rw (
    know c.find.ensures.answer c.in-At.is,
    know (rw rest_part at c.find-2.ensures.answer) c.in-At-find.is,
    know (rw rest_part at c.read_padded-2.ensures.answer) c.in_default-read_padded-2.is,
  );
}

pub overflow_add-between : goal.overflow_add-between
overflow_add-between c =
    omega (arith, (found _ _ 0 c.find-2.ensures.answer c.in-At-find.is).below)

pub slice_bounds-read_padded-count : goal.slice_bounds-read_padded-count
slice_bounds-read_padded-count c =
    omega (arith, (found _ _ 0 c.find-2.ensures.answer c.in-At-find.is).below)

pub slice_bounds-read_padded-start : goal.slice_bounds-read_padded-start
slice_bounds-read_padded-start c =
    omega (arith, (found _ _ 0 c.find-2.ensures.answer c.in-At-find.is).below)

pub returns-in_default-read_padded-3 : goal.returns-in_default-read_padded-3
unfolding row_form
returns-in_default-read_padded-3 c = record {
  answer = rw (
    know c.find.ensures.answer c.in-At.is,
    know (rw rest_part at c.find-2.ensures.answer) c.in-At-find.is,
    know (rw rest_part at c.read_padded-2.ensures.answer) c.in-Is-read_padded.is,
    know (simp rest_part at c.read_padded-3.ensures.answer) c.in_default-read_padded-3.is,
  );
}

pub returns : goal.returns
unfolding row_form
returns c = record {
  answer = c.form_of-2.ensures.answer ∙ rw (
    know c.find.ensures.answer c.in-At.is,
    know (rw rest_part at c.find-2.ensures.answer) c.in-At-find.is,
    know (rw
        rest_part at c.read_padded-2.ensures.answer) c.in-Is-read_padded.is,
    know (simp rest_part at c.read_padded-3.ensures.answer) c.in-Is-read_padded-2.is,
  );
}
