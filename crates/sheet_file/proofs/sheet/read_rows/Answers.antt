use Prim.Native.Nat.{◌-◌}
use mathlib.Core.Path.{◌∙◌}
use native.Mathlib.Omega.{arith}
use Rattle.tables.proofs.Choices.{rest_part}
use Rattle.text.proofs.DigitLines.{digits_within}
use Rattle.sheet_file.proofs.Reading.{rows_start, row_fits, rows_length_lem, rows_wrong, rows_more, rows_end, rows_surplus}
use borrow.Author.Rules.{rules}
use Rattle.sheet_file.proofs.sheet.read_rows.Goals as goal

pub loop-k-init : goal.loop-k-init
loop-k-init c = (rows_start, search rules)

pub returns-in_default : goal.returns-in_default
returns-in_default c = record { answer = c.refuse.ensures.answer ∙ rows_wrong c.loop-k.invariant.0 (search rules) c.digits_line.ensures.answer c.in_default.is }

pub slice_bounds-digits_to_lane-count : goal.slice_bounds-digits_to_lane-count
slice_bounds-digits_to_lane-count c = omega (arith, digits_within _ _ c.digits_line.ensures.within c.in-At.is)

pub slice_bounds-digits_to_lane-start : goal.slice_bounds-digits_to_lane-start
slice_bounds-digits_to_lane-start c = omega (arith, digits_within _ _ c.digits_line.ensures.within c.in-At.is)

pub slice_bounds-digits_to_lane-end : goal.slice_bounds-digits_to_lane-end
slice_bounds-digits_to_lane-end c = omega (arith, digits_within _ _ c.digits_line.ensures.within c.in-At.is)

pub digits_to_lane-requires : goal.digits_to_lane-requires
digits_to_lane-requires c = row_fits _ _ c.digits_line.ensures.within c.in-At.is c.requires.1

pub overflow_add-rest : goal.overflow_add-rest
overflow_add-rest c = omega (arith, digits_within _ _ c.digits_line.ensures.within c.in-At.is)

pub slice_bounds-rest-count : goal.slice_bounds-rest-count
slice_bounds-rest-count c = omega (arith, digits_within _ _ c.digits_line.ensures.within c.in-At.is)

pub slice_bounds-rest-start : goal.slice_bounds-rest-start
slice_bounds-rest-start c = omega (arith, digits_within _ _ c.digits_line.ensures.within c.in-At.is)

pub loop-k-preserved : goal.loop-k-preserved
loop-k-preserved c = let p = rows_more c.loop-k.invariant.0 (search rules) c.digits_line.ensures.answer c.in-At.is c.requires.0 c.digits_to_lane.ensures.answer in
    (rw rest_part p, rows_length_lem p)

pub returns-then-rest-ne0 : goal.returns-then-rest-ne0
returns-then-rest-ne0 c = record { answer = c.refuse-then-rest-ne0.ensures.answer ∙ rows_surplus c.loop-k.invariant.0 (search rules) (λ z. omega arith) }

pub returns : goal.returns
returns c = record { answer = rows_end c.loop-k.invariant.0 (search rules) (search rules) }
