use Prim.Native.Nat.{◌-◌}
use mathlib.Core.Path.{◌∙◌}
use native.Mathlib.Omega.{arith}
use borrow.Author.Rules.{rules}
use Rattle.tables.proofs.Choices.{rest_part}
use Rattle.text.proofs.DigitLines.{digits_within}
use Rattle.take_file.proofs.Reading.{cycles_start, cycles_wrong, cycles_room, cycles_more, cycles_end, cycles_surplus}
use Rattle.take_file.proofs.take.read_cycles.Goals as goal

pub loop-c-init : goal.loop-c-init
loop-c-init c = cycles_start c.empty-words.ensures.none

pub returns-in_default : goal.returns-in_default
returns-in_default c = record { answer = c.refuse.ensures.answer ∙ cycles_wrong c.loop-c.invariant (search rules) c.digits_line.ensures.answer _ c.in_default.is }

pub slice_bounds-put_cycle-count : goal.slice_bounds-put_cycle-count
slice_bounds-put_cycle-count c = omega (arith, digits_within _ _ c.digits_line.ensures.within c.in-At.is)

pub slice_bounds-put_cycle-start : goal.slice_bounds-put_cycle-start
slice_bounds-put_cycle-start c = omega (arith, digits_within _ _ c.digits_line.ensures.within c.in-At.is)

pub slice_bounds-put_cycle-end : goal.slice_bounds-put_cycle-end
slice_bounds-put_cycle-end c = omega (arith, digits_within _ _ c.digits_line.ensures.within c.in-At.is)

pub put_cycle-requires : goal.put_cycle-requires
put_cycle-requires c =
    cycles_room c.loop-c.invariant (search rules) c.digits_line.ensures.answer c.digits_line.ensures.within c.in-At.is c.requires.0 c.requires.1

pub overflow_add-rest : goal.overflow_add-rest
overflow_add-rest c = omega (arith, digits_within _ _ c.digits_line.ensures.within c.in-At.is)

pub slice_bounds-rest-count : goal.slice_bounds-rest-count
slice_bounds-rest-count c = omega (arith, digits_within _ _ c.digits_line.ensures.within c.in-At.is)

pub slice_bounds-rest-start : goal.slice_bounds-rest-start
slice_bounds-rest-start c = omega (arith, digits_within _ _ c.digits_line.ensures.within c.in-At.is)

pub loop-c-preserved : goal.loop-c-preserved
loop-c-preserved c =
    rw rest_part
    (cycles_more c.loop-c.invariant (search rules) c.digits_line.ensures.answer c.digits_line.ensures.within c.in-At.is c.requires.0 c.requires.1 c.put_cycle.ensures.appended)

pub returns-then-rest-ne0 : goal.returns-then-rest-ne0
returns-then-rest-ne0 c = record { answer = c.refuse-then-rest-ne0.ensures.answer ∙ cycles_surplus c.loop-c.invariant (search rules) _ (λ z. omega arith) }

pub returns : goal.returns
returns c = record { answer = cycles_end c.loop-c.invariant (search rules) _ c.lanes_from-lanes.ensures.lanes (search rules) }
