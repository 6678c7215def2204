use Prim.Native.Nat.{◌-◌}
use native.Mathlib.Omega.{arith}
use lib.ListN.{length-take}
use Rattle.tables.proofs.Choices.{know, rest_part}
use Rattle.text.proofs.Searching.{found}
use Rattle.circuit_line.proofs.NumberLists.{numbers_start, no_space, no_number_lem, numbers_more, no_last, numbers_wrong, numbers_right}
use borrow.Author.Rules.{rules}
use Rattle.circuit_line.proofs.numbers.read_numbers.Goals as goal

pub loop-k-init : goal.loop-k-init
loop-k-init c = (numbers_start _ _ c.requires.0 c.requires.1, search rules)

pub returns-in_default : goal.returns-in_default
returns-in_default c = let both = numbers_wrong _ _ c.wrong.ensures.answer (no_space c.loop-k.invariant.0 (search rules) (know c.find.ensures.answer c.in_default.is)) in record { answer = both.0; small = both.1.0; unused = both.1.1 }

pub slice_bounds-read_number-end : goal.slice_bounds-read_number-end
slice_bounds-read_number-end c = simp length-take (omega (arith, (found _ _ 0 c.find.ensures.answer c.in-At.is).below))

pub returns-in_default-read_number : goal.returns-in_default-read_number
returns-in_default-read_number c = let both = numbers_wrong _ _ c.wrong-in_default-read_number.ensures.answer (no_number_lem c.loop-k.invariant.0 (search rules) (know c.find.ensures.answer c.in-At.is) (know c.read_number.ensures.answer c.in_default-read_number.is)) in record { answer = both.0; small = both.1.0; unused = both.1.1 }

pub bounds-values-k : goal.bounds-values-k
bounds-values-k c = omega (arith, c.loop-k.invariant.0.short)

pub overflow_add-rest : goal.overflow_add-rest
overflow_add-rest c = omega (arith, (found _ _ 0 c.find.ensures.answer c.in-At.is).below)

pub slice_bounds-rest-count : goal.slice_bounds-rest-count
slice_bounds-rest-count c = omega (arith, (found _ _ 0 c.find.ensures.answer c.in-At.is).below)

pub slice_bounds-rest-start : goal.slice_bounds-rest-start
slice_bounds-rest-start c = omega (arith, (found _ _ 0 c.find.ensures.answer c.in-At.is).below)

pub loop-k-preserved : goal.loop-k-preserved
loop-k-preserved c = let p = numbers_more c.loop-k.invariant.0 (search rules) (know c.find.ensures.answer c.in-At.is) (know c.read_number.ensures.answer c.in-Is.is) in
    (rw rest_part p, p.sized)

pub returns-in_default-read_number-2 : goal.returns-in_default-read_number-2
returns-in_default-read_number-2 c = let both = numbers_wrong _ _ c.wrong-in_default-read_number-2.ensures.answer (no_last c.loop-k.invariant.0 (search rules) (know c.read_number-2.ensures.answer c.in_default-read_number-2.is)) in record { answer = both.0; small = both.1.0; unused = both.1.1 }

pub bounds-values-k-2 : goal.bounds-values-k-2
bounds-values-k-2 c = omega (arith, c.loop-k.invariant.0.short, c.loop-k.invariant.0.within)

pub returns : goal.returns
returns c = let both = numbers_right c.loop-k.invariant.0 (search rules) (know c.read_number-2.ensures.answer c.in-Is-read_number.is) in record { answer = both.0; small = both.1.0; unused = both.1.1 }
