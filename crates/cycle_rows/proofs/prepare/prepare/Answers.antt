use Prim.Native.Nat.{suc, ◌+◌, ◌-◌, ◌<◌}
use mathlib.Core.Path.{◌≡◌, refl, sym, ◌∙◌}
use native.Mathlib.Omega.{arith}
use Rattle.normal_form.proofs.FormTables.{row_operands, row_signals}
use Rattle.cycle_rows.proofs.Order.{nexts_none, nexts_at, nexts_room, nexts_skip, nexts_put, others_none, others_room, others_skip, others_put, steps_all}
use borrow.Author.Rules.{rules}
use Rattle.cycle_rows.proofs.prepare.prepare.Goals as goal
use Rattle.cycle_rows.proofs.prepare.prepare.Goals.{After-step_for, After-step_for-then-not-is_next, then-not-is_next, else-not-is_next}

-- there is room for a step more
next_room : (c : After-step_for) → c.loop-k.i < 128
next_room c = nexts_room c.requires (nexts_at c.loop-k.invariant c.loop-k-test.true) (sym c.is_next.ensures.answer ∙ c.if-is_next.true)

other_room : (c : After-step_for-then-not-is_next) → c.loop-k-2.i < 128
other_room c = others_room c.requires c.loop-k-2.invariant (search rules) (sym c.is_next-in-loop-k-2.ensures.answer ∙ c.if-not-is_next.true)

pub loop-k-init : goal.loop-k-init
loop-k-init c = nexts_none refl

pub step_for-requires : goal.step_for-requires
step_for-requires c =
    let h : c.loop-k.k - 1 < c.args.form.rows = omega arith in
    (omega (arith, c.requires.most_rows), (row_operands c.args.form c.requires (c.loop-k.k - 1) h, row_signals c.args.form c.requires (c.loop-k.k - 1) h))

pub offset_bounds-list-i : goal.offset_bounds-list-i
offset_bounds-list-i c = omega (arith, next_room c)

pub bounds-list-i : goal.bounds-list-i
bounds-list-i c = next_room c

pub overflow_add-i : goal.overflow_add-i
overflow_add-i c = omega (arith, next_room c)

pub loop-k-preserved-then-is_next : goal.loop-k-preserved-then-is_next
loop-k-preserved-then-is_next c =
    nexts_put c.step_for.result c.requires (nexts_at c.loop-k.invariant c.loop-k-test.true) (sym c.is_next.ensures.answer ∙ c.if-is_next.true) c.step_for.ensures.step

pub loop-k-preserved : goal.loop-k-preserved
loop-k-preserved c = nexts_skip (nexts_at c.loop-k.invariant c.loop-k-test.true) (sym c.is_next.ensures.answer ∙ c.if-is_next.false)

pub loop-k-2-init : goal.loop-k-2-init
loop-k-2-init c = let e : c.loop-k.k ≡ 0 = omega arith in others_none (rw e at c.loop-k.invariant)

pub step_for-requires-then-not-is_next : goal.step_for-requires-then-not-is_next
step_for-requires-then-not-is_next c =
    let h : c.loop-k-2.k < c.args.form.rows = omega arith in
    (omega (arith, c.requires.most_rows), (row_operands c.args.form c.requires c.loop-k-2.k h, row_signals c.args.form c.requires c.loop-k-2.k h))

pub offset_bounds-list-i-then-not-is_next : goal.offset_bounds-list-i-then-not-is_next
offset_bounds-list-i-then-not-is_next c = omega (arith, other_room c)

pub bounds-list-i-then-not-is_next : goal.bounds-list-i-then-not-is_next
bounds-list-i-then-not-is_next c = other_room c

pub overflow_add-i-then-not-is_next : goal.overflow_add-i-then-not-is_next
overflow_add-i-then-not-is_next c = omega (arith, other_room c)

pub loop-k-2-preserved : goal.loop-k-2-preserved
loop-k-2-preserved c =
    let h : c.loop-k-2.k < c.args.form.rows = omega arith in
    let d : suc c.loop-k-2.k ≡ c.loop-k-2.k + 1 = omega arith in
    elim c.if-not-is_next.branch [
      | then-not-is_next w ↦ rw (w.list-is, w.i-is)
          (rw d at (others_put w.step_for-then-not-is_next.result c.requires c.loop-k-2.invariant h (sym c.is_next-in-loop-k-2.ensures.answer ∙ w.if-not-is_next.true) w.step_for-then-not-is_next.ensures.step))
      | else-not-is_next w ↦ rw (w.list-is, w.i-is) (rw d at (others_skip c.loop-k-2.invariant h (sym c.is_next-in-loop-k-2.ensures.answer ∙ w.if-not-is_next.false)))
    ]

pub returns : goal.returns
returns c =
    let e : c.loop-k-2.k ≡ c.args.form.rows = omega arith in
    record { steps = record { form = c.requires; rows = refl; steps = steps_all c.requires (rw e at c.loop-k-2.invariant) } }
