use Prim.Native.Nat.{suc, ◌+◌}
use mathlib.Core.Path.{◌≡◌}
use native.Mathlib.Omega.{arith}
use Rattle.cycle_rows.proofs.Steps.{step_taken}
use Rattle.cycle_rows.proofs.Columns.{filled_step, filled_all, step_cells}
use borrow.Author.Rules.{rules}
use Rattle.cycle_rows.proofs.fill_cycle.Goals as goal

pub bounds-cells-step : goal.bounds-cells-step
bounds-cells-step c =
    rw (step_taken _ _ _ c.loop-step-test.true)
    (step_cells c.requires.1.form c.requires.1.steps c.loop-step.step-index (omega (arith, c.requires.1.rows))).1

pub bounds-cells-step-in-loop-step : goal.bounds-cells-step-in-loop-step
bounds-cells-step-in-loop-step c =
    rw (step_taken _ _ _ c.loop-step-test.true)
    (step_cells c.requires.1.form c.requires.1.steps c.loop-step.step-index (omega (arith, c.requires.1.rows))).2

pub loop-step-preserved : goal.loop-step-preserved
loop-step-preserved c = λ g p.
    let d : suc c.loop-step.step-index ≡ c.loop-step.step-index + 1 = omega arith in
    rw (step_taken _ _ _ c.loop-step-test.true, ← d) (filled_step p.form p.steps (search rules) (omega (arith, p.rows)) (c.loop-step.invariant g p))

pub returns : goal.returns
returns c = record { filled = λ g p. filled_all p.form p.steps (omega (arith, p.rows, p.form.most_rows)) (c.loop-step.invariant g p) }
