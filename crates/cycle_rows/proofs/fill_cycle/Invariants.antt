use Rattle.tables.specs.declared.row.NormalForm.{NormalForm}
use Rattle.cycle_rows.specs.Steps.{Prepared}
use Rattle.cycle_rows.proofs.Columns.{FilledTo}
use Rattle.cycle_rows.proofs.fill_cycle.Given as goal

abbrev pub invariant-loop-step : goal.invariant-loop-step
invariant-loop-step l = (g : NormalForm) (p : Prepared g l.steps) → FilledTo g p.steps.turn l.initial.cells l.step-index l.cells
