use Prim.Native.Nat.{ℕ, ◌≤◌}
use mathlib.Core.Path.{◌≡◌}
use Rattle.tables.specs.declared.row.NormalForm.{NormalForm}
use Rattle.cycle_rows.specs.Cells.{row_cell}
use Rattle.cycle_rows.specs.Steps.{Prepared}
use Rattle.rounds.specs.Rounds.{Columns}
use Rattle.rounds.specs.Recorded.{RecordedFrom, RoundBack, given_from}
use Rattle.rounds.proofs.round.go_back.Given as goal

abbrev pub invariant-loop-c : goal.invariant-loop-c
invariant-loop-c l = (l.from ≤ l.c) × ((g : NormalForm) → Prepared g l.steps → (n : ℕ) (later : Columns) → l.to ≤ n → later l.to ≡ row_cell l.initial.cells
    → RecordedFrom g.rows n l.to l.initial.words later → RoundBack g (given_from l.digits) n l.c l.to later (row_cell l.cells) l.words)
