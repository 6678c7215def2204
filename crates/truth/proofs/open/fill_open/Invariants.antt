use Prim.Native.Nat.{ℕ, suc, ◌≤◌}
use Rattle.meaning.specs.Satisfaction.{table_of}
use Rattle.lanes.specs.Truth.{bit_in}
use Rattle.row_lanes.specs.Pass.{CyclesOf}
use Rattle.truth.proofs.Filling.{FilledTo}
use Rattle.truth.proofs.open.fill_open.Given as goal

abbrev pub invariant-loop-k : goal.invariant-loop-k
invariant-loop-k l = (n : ℕ) → n ≤ 256 → CyclesOf n l.all → FilledTo n (bit_in l.signals) (table_of l.form.places) (suc l.form.rows) l.k l.rows
