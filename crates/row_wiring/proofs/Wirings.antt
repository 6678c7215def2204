-- A row's own literals are those of the circuit. Assumes nothing.
use Prim.Native.Nat.{ℕ}
use mathlib.Core.Path.{◌≡◌, refl}
use Rattle.tables.specs.declared.row.NormalForm.{NormalForm}
use Rattle.monitor_circuit.specs.Monitors.{activator_literal, gate_literal, state_literals}
use Rattle.row_wiring.specs.Own.{own_of}

pub own_literals : (g : NormalForm) (k : ℕ)
    → own_of g.signals g.rows k ≡ record {
      activator = activator_literal g k;
      latch = (state_literals g).pending k;
      first = gate_literal g 1 k;
      second = gate_literal g 2 k;
      third = gate_literal g 3 k;
    }
own_literals g k = refl
