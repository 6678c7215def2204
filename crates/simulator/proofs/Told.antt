-- How many digits an answered cycle has. Assumes nothing.
use Prim.Native.Nat.{ℕ, ◌+◌, ◌≤◌}
use mathlib.Core.Path.{◌≡◌, refl, sym, ap, ◌∙◌}
use mathlib.Core.List.{List, ◌++◌}
use native.Mathlib.Omega.{arith}
use lib.ListN.{length, length-append, length-map}
use Rattle.tables.specs.declared.refusal.Outcome.{Outcome}
use Rattle.tables.specs.declared.refusal.Outcome.TheVariants.{Accepted, Refused}
use Rattle.tables.proofs.Choices.{clash}
use Rattle.text.specs.Result.{Result}
use Rattle.text.specs.Result.Result.{accepted, refused}
use Rattle.text.proofs.Laws.{text_length}
use Rattle.writing.specs.declared.answer.Bytes.TheVariants.{Count}
use Rattle.writing.proofs.Room.{written_length}
use Rattle.circuit.specs.Circuit.{Circuit}
use Rattle.circuit.specs.Valuation.{output_values, next_latches}
use Rattle.circuit_file.specs.File.{parse_circuit}
use Rattle.simulator.specs.Simulation.{IsCycle, CyclesOn, OnCircuit, Simulates, digits_outcome}
use Rattle.circuit_file.proofs.CircuitTables.{circuit_few}

-- a digit for each output and each latch
cycle_size : (c : Circuit) (inputs latches text : List ℕ) → IsCycle c inputs latches text → length text ≡ length c.outputs + length c.latches
cycle_size c inputs latches text x =
    ap length x.written ∙ (text_length (output_values c x.values ++ next_latches c x.values) ∙ (simp (length-append, length-map) refl))

pub simulated_few : (circuit inputs latches before after : List ℕ) (n : ℕ) → Simulates circuit inputs latches before after (Count n) → n ≤ 32768
simulated_few circuit inputs latches before after n = by (parse_circuit circuit) refl
  where
    on : (c : Circuit) → parse_circuit circuit ≡ accepted c → (o : Outcome) → CyclesOn o c inputs latches before after (Count n) → n ≤ 32768
    on c e (Refused why) x = let q = x.0 in clash (cc)
    on c e Accepted x =
        omega (
          arith,
          written_length x.text before (sym x.delivered.answered),
          cycle_size c inputs latches x.text x.is_text,
          circuit_few circuit c e,
        )

    by : (p : Result Circuit) → parse_circuit circuit ≡ p → OnCircuit p inputs latches before after (Count n) → n ≤ 32768
    by (refused why line) e x = let q = x.0 in clash (cc)
    by (accepted c) e x = on c e (digits_outcome (length c.inputs) (length c.latches) inputs latches) x
