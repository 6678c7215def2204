-- Where the outputs' literals and the latches' next ones stand in a table, and that their variables have places. Assumes nothing.
use Prim.Native.Nat.{ℕ, ◌+◌, ◌*◌, ◌≤◌, ◌<◌}
use mathlib.Core.Path.{◌≡◌, ap, ◌∙◌}
use native.Mathlib.Omega.{arith}
use lib.ListN.{length, get_or}
use Rattle.tables.proofs.Places.{get_d_tabulate}
use Rattle.circuit.specs.Circuit.{Latch, maximum, output_at, latch_at}
use Rattle.circuit_file.specs.declared.CircuitTable.{CircuitTable}
use Rattle.circuit_file.specs.File.{circuit_in}
use Rattle.circuit_file.specs.OfFile.{OfFile}
use Rattle.circuit_file.proofs.CircuitTables.{counted_inputs, counted_latches, counted_outputs, counted_gates}
use Rattle.circuit_values.specs.Values.{Spread, LiteralsWithin}

module _ (t : CircuitTable) where
  -- the outputs' literals and the latches' next ones stand in the table, and are of variables that have a place among the values
  module _ (f : OfFile t) where
    most : maximum (circuit_in t) ≤ 32768
    most = omega (arith, f.few, counted_inputs t, counted_latches t, counted_gates t)

    pub outputs_spread : Spread t.numbers (t.header.inputs + 2 * t.header.latches) 1 t.header.outputs
    outputs_spread i h = omega (arith, f.few, f.size)

    pub nexts_spread : Spread t.numbers (t.header.inputs + 1) 2 t.header.latches
    nexts_spread i h = omega (arith, f.few, f.size)

    module _ (n : ℕ) (wide : n ≡ 32770) where
      pub outputs_within : LiteralsWithin t.numbers (t.header.inputs + 2 * t.header.latches) 1 t.header.outputs n
      outputs_within i h =
          let from : ℕ = t.header.inputs + 2 * t.header.latches in
          let a : i < length (circuit_in t).outputs = omega (arith, counted_outputs t) in
          let e : output_at (circuit_in t) i ≡ get_or t.numbers (from + i) 0 = get_d_tabulate t.header.outputs _ i 0 h in
          let p : from + i ≡ from + 1 * i = omega arith in
          let q : output_at (circuit_in t) i ≡ get_or t.numbers (from + 1 * i) 0 = e ∙ ap (λ k. get_or t.numbers k 0) p in
          let l : output_at (circuit_in t) i ≤ 2 * maximum (circuit_in t) + 1 = f.formed.named i a in
          omega (arith, l, q, most)

      pub nexts_within : LiteralsWithin t.numbers (t.header.inputs + 1) 2 t.header.latches n
      nexts_within i h =
          let from : ℕ = t.header.inputs in
          let a : i < length (circuit_in t).latches = omega (arith, counted_latches t) in
          let e : (latch_at (circuit_in t) i).next ≡ get_or t.numbers (from + 2 * i + 1) 0 =
          ap (λ (q : Latch). q.next) (get_d_tabulate t.header.latches _ i (record { current = 0; next = 0 }) h) in
          let p : from + 2 * i + 1 ≡ from + 1 + 2 * i = omega arith in
          let q : (latch_at (circuit_in t) i).next ≡ get_or t.numbers (from + 1 + 2 * i) 0 = e ∙ ap (λ k. get_or t.numbers k 0) p in
          let l : (latch_at (circuit_in t) i).next ≤ 2 * maximum (circuit_in t) + 1 = f.formed.nexts i a in
          omega (arith, l, q, most)
