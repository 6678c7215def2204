-- The whole file from its sections. Assumes nothing.
use Prim.Native.Nat.{ℕ, ◌+◌, ◌*◌}
use mathlib.Core.Path.{◌≡◌, sym, ap, ◌∙◌}
use mathlib.Core.List.{List, [], ◌∷◌, ◌++◌, append_assoc}
use Rattle.tables.specs.Bytes.{bytes}
use Rattle.tables.specs.declared.row.NormalForm.{NormalForm}
use Rattle.writing.specs.Lent.{Wrote}
use Rattle.writing.proofs.Texts.{wrote_both, wrote_is}
use Rattle.circuit_file.specs.Written.{header_of, lines_of, written_circuit, written_lines}
use Rattle.monitor_circuit.specs.Monitors.{latch_count, circuit_of}
use Rattle.monitor_circuit.proofs.WellFormed.{gates_size, inputs_size, latches_size, maximum_is, outputs_size}
use Rattle.circuit_writer.specs.Section.{gate_lines, input_lines, latch_lines, output_lines}
use Rattle.line_writer.proofs.Lines.{lines_append, more_lines}

module _ (g : NormalForm) where
  -- the header's numbers from those of signals and rows
  abbrev pub header_numbers : List ℕ
  header_numbers = (g.signals + g.rows + latch_count g + 3 * g.rows) ∷ (g.signals + g.rows) ∷ latch_count g ∷ 3 * g.rows ∷ 3 * g.rows ∷ []

  pub header_is : header_numbers ≡ header_of (circuit_of g)
  header_is = sym (rw (maximum_is g, inputs_size g, latches_size g, outputs_size g, gates_size g))

  -- the file is the header and the lines behind it
  pub file_parted : (bytes "aag " ++ written_lines (header_numbers ∷ [])) ++ written_lines (lines_of (circuit_of g)) ≡ written_circuit (circuit_of g)
  unfolding written_circuit
  file_parted =
      append_assoc (bytes "aag ") (written_lines (header_numbers ∷ [])) (written_lines (lines_of (circuit_of g)))
      ∙ (ap (λ t. bytes "aag " ++ t) (sym (lines_append (header_numbers ∷ []) (lines_of (circuit_of g))))
      ∙ ap (λ h. bytes "aag " ++ written_lines (h ∷ lines_of (circuit_of g))) header_is)

  -- the header has the numbers m i l o a
  pub circuit_put : {before a b c d after : List ℕ} {i j k l end numberM numberI number_l numberO numberA : ℕ}
      → Wrote before 0 (bytes "aag " ++ written_lines ((numberM ∷ numberI ∷ number_l ∷ numberO ∷ numberA ∷ []) ∷ [])) a i
      → (numberM ≡ g.signals + g.rows + latch_count g + 3 * g.rows) × (numberI ≡ g.signals + g.rows) × (number_l ≡ latch_count g) × (numberO ≡ 3 * g.rows) × (numberA ≡ 3 * g.rows)
      → Wrote a i (written_lines (input_lines g)) b j → Wrote b j (written_lines (latch_lines g)) c k → Wrote c k (written_lines (output_lines g)) d l
      → Wrote d l (written_lines (gate_lines g)) after end → Wrote before 0 (written_circuit (circuit_of g)) after end
  circuit_put {before} {a} {i = at} {numberM = m} {numberI = i} {number_l = l} {numberO = o} {numberA = n} header e inputs latches outputs gates =
      let em = e.0 in
      let ei = e.1 in
      let el = e.2 in
      let eo = e.3 in
      let ea = e.4 in
      let same : m ∷ i ∷ l ∷ o ∷ n ∷ [] ≡ header_numbers = cc in
      let first : Wrote before 0 (bytes "aag " ++ written_lines (header_numbers ∷ [])) a at = wrote_is (ap (λ h. bytes "aag " ++ written_lines (h ∷ [])) same) header in
      wrote_is file_parted
      (wrote_both first
      (more_lines (input_lines g) (latch_lines g ++ (output_lines g ++ gate_lines g)) inputs
      (more_lines (latch_lines g) (output_lines g ++ gate_lines g) latches (more_lines (output_lines g) (gate_lines g) outputs gates))))
