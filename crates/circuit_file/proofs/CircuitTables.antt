-- What crates above cite of the table that reading a circuit file leaves: what it stands for, and how large it is. Assumes nothing.
use Prim.Native.Nat.{ℕ, ◌+◌, ◌*◌, ◌≤◌}
use mathlib.Core.Path.{◌≡◌, refl, sym, ap, subst, subst⁻¹, ◌∙◌}
use mathlib.Core.List.{List}
use native.Mathlib.Omega.{arith}
use lib.ListN.{length, get_or}
use Rattle.tables.specs.declared.refusal.Outcome.TheVariants.{Accepted, Refused}
use Rattle.tables.specs.declared.refusal.Reason.{Reason}
use Rattle.tables.specs.declared.refusal.Refusal.{Refusal}
use Rattle.tables.proofs.Choices.{clash}
use Rattle.tables.proofs.Places.{length_tabulate}
use Rattle.text.specs.Result.{Result, map_result, table_or}
use Rattle.text.specs.Result.Result.{accepted, refused}
use Rattle.text.proofs.Answered.{accepted_table, refused_table}
use Rattle.circuit.specs.Circuit.{Circuit, WellFormed}
use Rattle.circuit_file.specs.declared.CircuitTable.{CircuitTable}
use Rattle.circuit_file.specs.declared.CircuitAnswer.{CircuitAnswer}
use Rattle.circuit_file.specs.File.{Contents, circuit_from, parse_contents, parse_circuit, flat, table_from, circuit_in, no_contents, circuit_answer}
use Rattle.circuit_file.specs.OfFile.{OfFile}
use Rattle.circuit_file.specs.Written.{header_of}
use Rattle.circuit_file.proofs.FirstLine.{numbers_of}
use Rattle.circuit_file.proofs.Contents.{ContentsOk, contents_read}
use Rattle.circuit_file.proofs.Circuits.{contents_formed, header_same, lines_same}
use Rattle.circuit_file.proofs.Tables.{all_same, all_long, flat_few, table_circuit, table_read}

-- one number for each input and output, two for each latch, three for each gate
flat_long : (t : Contents) → ContentsOk t
    → length (flat t.lines) ≡ t.header.inputs + 2 * t.header.latches + t.header.outputs + 3 * t.header.gates
flat_long t ok =
    let e : header_of (circuit_from t) ≡ numbers_of t.header = header_same t ok in
    let i = ap (λ xs. get_or xs 1 0) e in
    let l = ap (λ xs. get_or xs 2 0) e in
    let o = ap (λ xs. get_or xs 3 0) e in
    let g = ap (λ xs. get_or xs 4 0) e in
    ap (λ ls. length (flat ls)) (sym (lines_same t ok))
    ∙ (ap length (all_same t.header (circuit_from t) i l o g) ∙ all_long t.header (circuit_from t) i l o g)

pub of_file : (file : List ℕ) (t : Contents) → parse_contents file ≡ accepted t → OfFile (table_from t)
of_file file t e =
    let r = contents_read file t e in
    let b : length (flat t.lines) ≤ 32768 = flat_few t (subst (λ s. length s ≤ 65536) r.whole r.short) in
    record {
      formed = subst⁻¹ WellFormed (table_circuit file t e) (contents_formed t r.ok);
      sums_up_lem = r.ok.sums;
      few = subst (λ n. n ≤ 32768) (flat_long t r.ok) b;
      size = length_tabulate 32770 0 (λ i. get_or (flat t.lines) i 0);
    }

-- by the answer of the code: its table is that of the file, and stands for the file's circuit
pub read_table : (file : List ℕ) (a : CircuitAnswer) → a ≡ circuit_answer (parse_contents file) → a.outcome ≡ Accepted
    → OfFile a.table × (parse_circuit file ≡ accepted (circuit_in a.table))
read_table file a e h =
    let t : Contents = table_or no_contents (parse_contents file) in
    let g : parse_contents file ≡ accepted t = accepted_table 1 no_contents (parse_contents file) (sym (ap (λ (x : CircuitAnswer). x.outcome) e) ∙ h) in
    subst⁻¹ (λ x. OfFile x × (parse_circuit file ≡ accepted (circuit_in x))) (ap (λ (x : CircuitAnswer). x.table) e)
    (of_file file t g, table_read file t g)

-- and of a refused file: what is so of every refusal is so of this one
pub read_refused : (file : List ℕ) (a : CircuitAnswer) → a ≡ circuit_answer (parse_contents file) → (why : Refusal) → a.outcome ≡ Refused why
    → (P : Result Circuit → Refusal → Type 0) → ((e : Reason) (n : ℕ) → P (refused e n) (record { reason = e; file = 1; line = n })) → P (parse_circuit file) why
read_refused file a e why h P =
    refused_table 1 (parse_contents file) (sym (ap (λ (x : CircuitAnswer). x.outcome) e) ∙ h) (λ p x. P (map_result circuit_from p) x)

-- ---- the circuit in a table has as many of each as the header says
module _ (t : CircuitTable) where
  pub counted_inputs : length (circuit_in t).inputs ≡ t.header.inputs
  counted_inputs = length_tabulate t.header.inputs 0 _

  pub counted_latches : length (circuit_in t).latches ≡ t.header.latches
  counted_latches = length_tabulate t.header.latches 0 _

  pub counted_outputs : length (circuit_in t).outputs ≡ t.header.outputs
  counted_outputs = length_tabulate t.header.outputs 0 _

  pub counted_gates : length (circuit_in t).gates ≡ t.header.gates
  counted_gates = length_tabulate t.header.gates 0 _

-- A CIRCUIT THAT WAS READ HAS 32,768 NUMBERS AT MOST
abbrev pub Few : Circuit → Type 0
Few c = length c.inputs + 2 * length c.latches + length c.outputs + 3 * length c.gates ≤ 32768

pub circuit_few : (file : List ℕ) (c : Circuit) → parse_circuit file ≡ accepted c → Few c
circuit_few file c = by (parse_contents file) refl
  where
    by : (p : Result Contents) → parse_contents file ≡ p → map_result circuit_from p ≡ accepted c → Few c
    by (refused why n) e q = clash (cc)
    by (accepted t) e q =
        let same : circuit_from t ≡ c = cc in
        let few = (of_file file t e).few in
        let x : CircuitTable = table_from t in
        subst Few (table_circuit file t e ∙ same) (omega (arith, few, counted_inputs x, counted_latches x, counted_outputs x, counted_gates x))
