-- The monitors' circuit has a file, which is read back. Assumes nothing.
use Prim.Native.Nat.{ℕ, suc, ◌+◌, ◌*◌, ◌≤◌}
use mathlib.Core.Path.{◌≡◌, refl}
use mathlib.Core.List.{List, [], ◌∷◌, ◌++◌, map}
use native.Mathlib.Omega.{arith}
use lib.ListN.{length, length-append, length-map}
use Rattle.tables.specs.declared.refusal.Outcome.TheVariants.{Accepted}
use Rattle.tables.specs.declared.row.Formula.{Formula}
use Rattle.tables.specs.declared.row.NormalForm.{NormalForm}
use Rattle.text.specs.Result.Result.{accepted}
use Rattle.text.proofs.Laws.{decimal_short}
use Rattle.rule_file.specs.Outcome.{rule_outcome}
use Rattle.rule_file.proofs.Rules.{checked}
use Rattle.normal_form.specs.declared.sign.Sign.TheVariants.{Plain}
use Rattle.normal_form.specs.Form.{InNormalForm}
use Rattle.normal_form.specs.Numbering.{normal_form}
use Rattle.normal_form.proofs.Ranges.{form_normal}
use Rattle.circuit.specs.Circuit.{Circuit, Latch}
use Rattle.circuit_file.specs.File.{parse_circuit}
use Rattle.circuit_file.specs.Written.{spaced, written_lines, header_of, lines_of, written_circuit}
use Rattle.circuit_file.proofs.Circuits.{circuit_written}
use Rattle.monitor_circuit.specs.Monitors.{latch_count, circuit_of}
use Rattle.monitor_circuit.specs.Steps.{rule_circuit}
use Rattle.monitor_circuit.proofs.WellFormed.{circuit_well_formed, inputs_size, latches_size, outputs_size, gates_size}

-- ---- how long lines are: a number has five digits at most
spaced_short : (xs : List ℕ) → length (spaced xs) ≤ 6 * length xs
unfolding spaced
spaced_short [] = omega arith
spaced_short (x ∷ []) = omega (arith, decimal_short x)
spaced_short (x ∷ y ∷ ys) = let h = spaced_short (y ∷ ys) in simp length-append (omega (arith, decimal_short x))

-- lines of five numbers at most
abbrev Short : List (List ℕ) → Type 0
Short [] = Unit {0}
Short (xs ∷ xss) = (length xs ≤ 5) × Short xss

short_append : (xss yss : List (List ℕ)) → Short xss → Short yss → Short (xss ++ yss)
short_append [] yss a b = b
short_append (xs ∷ xss) yss a b = (a.0, short_append xss yss a.1 b)

short_map : {A : Type 0} (f : A → List ℕ) → ((x : A) → length (f x) ≤ 5) → (xs : List A) → Short (map f xs)
short_map f h [] = tt
short_map f h (x ∷ xs) = (h x, short_map f h xs)

lines_short : (xss : List (List ℕ)) → Short xss → length (written_lines xss) ≤ 31 * length xss
unfolding written_lines
lines_short [] h = omega arith
lines_short (xs ∷ xss) h = let r = lines_short xss h.1 in simp length-append (omega (arith, spaced_short xs, h.0))

circuit_lines_lem : (c : Circuit) → Short (header_of c ∷ lines_of c)
circuit_lines_lem c = (
  omega arith,
  short_append (map (λ l. l ∷ []) c.inputs) _ (short_map _ (λ l. omega arith) c.inputs)
      (short_append (map (λ (q : Latch). q.current ∷ q.next ∷ []) c.latches) _ (short_map _ (λ q. omega arith) c.latches)
      (short_append (map (λ l. l ∷ []) c.outputs) _ (short_map _ (λ l. omega arith) c.outputs)
      (short_map _ (λ g. omega arith) c.gates))),
)

lines_count : (c : Circuit) → length (lines_of c) ≡ length c.inputs + (length c.latches + (length c.outputs + length c.gates))
lines_count c = simp (length-append, length-map) refl

module _ (g : NormalForm) (ok : InNormalForm g) where
  file_short : length (written_circuit (circuit_of g)) ≤ 65536
  unfolding written_circuit
  file_short =
      let c : Circuit = circuit_of g in
      let h : length (written_lines (header_of c ∷ lines_of c)) ≤ 31 * suc (length (lines_of c)) = lines_short (header_of c ∷ lines_of c) (circuit_lines_lem c) in
      let n : length (lines_of c) ≡ (g.signals + g.rows) + (latch_count g + (3 * g.rows + 3 * g.rows)) = rw (lines_count c, inputs_size, latches_size, outputs_size, gates_size) in
      rw length-append (omega (arith, ok.most_signals, ok.most_rows))

  -- THE FILE OF A NORMAL FORM'S CIRCUIT IS READ BACK
  pub form_file_read : parse_circuit (written_circuit (circuit_of g)) ≡ accepted (circuit_of g)
  form_file_read = circuit_written (circuit_of g) (circuit_well_formed g ok) file_short

-- AND SO THAT OF EVERY RULE
pub rule_file_read : (f : Formula) → rule_outcome f ≡ Accepted → parse_circuit (written_circuit (rule_circuit f)) ≡ accepted (rule_circuit f)
rule_file_read f own = form_file_read (normal_form f Plain) (form_normal f Plain (checked f own))
