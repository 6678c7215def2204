-- The text of a cycle: what is put from a table is what its circuit's literals have, and it is delivered. Assumes nothing.
use Prim.Native.Nat.{ℕ, ◌+◌, ◌*◌, ◌≤◌, ◌<◌}
use mathlib.Core.Path.{◌≡◌, refl, sym, ap, ap₂, subst, ◌∙◌}
use mathlib.Core.Bool.{Bool}
use mathlib.Core.List.{List, ◌++◌, map-append}
use native.Mathlib.Omega.{arith}
use lib.ListN.{length, get_or, length-append, length-map}
use Rattle.tables.specs.Choice.{pick}
use Rattle.tables.specs.declared.refusal.Outcome.{Outcome}
use Rattle.tables.proofs.Places.{length_tabulate, tabulate_ext, map_tabulate}
use Rattle.text.specs.Written.{digits_text}
use Rattle.writing.specs.declared.answer.Bytes.{Bytes}
use Rattle.writing.specs.declared.answer.Bytes.TheVariants.{Count, Refused}
use Rattle.writing.specs.Answer.{too_short, Printed}
use Rattle.writing.specs.Lent.{Wrote}
use Rattle.writing.proofs.Texts.{wrote_both, wrote_is}
use Rattle.writing.proofs.Answers.{wrote_delivers, short_delivers}
use Rattle.circuit.specs.Circuit.{Circuit, Latch}
use Rattle.circuit.specs.Valuation.{Valuation, IsValuation, output_values, next_latches}
use Rattle.circuit.proofs.Exists.{values_exist}
use Rattle.circuit_file.specs.declared.CircuitTable.{CircuitTable}
use Rattle.circuit_file.specs.File.{number_at, circuit_in}
use Rattle.simulator.specs.Simulation.{IsCycle, digits_outcome, CyclesOn, Cycles}
use Rattle.text.specs.Digits.{value_at}
use Rattle.circuit_file.specs.OfFile.{OfFile}
use Rattle.circuit_values.specs.Values.{value_of, literal_at, values_at}
use Rattle.circuit_file.proofs.CircuitTables.{counted_inputs, counted_latches, counted_outputs}

abbrev cycle_text : Circuit → Valuation → List ℕ
cycle_text c v = digits_text (output_values c v ++ next_latches c v)

module _ (t : CircuitTable) where
  abbrev outputs_from : ℕ
  outputs_from = t.header.inputs + 2 * t.header.latches

  -- a digit for each output and each latch
  text_length : (v : Valuation) → length (cycle_text (circuit_in t) v) ≡ t.header.outputs + t.header.latches
  text_length v =
      let o : List Bool = output_values (circuit_in t) v in
      let n : List Bool = next_latches (circuit_in t) v in
      let a : length (cycle_text (circuit_in t) v) ≡ length (o ++ n) = length-map (o ++ n) (λ b. pick b 49 48) in
      let b : length (o ++ n) ≡ length o + length n = length-append o n in
      let d : length o ≡ length (circuit_in t).outputs = length-map (circuit_in t).outputs v in
      let e : length n ≡ length (circuit_in t).latches = length-map (circuit_in t).latches (λ (q : Latch). v q.next) in
      omega (arith, a, b, d, e, counted_outputs t, counted_latches t)

  -- ---- what is put

  -- the next latches have room behind the outputs
  pub room_behind : {before middle : List ℕ} {end : ℕ} (values : List Bool) → t.header.outputs + t.header.latches ≤ length before
      → Wrote before 0 (digits_text (values_at values t.numbers outputs_from 1 t.header.outputs)) middle end
      → end + t.header.latches ≤ length middle
  room_behind values room x =
      let bits : List Bool = values_at values t.numbers outputs_from 1 t.header.outputs in
      omega (arith, x.next, x.size, length-map {B = ℕ} bits (λ b. pick b 49 48), length_tabulate t.header.outputs 0 (λ i. value_of values (literal_at t.numbers outputs_from 1 i)))

  module _ (values : List Bool) where
    outputs_put : values_at values t.numbers outputs_from 1 t.header.outputs ≡ output_values (circuit_in t) (value_of values)
    outputs_put =
        tabulate_ext t.header.outputs (λ i. value_of values (get_or t.numbers (outputs_from + 1 * i) 0))
        (λ i. value_of values (number_at t (outputs_from + i)))
        (λ i h. let e : outputs_from + 1 * i ≡ outputs_from + i = omega arith in ap (λ p. value_of values (number_at t p)) e)
        ∙ sym (map_tabulate (value_of values) t.header.outputs (λ i. number_at t (outputs_from + i)))

    nexts_put : values_at values t.numbers (t.header.inputs + 1) 2 t.header.latches ≡ next_latches (circuit_in t) (value_of values)
    nexts_put =
        tabulate_ext t.header.latches (λ i. value_of values (get_or t.numbers (t.header.inputs + 1 + 2 * i) 0))
        (λ i. value_of values (number_at t (t.header.inputs + 2 * i + 1)))
        (λ i h.
        let e : t.header.inputs + 1 + 2 * i ≡ t.header.inputs + 2 * i + 1 = omega arith in
        ap (λ p. value_of values (number_at t p)) e)
        ∙ sym (map_tabulate (λ (q : Latch). value_of values q.next) t.header.latches _)

    both_put : digits_text (values_at values t.numbers outputs_from 1 t.header.outputs)
        ++ digits_text (values_at values t.numbers (t.header.inputs + 1) 2 t.header.latches) ≡ cycle_text (circuit_in t) (value_of values)
    both_put =
        ap₂ (λ o n. digits_text o ++ digits_text n) outputs_put nexts_put
        ∙ sym (map-append (λ b. pick b 49 48) (output_values (circuit_in t) (value_of values)) (next_latches (circuit_in t) (value_of values)))

  module _ (inputs latches : List ℕ) where
    -- A CYCLE THAT IS PUT IS PRINTED, the outputs first and the next latches behind them
    pub with_room : {before middle after : List ℕ} {end total : ℕ} (values : List Bool) → t.header.outputs + t.header.latches ≤ length before
        → IsValuation (circuit_in t) (value_at inputs) (value_at latches) (value_of values)
        → Wrote before 0 (digits_text (values_at values t.numbers outputs_from 1 t.header.outputs)) middle end
        → Wrote middle end (digits_text (values_at values t.numbers (t.header.inputs + 1) 2 t.header.latches)) after total
        → Printed (IsCycle (circuit_in t) inputs latches) before after (Count total)
    with_room {before} {middle} {after} {end} {total} values room v x y = record {
      text = cycle_text (circuit_in t) (value_of values);
      is_text = record { values = value_of values; valuation = v; written = refl };
      delivered = wrote_delivers (omega (arith, text_length (value_of values))) (wrote_is (both_put values) (wrote_both x y));
    }

    -- WHERE THERE IS NO ROOM NOTHING IS PUT; its text is there all the same
    pub no_room : {before : List ℕ} {answer : Bytes} → OfFile t → length before < t.header.outputs + t.header.latches → answer ≡ Refused too_short
        → Printed (IsCycle (circuit_in t) inputs latches) before before answer
    no_room {before} {answer} f short e =
        let w = values_exist (circuit_in t) f.formed (value_at inputs) (value_at latches) in
        rw e
        record {
          text = cycle_text (circuit_in t) w.0;
          is_text = record { values = w.0; valuation = w.1; written = refl };
          delivered = short_delivers (omega (arith, text_length w.0));
        }

    -- BY WHAT IS SAID OF THE DIGITS, of which the header's numbers are asked
    pub cycles_on : (before after : List ℕ) (answer : Bytes) {said o : Outcome}
        → said ≡ digits_outcome t.header.inputs t.header.latches inputs latches → said ≡ o
        → CyclesOn o (circuit_in t) inputs latches before after answer → Cycles (circuit_in t) inputs latches before after answer
    cycles_on before after answer {said} {o} e g =
        subst (λ o. CyclesOn o (circuit_in t) inputs latches before after answer)
        (sym g ∙ (e ∙ ap₂ (λ i l. digits_outcome i l inputs latches) (sym (counted_inputs t)) (sym (counted_latches t))))
