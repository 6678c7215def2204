-- What the simulator answers is fixed: a circuit has one text for a cycle. Assumes nothing.
use Prim.Native.Nat.{ℕ, suc, ◌<◌}
use mathlib.Core.Path.{◌≡◌, refl, sym, ap₂, subst⁻¹, ◌∙◌}
use mathlib.Core.List.{List, [], ◌∷◌, ◌++◌, map}
use native.Mathlib.Omega.{arith}
use lib.ListN.{length, get_or}
use Rattle.tables.specs.Only.{TheOnlyPair}
use Rattle.tables.specs.declared.refusal.Outcome.{Outcome}
use Rattle.tables.specs.declared.refusal.Outcome.TheVariants.{Accepted, Refused}
use Rattle.tables.specs.declared.refusal.Refusal.{Refusal}
use Rattle.text.specs.Written.{digits_text}
use Rattle.writing.specs.declared.answer.Bytes.{Bytes}
use Rattle.writing.proofs.Answers.{only_printed}
use Rattle.circuit.specs.Circuit.{Circuit, Latch, output_at, latch_at, WellFormed}
use Rattle.circuit.specs.Valuation.{output_values, next_latches}
use Rattle.circuit.proofs.Only.{values_only}
use Rattle.circuit_file.specs.declared.CircuitAnswer.{CircuitAnswer}
use Rattle.circuit_file.specs.File.{circuit_in, circuit_answer, parse_contents}
use Rattle.simulator.specs.Simulation.{IsCycle, digits_outcome, TurnedBack, CyclesOn, Cycles, OnCircuit, Simulates}
use Rattle.text.specs.Digits.{value_at}
use Rattle.circuit_file.proofs.CircuitTables.{read_table, read_refused}

-- two functions that agree on a list's elements
map_agree : {A B : Type 0} (f g : A → B) (d : A) (xs : List A) → ((i : ℕ) → i < length xs → f (get_or xs i d) ≡ g (get_or xs i d)) → map f xs ≡ map g xs
map_agree f g d [] e = refl
map_agree f g d (x ∷ xs) e = ap₂ ◌∷◌ (e 0 (omega arith)) (map_agree f g d xs (λ i h. e (suc i) (omega arith)))

-- A CYCLE HAS ONE TEXT
pub cycle_once : (c : Circuit) → WellFormed c → (inputs latches s t : List ℕ) → IsCycle c inputs latches s → IsCycle c inputs latches t → s ≡ t
cycle_once c formed inputs latches s t x y =
    let same = values_only c formed (value_at inputs) (value_at latches) x.values y.values x.valuation y.valuation in
    let o : output_values c x.values ≡ output_values c y.values =
    map_agree x.values y.values 0 c.outputs (λ i h. same (output_at c i) (formed.named i h)) in
    let n : next_latches c x.values ≡ next_latches c y.values =
    map_agree (λ (q : Latch). x.values q.next) (λ (q : Latch). y.values q.next) (record { current = 0; next = 0 }) c.latches
    (λ i h. same (latch_at c i).next (formed.nexts i h)) in
    x.written ∙ (ap₂ (λ a b. digits_text (a ++ b)) o n ∙ sym y.written)

module _ (inputs latches before : List ℕ) {after : List ℕ} {answer : Bytes} where
  only_turned : (why : Refusal) → TurnedBack before after answer why → TheOnlyPair (λ left r. TurnedBack before left r why) after answer
  only_turned why x = record { so = x; only = λ other reply y. (y.1 ∙ sym x.1, y.0 ∙ sym x.0) }

  only_cycles : (c : Circuit) → WellFormed c → (o : Outcome) → CyclesOn o c inputs latches before after answer
      → TheOnlyPair (CyclesOn o c inputs latches before) after answer
  only_cycles c formed Accepted x = only_printed (IsCycle c inputs latches) (cycle_once c formed inputs latches) before after answer x
  only_cycles c formed (Refused why) x = only_turned why x

  -- ---- by the answer of the reader
  module _ (file : List ℕ) (a : CircuitAnswer) (e : a ≡ circuit_answer (parse_contents file)) where
    -- WHAT THE SIMULATOR ANSWERS ON A CIRCUIT IS THE ONLY ANSWER
    pub file_simulated : a.outcome ≡ Accepted → Cycles (circuit_in a.table) inputs latches before after answer
        → TheOnlyPair (Simulates file inputs latches before) after answer
    file_simulated h x =
        let c : Circuit = circuit_in a.table in
        let r = read_table file a e h in
        subst⁻¹ (λ p. TheOnlyPair (OnCircuit p inputs latches before) after answer) r.1
        (only_cycles c r.0.formed (digits_outcome (length c.inputs) (length c.latches) inputs latches) x)

    -- AND SO IS A REFUSED FILE'S
    pub file_turned_back : (why : Refusal) → a.outcome ≡ Refused why → TurnedBack before after answer why
        → TheOnlyPair (Simulates file inputs latches before) after answer
    file_turned_back why h =
        read_refused file a e why h (λ p why. TurnedBack before after answer why → TheOnlyPair (OnCircuit p inputs latches before) after answer)
        (λ r n x. only_turned (record { reason = r; file = 1; line = n }) x)
