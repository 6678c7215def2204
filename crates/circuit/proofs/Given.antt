-- The values of a cycle are those that the definitions give the variables. Assumes nothing.
use Prim.Native.Nat.{ℕ, ◌+◌, ◌*◌, ◌<◌}
use mathlib.Core.Path.{◌≡◌, sym, ap, ap₂, ◌∙◌}
use mathlib.Core.Bool.{Bool, false, not, ◌&&◌}
use lib.ListN.{length}
use native.Mathlib.Omega.{arith}
use Rattle.circuit.specs.Circuit.{Circuit, gate_at, WellFormed}
use Rattle.circuit.specs.Valuation.{Valuation, IsValuation}
use Rattle.circuit.proofs.Defined.{Definition, defined_size, defined_input, defined_latch, defined_gate}

-- the value that a definition gives its variable, the other literals having the values v
unfoldable pub defined_value : {c : Circuit} (inputs latches : ℕ → Bool) (v : Valuation) {x : ℕ} → Definition c x → Bool
defined_value inputs latches v (Definition.input i h e) = inputs i
defined_value inputs latches v (Definition.latch i h e) = latches i
defined_value {c} inputs latches v (Definition.gate i h e) = v (gate_at c i).rhs0 && v (gate_at c i).rhs1

module _ (c : Circuit) (inputs latches : ℕ → Bool) where
  -- each variable has it
  pub value_given : (v : Valuation) → IsValuation c inputs latches v → (x : ℕ) (d : Definition c x) → v (2 * x) ≡ defined_value inputs latches v d
  unfolding defined_value
  value_given v is x (Definition.input i h e) = ap v (sym e) ∙ is.inputs_given i h
  value_given v is x (Definition.latch i h e) = ap v (sym e) ∙ is.latches_given i h
  value_given v is x (Definition.gate i h e) = ap v (sym e) ∙ is.gates_and i h

  module _ (formed : WellFormed c) where
    -- it depends on the lower literals only, and on the inputs and latches that there are
    pub given_local :
        (inputs' latches' : ℕ → Bool) → ((i : ℕ) → i < length c.inputs → inputs i ≡ inputs' i) → ((i : ℕ) → i < length c.latches → latches i ≡ latches' i)
        → (v w : Valuation) (x : ℕ) → ((l : ℕ) → l < 2 * x → v l ≡ w l) → (d : Definition c x) → defined_value inputs latches v d ≡ defined_value inputs' latches' w d
    unfolding defined_value
    given_local inputs' latches' same_inputs same_latches v w x lower (Definition.input i h e) = same_inputs i h
    given_local inputs' latches' same_inputs same_latches v w x lower (Definition.latch i h e) = same_latches i h
    given_local inputs' latches' same_inputs same_latches v w x lower (Definition.gate i h e) =
        let l = formed.lower i h in
        ap₂ ◌&&◌ (lower (gate_at c i).rhs0 (omega (arith, l.0, e))) (lower (gate_at c i).rhs1 (omega (arith, l.1, e)))

    -- and values of which that holds are the values of the cycle
    pub given_valuation :
        (v : Valuation) → v 0 ≡ false → ((x : ℕ) → v (2 * x + 1) ≡ not (v (2 * x)))
        → ((x : ℕ) (d : Definition c x) → v (2 * x) ≡ defined_value inputs latches v d) → IsValuation c inputs latches v
    unfolding defined_value
    given_valuation v constant negated gives =
        record {
          constant = constant;
          negated = negated;
          inputs_given = λ i h. let x = formed.variables i (omega (arith, defined_size c)) in let e = sym (defined_input c i h) ∙ x.even in ap v e ∙ gives x.index (Definition.input i h e);
          latches_given = λ i h. let x = formed.variables (length c.inputs + i) (omega (arith, defined_size c)) in let e = sym (defined_latch c i h) ∙ x.even in ap v e ∙ gives x.index (Definition.latch i h e);
          gates_and = λ i h. let x = formed.variables (length c.inputs + length c.latches + i) (omega (arith, defined_size c)) in let e = sym (defined_gate c i h) ∙ x.even in ap v e ∙ gives x.index (Definition.gate i h e);
        }
