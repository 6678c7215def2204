-- What a circuit means: the values of its literals in a cycle, and its run. Assumes nothing.
use Rattle.std.specs.Prelude.{ℕ, zero, suc, ◌+◌, ◌*◌, ◌<◌, ◌≡◌, Bool, false, not, ◌&&◌, List, map, length}
use Rattle.circuit.specs.Circuit.{Circuit, Latch, input_at, latch_at, gate_at}

-- a value for each literal
abbrev pub Valuation : Type 0
Valuation = ℕ → Bool

-- the values of the literals in a cycle, where the inputs and the latches have these values, each by its place
pub record IsValuation (c : Circuit) (inputs latches : ℕ → Bool) (v : Valuation) : Type 0 where
  pub constant : v 0 ≡ false
  pub negated : (x : ℕ) → v (2 * x + 1) ≡ not (v (2 * x))
  pub inputs_given : (i : ℕ) → i < length c.inputs → v (input_at c i) ≡ inputs i
  pub latches_given : (i : ℕ) → i < length c.latches → v (latch_at c i).current ≡ latches i
  pub gates_and : (i : ℕ) → i < length c.gates → v (gate_at c i).lhs ≡ v (gate_at c i).rhs0 && v (gate_at c i).rhs1

-- the outputs, and the next latches
abbrev pub output_values : Circuit → Valuation → List Bool
output_values c v = map v c.outputs

abbrev pub next_latches : Circuit → Valuation → List Bool
next_latches c v = map (λ (q : Latch). v q.next) c.latches

-- latches start at 0: latch k in cycle i of a run with these values
unfoldable pub latch_in : Circuit → (ℕ → Valuation) → ℕ → ℕ → Bool
latch_in c values zero k = false
latch_in c values (suc i) k = values i (latch_at c k).next

-- n cycles of a run: `inputs i` are the inputs of cycle i, `values i` the values in it
abbrev pub IsRun : Circuit → ℕ → (ℕ → ℕ → Bool) → (ℕ → Valuation) → Type 0
IsRun c n inputs values = (i : ℕ) → i < n → IsValuation c (inputs i) (latch_in c values i) (values i)
