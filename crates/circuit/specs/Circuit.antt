-- And-inverter graphs, as the AIGER format report of 2007 has them. Assumes nothing.
use Rattle.std.specs.Prelude.{ℕ, ◌+◌, ◌*◌, ◌≤◌, ◌<◌, ◌≡◌, List, ◌++◌, map, length, get_or}

-- A literal is a number: twice the index of a variable, and one more where the variable is negated. 0 is the constant false, 1 true.

-- a latch: the literal that stands for it, and the literal whose value it takes over into the next cycle
pub record Latch : Type 0 where
  pub current : ℕ
  pub next : ℕ

-- an and-gate: the literal on its left side, and its two operands
pub record Gate : Type 0 where
  pub lhs : ℕ
  pub rhs0 : ℕ
  pub rhs1 : ℕ

-- inputs and outputs are given by their literals
pub record Circuit : Type 0 where
  pub inputs : List ℕ
  pub latches : List Latch
  pub outputs : List ℕ
  pub gates : List Gate

-- each by its place, counted from 0
abbrev pub input_at : Circuit → ℕ → ℕ
input_at c i = get_or c.inputs i 0

abbrev pub latch_at : Circuit → ℕ → Latch
latch_at c i = get_or c.latches i (record { current = 0; next = 0 })

abbrev pub output_at : Circuit → ℕ → ℕ
output_at c i = get_or c.outputs i 0

abbrev pub gate_at : Circuit → ℕ → Gate
gate_at c i = get_or c.gates i (record { lhs = 0; rhs0 = 0; rhs1 = 0 })

-- "a maximum index of inputs plus latches plus gates"
abbrev pub maximum : Circuit → ℕ
maximum c = length c.inputs + length c.latches + length c.gates

-- the literals that are defined, in the order of the file
abbrev pub defined_in : Circuit → List ℕ
defined_in c = c.inputs ++ (map (λ (q : Latch). q.current) c.latches ++ map (λ (g : Gate). g.lhs) c.gates)

-- a variable's own literal, the maximum index being m
pub record IsVariable (m l : ℕ) : Type 0 where
  pub index : ℕ
  pub least : 1 ≤ index
  pub most : index ≤ m
  pub even : l ≡ 2 * index

-- a literal that can be named
abbrev pub IsLiteral : ℕ → ℕ → Type 0
IsLiteral m l = l ≤ 2 * m + 1

-- the circuits of which 02 speaks: each defined literal is a variable's own, none is defined twice, so that each variable is defined
-- once (law `each_defined`), "and gates whose operands have lower literals"
pub record WellFormed (c : Circuit) : Type 0 where
  pub variables : (i : ℕ) → i < length (defined_in c) → IsVariable (maximum c) (get_or (defined_in c) i 0)
  pub once : (i j : ℕ) → i < j → j < length (defined_in c) → ¬ (get_or (defined_in c) i 0 ≡ get_or (defined_in c) j 0)
  pub nexts : (i : ℕ) → i < length c.latches → IsLiteral (maximum c) (latch_at c i).next
  pub named : (i : ℕ) → i < length c.outputs → IsLiteral (maximum c) (output_at c i)
  pub lower : (i : ℕ) → i < length c.gates → ((gate_at c i).rhs0 < (gate_at c i).lhs) × ((gate_at c i).rhs1 < (gate_at c i).lhs)
