-- Two circuits of the format report, its or-gate and its toggle flip-flop: the definitions give what they are named for. Assumes nothing.
use Prim.Native.Nat.{ℕ, zero, suc, ◌≤◌, ◌<◌}
use mathlib.Core.Path.{◌≡◌, refl, ap, ap₂, ◌∙◌}
use mathlib.Core.Bool.{Bool, false, not, ◌&&◌, ◌||◌}
use mathlib.Core.List.{[], ◌∷◌}
use native.Mathlib.Omega.{arith}
use lib.ListN.{get_or}
use Rattle.circuit.specs.Circuit.{Circuit, latch_at, gate_at, IsVariable, WellFormed}
use Rattle.circuit.specs.Valuation.{Valuation, IsValuation, output_values, latch_in, IsRun}
use Rattle.circuit.proofs.Inverters.{either}

-- `aag 3 2 0 1 1`, then `2`, `4`, `7`, `6 3 5`
abbrev pub or_gate : Circuit
or_gate = record { inputs = 2 ∷ 4 ∷ []; latches = []; outputs = 7 ∷ []; gates = record { lhs = 6; rhs0 = 3; rhs1 = 5 } ∷ [] }

pub or_formed : WellFormed or_gate
or_formed =
    record {
      variables = λ i h. variable i h;
      once = λ i j l h. apart i j l h;
      nexts = λ i h. absurd (omega arith);
      named = λ i h. output i h;
      lower = λ i h. gate i h;
    }
  where
    variable : (i : ℕ) → i < 3 → IsVariable 3 (get_or (2 ∷ 4 ∷ 6 ∷ []) i 0)
    variable zero h = record { index = 1; least = omega arith; most = omega arith; even = refl }
    variable (suc zero) h = record { index = 2; least = omega arith; most = omega arith; even = refl }
    variable (suc (suc zero)) h = record { index = 3; least = omega arith; most = omega arith; even = refl }
    variable (suc (suc (suc i))) h = absurd (omega arith)

    apart : (i j : ℕ) → i < j → j < 3 → ¬ (◌≡◌ {A = ℕ} (get_or (2 ∷ 4 ∷ 6 ∷ []) i 0) (get_or (2 ∷ 4 ∷ 6 ∷ []) j 0))
    apart zero zero l h e = omega arith
    apart zero (suc zero) l h e = omega arith
    apart zero (suc (suc zero)) l h e = omega arith
    apart zero (suc (suc (suc j))) l h e = omega arith
    apart (suc zero) zero l h e = omega arith
    apart (suc zero) (suc zero) l h e = omega arith
    apart (suc zero) (suc (suc zero)) l h e = omega arith
    apart (suc zero) (suc (suc (suc j))) l h e = omega arith
    apart (suc (suc i)) j l h e = omega arith

    output : (i : ℕ) → i < 1 → get_or (7 ∷ []) i 0 ≤ 7
    output zero h = omega arith
    output (suc i) h = absurd (omega arith)

    gate : (i : ℕ) → i < 1 → ((gate_at or_gate i).rhs0 < (gate_at or_gate i).lhs) × ((gate_at or_gate i).rhs1 < (gate_at or_gate i).lhs)
    gate zero h = (omega arith, omega arith)
    gate (suc i) h = absurd (omega arith)

pub or_values : (inputs latches : ℕ → Bool) (v : Valuation) → IsValuation or_gate inputs latches v → output_values or_gate v ≡ (inputs 0 || inputs 1) ∷ []
or_values inputs latches v e =
    let seven : v 7 ≡ not (v 6) = e.negated 3 in
    let six : v 6 ≡ v 3 && v 5 = e.gates_and 0 (omega arith) in
    let three : v 3 ≡ not (v 2) = e.negated 1 in
    let five : v 5 ≡ not (v 4) = e.negated 2 in
    let two : v 2 ≡ inputs 0 = e.inputs_given 0 (omega arith) in
    let four : v 4 ≡ inputs 1 = e.inputs_given 1 (omega arith) in
    ap (λ b. b ∷ []) (rw (seven, six, three, five, two, four) (either (inputs 0) (inputs 1)))

-- `aag 1 0 1 2 0`, then `2 3`, `2`, `3`: a latch that turns in each cycle
abbrev pub toggle : Circuit
toggle = record { inputs = []; latches = record { current = 2; next = 3 } ∷ []; outputs = 2 ∷ 3 ∷ []; gates = [] }

pub toggle_formed : WellFormed toggle
toggle_formed =
    record {
      variables = λ i h. record { index = 1; least = omega arith; most = omega arith; even = by i h };
      once = λ i j h l. absurd (omega arith);
      nexts = λ i h. next i h;
      named = λ i h. output i h;
      lower = λ i h. absurd (omega arith);
    }
  where
    by : (i : ℕ) → i < 1 → ◌≡◌ {A = ℕ} (get_or (2 ∷ []) i 0) 2
    by zero h = refl
    by (suc i) h = absurd (omega arith)

    next : (i : ℕ) → i < 1 → (latch_at toggle i).next ≤ 3
    next zero h = omega arith
    next (suc i) h = absurd (omega arith)

    output : (i : ℕ) → i < 2 → get_or (2 ∷ 3 ∷ []) i 0 ≤ 3
    output zero h = omega arith
    output (suc zero) h = omega arith
    output (suc (suc i)) h = absurd (omega arith)

unfoldable pub is_odd : ℕ → Bool
is_odd zero = false
is_odd (suc i) = not (is_odd i)

-- latches start at 0: its outputs are 0 1, then 1 0, then 0 1, and so on
module _ (n : ℕ) (inputs : ℕ → ℕ → Bool) (values : ℕ → Valuation) (run : IsRun toggle n inputs values) where
  latch : (i : ℕ) → i < n → values i 2 ≡ is_odd i
  unfolding latch_in is_odd
  latch zero h = (run zero h).latches_given 0 (omega arith)
  latch (suc i) h = (run (suc i) h).latches_given 0 (omega arith) ∙ ((run i (omega arith)).negated 1 ∙ ap not (latch i (omega arith)))

  pub toggle_values : (i : ℕ) → i < n → output_values toggle (values i) ≡ is_odd i ∷ not (is_odd i) ∷ []
  toggle_values i h =
      let e : values i 3 ≡ not (is_odd i) = (run i h).negated 1 ∙ ap not (latch i h) in
      ap₂ (λ a b. a ∷ b ∷ []) (latch i h) e
