-- The values of a circuit's literals are there, in a cycle and over a run. Assumes nothing.
use Prim.Native.Nat.{ℕ, zero, suc, ◌+◌, ◌*◌, ◌≤◌, ◌<◌}
use mathlib.Core.Path.{◌≡◌, refl, ap, subst, ◌∙◌}
use mathlib.Core.Bool.{Bool, false, not}
use native.Mathlib.Omega.{arith}
use Rattle.circuit.specs.Circuit.{Circuit, latch_at, maximum, WellFormed}
use Rattle.circuit.specs.Valuation.{Valuation, IsValuation, latch_in, IsRun}
use Rattle.circuit.proofs.Defined.{Definition, each_defined, defined_once, defined_variable}
use Rattle.circuit.proofs.Literals.{Literal, literal_kind}
use Rattle.circuit.proofs.Given.{defined_value, given_local, given_valuation}
use Rattle.circuit.proofs.Recursion.{ruled, ruled_by}

module _ (c : Circuit) (formed : WellFormed c) where
  module _ (inputs latches : ℕ → Bool) where
    -- the value of a literal by those of the lower ones
    named : Valuation → (l : ℕ) → Literal (maximum c) l → Bool
    named v l (Literal.constant e) = false
    named v l (Literal.negated x e) = not (v (2 * x))
    named v l (Literal.variable x least most e) = defined_value inputs latches v (each_defined c formed x least most)
    named v l (Literal.beyond x m e) = false

    abbrev rule : Valuation → Valuation
    rule v l = named v l (literal_kind (maximum c) l)

    local : (v w : Valuation) (l : ℕ) → ((k : ℕ) → k < l → v k ≡ w k) → rule v l ≡ rule w l
    unfolding named
    local v w l lower = by (literal_kind (maximum c) l)
      where
        by : (k : Literal (maximum c) l) → named v l k ≡ named w l k
        by (Literal.constant e) = refl
        by (Literal.negated x e) = ap not (lower (2 * x) (omega arith))
        by (Literal.variable x least most e) =
            given_local c inputs latches formed inputs latches (λ i h. refl) (λ i h. refl) v w x (λ k h. lower k (omega arith)) (each_defined c formed x least most)
        by (Literal.beyond x m e) = refl

    -- what the rule says of each kind of literal
    module _ (v : Valuation) where
      at_constant : (k : Literal (maximum c) 0) → named v 0 k ≡ false
      unfolding named
      at_constant (Literal.constant e) = refl
      at_constant (Literal.negated x e) = absurd (omega arith)
      at_constant (Literal.variable x least most e) = absurd (omega arith)
      at_constant (Literal.beyond x m e) = refl

      at_negated : (x : ℕ) (k : Literal (maximum c) (2 * x + 1)) → named v (2 * x + 1) k ≡ not (v (2 * x))
      unfolding named
      at_negated x (Literal.constant e) = absurd (omega arith)
      at_negated x (Literal.negated y e) = let same : y ≡ x = omega arith in rw same
      at_negated x (Literal.variable y least most e) = absurd (omega arith)
      at_negated x (Literal.beyond y m e) = absurd (omega arith)

      at_variable : (x : ℕ) (d : Definition c x) (k : Literal (maximum c) (2 * x)) → named v (2 * x) k ≡ defined_value inputs latches v d
      unfolding named
      at_variable x d (Literal.constant e) = let r = defined_variable c formed x d in absurd (omega arith)
      at_variable x d (Literal.negated y e) = absurd (omega arith)
      at_variable x d (Literal.variable y least most e) =
          subst (λ z. (p : 1 ≤ z) (q : z ≤ maximum c) → defined_value inputs latches v (each_defined c formed z p q) ≡ defined_value inputs latches v d) same
          (λ p q. ap (defined_value inputs latches v) (defined_once c formed x (each_defined c formed x p q) d)) least most
        where
          same : x ≡ y
          same = omega arith
      at_variable x d (Literal.beyond y m e) = let r = defined_variable c formed x d in absurd (omega arith)

    values : Valuation
    values = ruled rule false local

    values_are : IsValuation c inputs latches values
    unfolding values
    values_are = given_valuation c inputs latches formed values
        (ruled_by rule false local 0 ∙ at_constant values (literal_kind (maximum c) 0))
        (λ x. ruled_by rule false local (2 * x + 1) ∙ at_negated values x (literal_kind (maximum c) (2 * x + 1)))
        (λ x d. ruled_by rule false local (2 * x) ∙ at_variable values x d (literal_kind (maximum c) (2 * x)))

-- THE VALUES ARE THERE
pub values_exist : (c : Circuit) → WellFormed c → (inputs latches : ℕ → Bool) → (v : Valuation) × IsValuation c inputs latches v
values_exist c formed inputs latches = (values c formed inputs latches, values_are c formed inputs latches)

module _ (c : Circuit) (formed : WellFormed c) (inputs : ℕ → ℕ → Bool) where
  run : ℕ → Valuation
  run zero = values c formed (inputs zero) (λ k. false)
  run (suc i) = values c formed (inputs (suc i)) (λ k. run i (latch_at c k).next)

  run_is : (i : ℕ) → IsValuation c (inputs i) (latch_in c run i) (run i)
  unfolding run latch_in
  run_is zero = values_are c formed (inputs zero) (λ k. false)
  run_is (suc i) = values_are c formed (inputs (suc i)) (λ k. run i (latch_at c k).next)

-- OVER A RUN, of any number of cycles
pub run_exists : (c : Circuit) → WellFormed c → (inputs : ℕ → ℕ → Bool) → (values : ℕ → Valuation) × ((n : ℕ) → IsRun c n inputs values)
run_exists c formed inputs = (run c formed inputs, λ n i h. run_is c formed inputs i)
