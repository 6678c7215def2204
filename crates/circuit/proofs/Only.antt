-- The values of a circuit's literals are the only ones, in a cycle and over a run. Assumes nothing.
use Prim.Native.Nat.{ℕ, zero, suc, ◌*◌, ◌≤◌, ◌<◌}
use mathlib.Core.Path.{◌≡◌, refl, sym, ap, ◌∙◌}
use mathlib.Core.Bool.{Bool, not}
use native.Mathlib.Omega.{arith}
use lib.ListN.{length}
use Rattle.circuit.specs.Circuit.{Circuit, latch_at, maximum, IsLiteral, WellFormed}
use Rattle.circuit.specs.Valuation.{Valuation, IsValuation, latch_in, IsRun}
use Rattle.circuit.proofs.Defined.{each_defined}
use Rattle.circuit.proofs.Literals.{Literal, literal_kind}
use Rattle.circuit.proofs.Given.{value_given, given_local}
use Rattle.circuit.proofs.Recursion.{from_lower}

module _ (c : Circuit) (formed : WellFormed c) where
  -- where the inputs and the latches that there are have the same values, the literals have
  pub values_agree :
      (inputs inputs' latches latches' : ℕ → Bool) → ((i : ℕ) → i < length c.inputs → inputs i ≡ inputs' i)
      → ((i : ℕ) → i < length c.latches → latches i ≡ latches' i) → (v w : Valuation) → IsValuation c inputs latches v
      → IsValuation c inputs' latches' w → (l : ℕ) → IsLiteral (maximum c) l → v l ≡ w l
  values_agree inputs inputs' latches latches' same_inputs same_latches v w of-v of-w =
      from_lower (λ l. IsLiteral (maximum c) l → v l ≡ w l) (λ l lower h. by l lower h (literal_kind (maximum c) l))
    where
      by : (l : ℕ) → ((k : ℕ) → k < l → IsLiteral (maximum c) k → v k ≡ w k) → IsLiteral (maximum c) l → Literal (maximum c) l → v l ≡ w l
      by l lower h (Literal.constant e) = rw e (of-v.constant ∙ sym of-w.constant)
      by l lower h (Literal.negated x e) = rw e (of-v.negated x ∙ (ap not (lower (2 * x) (omega arith) (omega arith)) ∙ sym (of-w.negated x)))
      by l lower h (Literal.variable x least most e) =
          let d = each_defined c formed x least most in
          let same = given_local c inputs latches formed inputs' latches' same_inputs same_latches v w x (λ k m. lower k (omega arith) (omega arith)) d in
          rw e (value_given c inputs latches v of-v x d ∙ (same ∙ sym (value_given c inputs' latches' w of-w x d)))
      by l lower h (Literal.beyond x m e) = absurd (omega arith)

  -- two runs whose inputs, those that there are, have the same values in each cycle
  module _ (n : ℕ) (inputs inputs' : ℕ → ℕ → Bool) (same : (i : ℕ) → i < n → (k : ℕ) → k < length c.inputs → inputs i k ≡ inputs' i k)
      (v w : ℕ → Valuation) (of-v : IsRun c n inputs v) (of-w : IsRun c n inputs' w) where
    cycle_agrees :
        (i : ℕ) → i < n → ((k : ℕ) → k < length c.latches → latch_in c v i k ≡ latch_in c w i k) → (l : ℕ) → IsLiteral (maximum c) l → v i l ≡ w i l
    cycle_agrees i h latches = values_agree (inputs i) (inputs' i) (latch_in c v i) (latch_in c w i) (same i h) latches (v i) (w i) (of-v i h) (of-w i h)

    pub latches_agree : (i : ℕ) → i ≤ n → (k : ℕ) → k < length c.latches → latch_in c v i k ≡ latch_in c w i k
    unfolding latch_in
    latches_agree zero h k l = refl
    latches_agree (suc i) h k l = cycle_agrees i h (latches_agree i (omega arith)) (latch_at c k).next (formed.nexts k l)

    pub run_agrees : (i : ℕ) → i < n → (l : ℕ) → IsLiteral (maximum c) l → v i l ≡ w i l
    run_agrees i h = cycle_agrees i h (latches_agree i (omega arith))

-- THE VALUES ARE THE ONLY ONES
pub values_only :
    (c : Circuit) → WellFormed c → (inputs latches : ℕ → Bool) (v w : Valuation) → IsValuation c inputs latches v → IsValuation c inputs latches w
    → (l : ℕ) → IsLiteral (maximum c) l → v l ≡ w l
values_only c formed inputs latches = values_agree c formed inputs inputs latches latches (λ i h. refl) (λ i h. refl)

-- OVER A RUN, and the latches too
pub run_only :
    (c : Circuit) → WellFormed c → (n : ℕ) (inputs : ℕ → ℕ → Bool) (v w : ℕ → Valuation) → IsRun c n inputs v → IsRun c n inputs w
    → ((i : ℕ) → i < n → (l : ℕ) → IsLiteral (maximum c) l → v i l ≡ w i l)
    × ((i : ℕ) → i ≤ n → (k : ℕ) → k < length c.latches → latch_in c v i k ≡ latch_in c w i k)
run_only c formed n inputs v w of-v of-w =
    (run_agrees c formed n inputs inputs (λ i h k l. refl) v w of-v of-w, latches_agree c formed n inputs inputs (λ i h k l. refl) v w of-v of-w)
