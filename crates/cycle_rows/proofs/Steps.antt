-- A step in the list: put there, and kept where another is put. Assumes nothing.
use Prim.Native.Nat.{ℕ, ◌<◌}
use mathlib.Core.Path.{◌≡◌, subst⁻¹}
use mathlib.Core.List.{List}
use native.Mathlib.Omega.{arith}
use lib.ListN.{length, set, take}
use lib.Seq.{get_or-set_same, get_or-set_other}
use Rattle.tables.specs.declared.row.Row.{Row}
use Rattle.std.proofs.lemmas.List.{get_or-take, length-take}
use Rattle.cycle_rows.specs.declared.prepare.Step.{Step}
use Rattle.cycle_rows.specs.Steps.{StepFor, step_in}

module _ (steps : List Step) (i : ℕ) (step : Step) (k : ℕ) (r : Row) where
  pub step_put : i < length steps → StepFor step k r → StepFor (step_in (set steps i step) i) k r
  step_put h = subst⁻¹ (λ s. StepFor s k r) (get_or-set_same steps i step _ h)

  pub step_stays : (j : ℕ) → (j ≡ i → ⊥) → StepFor (step_in steps j) k r → StepFor (step_in (set steps i step) j) k r
  step_stays j d = subst⁻¹ (λ s. StepFor s k r) (get_or-set_other steps i j step _ d)

-- a step among the first n is that of the list
pub step_taken : (n i : ℕ) (steps : List Step) → i < length (take n steps) → step_in (take n steps) i ≡ step_in steps i
step_taken n i steps h = get_or-take n steps i _ (omega (arith, length-take n steps))
