-- What is carried from cycle to cycle by monotone steps, where the steps are periodic, is periodic one round later (carried): a
-- monotone function of one bit, applied twice, is the same as applied once. Assumes nothing.
use Prim.Native.Nat.{ℕ, zero, suc, ◌+◌, ◌≤◌}
use mathlib.Core.Path.{◌≡◌, refl, sym, ap, ap₂, ◌∙◌}
use mathlib.Core.Bool.{Bool, true, false}
use native.Mathlib.Nat.{add-zero}
use native.Mathlib.Decide.{le_ind}
use native.Mathlib.Omega.{arith}
use Rattle.meaning.proofs.Readings.{On, on_and_off}
use Rattle.meaning.proofs.Periodic.{Periodic}

idempotent : (h : Bool → Bool) → (On (h false) → On (h true)) → (b : Bool) → h (h b) ≡ h b
idempotent h mono b = by (h false) refl (h true) refl b
  where
    by : (x : Bool) → h false ≡ x → (y : Bool) → h true ≡ y → (b : Bool) → h (h b) ≡ h b
    by false e y f false = ap h e
    by true e y f false = ap h e ∙ mono e ∙ sym e
    by x e true f true = ap h f
    by true e false f true = on_and_off (mono e) f
    by false e false f true = ap h f ∙ e ∙ sym f

module _ (N b : ℕ) (f : ℕ → Bool → Bool) (mono : (i : ℕ) (x y : Bool) → (On x → On y) → On (f i x) → On (f i y))
    (same : (i : ℕ) → b ≤ i → (x : Bool) → f (i + N) x ≡ f i x) (y : ℕ → Bool) (steps : (i : ℕ) → y (suc i) ≡ f i (y i)) where
  -- d steps from cycle i on
  iter : ℕ → ℕ → Bool → Bool
  iter zero i x = x
  iter (suc d) i x = iter d (suc i) (f i x)

  iter_mono : (d i : ℕ) (x z : Bool) → (On x → On z) → On (iter d i x) → On (iter d i z)
  unfolding iter
  iter_mono zero i x z h e = h e
  iter_mono (suc d) i x z h e = iter_mono d (suc i) (f i x) (f i z) (mono i x z h) e

  iter_shift : (d i : ℕ) → b ≤ i → (x : Bool) → iter d (i + N) x ≡ iter d i x
  unfolding iter
  iter_shift zero i h x = refl
  iter_shift (suc d) i h x = let e : suc (i + N) ≡ suc i + N = omega arith in ap₂ (iter d) e (same i h x) ∙ iter_shift d (suc i) (omega arith) (f i x)

  iter_is : (d i : ℕ) → y (i + d) ≡ iter d i (y i)
  unfolding iter
  iter_is zero i = ap y (add-zero i)
  iter_is (suc d) i = let e : i + suc d ≡ suc i + d = omega arith in ap y e ∙ iter_is d (suc i) ∙ ap (iter d (suc i)) (steps i)

  pub carried : Periodic N (b + N) y
  carried = le_ind (λ i. y (i + N) ≡ y i) start step
    where
      start : y (b + N + N) ≡ y (b + N)
      start = iter_is N (b + N) ∙ iter_shift N b (omega arith) (y (b + N)) ∙ ap (iter N b) (iter_is N b)
          ∙ idempotent (iter N b) (iter_mono N b false true (λ e. refl)) (y b) ∙ sym (iter_is N b)

      step : (i : ℕ) → b + N ≤ i → y (i + N) ≡ y i → y (suc i + N) ≡ y (suc i)
      step i h e = let q : suc i + N ≡ suc (i + N) = omega arith in ap y q ∙ steps (i + N) ∙ same i (omega arith) (y (i + N)) ∙ ap (f i) e ∙ sym (steps i)
