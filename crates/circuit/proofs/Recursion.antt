-- Each number from the lower ones: laws, and values. Assumes nothing.
use Prim.Native.Nat.{ℕ, zero, suc, ◌<◌}
use mathlib.Core.Path.{◌≡◌}
use native.Mathlib.Omega.{arith}

module _ (P : ℕ → Type 0) (step : (n : ℕ) → ((k : ℕ) → k < n → P k) → P n) where
  below : (m k : ℕ) → k < m → P k
  below zero k h = absurd (omega arith)
  below (suc m) k h = step k (λ j l. below m j (omega arith))

  pub from_lower : (n : ℕ) → P n
  from_lower n = step n (below n)

-- values by a rule that asks, for the value at n, only for the values below n
module _ {A : Type 0} (rule : (ℕ → A) → ℕ → A) (start : A) (local : (v w : ℕ → A) (n : ℕ) → ((k : ℕ) → k < n → v k ≡ w k) → rule v n ≡ rule w n) where
  -- the rule applied d times
  within : ℕ → ℕ → A
  within zero n = start
  within (suc d) n = rule (within d) n

  within_same : (d e n : ℕ) → n < d → n < e → within d n ≡ within e n
  unfolding within
  within_same zero e n p q = absurd (omega arith)
  within_same (suc d) zero n p q = absurd (omega arith)
  within_same (suc d) (suc e) n p q = local (within d) (within e) n (λ k h. within_same d e k (omega arith) (omega arith))

  pub ruled : ℕ → A
  ruled n = within (suc n) n

  pub ruled_by : (n : ℕ) → ruled n ≡ rule ruled n
  unfolding ruled within
  ruled_by n = local (within n) ruled n (λ k h. within_same n (suc k) k h (omega arith))
