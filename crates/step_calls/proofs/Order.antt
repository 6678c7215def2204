-- The answered calls of an endless list: going through them in order, and what they hand on. Assumes nothing.
use Prim.Native.Nat.{ℕ, zero, suc, ◌+◌, ◌-◌, ◌≤◌, ◌<◌, zero-le}
use mathlib.Core.Path.{◌≡◌, refl, subst, subst⁻¹, ◌∙◌}
use mathlib.Core.Logic.{◌⊎◌, inl, inr}
use mathlib.Core.Bool.{Bool, true, false, Bool-set}
use mathlib.Core.HLevel.{Σ_prop_path, Π_prop, ×₃_prop}
use native.Mathlib.Bridge.{le_prop}
use native.Mathlib.Nat.{eq-or-lt_of_le}
use native.Mathlib.Decide.{le_ind}
use native.Mathlib.Omega.{arith}
use Rattle.meaning.specs.Operator.{During}
use Rattle.meaning.proofs.Readings.{lt_or_le, On, on_and_off}
use Rattle.step_calls.specs.Calls.{InOrder}

module _ {answered : ℕ → Bool} {at : ℕ → ℕ} (order : InOrder answered at) where
  at_far : (c : ℕ) → c ≤ at c
  at_far zero = zero-le
  at_far (suc c) = let h = at_far c in let r = order.rises c in omega arith

  at_mono : (c d : ℕ) → c ≤ d → at c ≤ at d
  at_mono c d h = le_ind (λ d. at c ≤ at d) (omega arith) (λ d l x. let r = order.rises d in omega arith) d h

  reached_below : (m j : ℕ) → On (answered j) → j < at m → (c : ℕ) × (at c ≡ j)
  reached_below zero j a h = on_and_off a (order.first j h)
  reached_below (suc m) j a h = by (lt_or_le j (at m)) (reached_below m j a)
    where
      here : (at m ≡ j) ⊎ (at m < j) → (c : ℕ) × (at c ≡ j)
      here (inl e) = (m, e)
      here (inr l) = on_and_off a (order.between m j l h)

      by : (j < at m) ⊎ (at m ≤ j) → (j < at m → (c : ℕ) × (at c ≡ j)) → (c : ℕ) × (at c ≡ j)
      by (inl l) ih = ih l
      by (inr l) ih = here (eq-or-lt_of_le l)

  -- each answered call is a cycle
  pub reached : (j : ℕ) → On (answered j) → (c : ℕ) × (at c ≡ j)
  reached j a = reached_below (suc j) j a (omega (arith, at_far (suc j)))

  -- a later call is a later cycle
  pub later : (c d : ℕ) → at c ≤ at d → c ≤ d
  later c d h = by (lt_or_le d c)
    where
      by : (d < c) ⊎ (c ≤ d) → c ≤ d
      by (inl l) = absurd (omega (arith, at_mono (suc d) c l, order.rises d))
      by (inr l) = l

  -- the first answered call is cycle 0
  pub first_unique : (i : ℕ) → On (answered i) → ((j : ℕ) → j < i → answered j ≡ false) → at 0 ≡ i
  first_unique i a none = by (lt_or_le i (at 0)) (lt_or_le (at 0) i)
    where
      by : (i < at 0) ⊎ (at 0 ≤ i) → (at 0 < i) ⊎ (i ≤ at 0) → at 0 ≡ i
      by (inl l) m = on_and_off a (order.first i l)
      by (inr l) (inl m) = on_and_off (order.each 0) (none (at 0) m)
      by (inr l) (inr m) = omega arith

  -- what a refused call leaves as it is, and an answered one renews
  module _ {A : Type 0} (x : ℕ → A) (kept : (i : ℕ) → answered i ≡ false → x (suc i) ≡ x i) where
    pub at_first : x (at 0) ≡ x 0
    at_first = go (at 0) (omega arith)
      where
        go : (j : ℕ) → j ≤ at 0 → x j ≡ x 0
        go zero l = refl
        go (suc j) l = kept j (order.first j l) ∙ go j (omega arith)

    pub at_next : (c : ℕ) → x (at (suc c)) ≡ x (suc (at c))
    at_next c = le_ind (λ j. j ≤ at (suc c) → x j ≡ x (suc (at c))) (λ l. refl) (λ j l ih m. kept j (order.between c j l m) ∙ ih (omega arith)) (at (suc c)) (order.rises c) (omega arith)

-- there is one order
pub order_unique : {answered : ℕ → Bool} {at to : ℕ → ℕ} → InOrder answered at → InOrder answered to → (c : ℕ) → at c ≡ to c
order_unique x y zero = first_unique x _ (y.each 0) y.first
order_unique {answered} {at} {to} x y (suc c) = by (order_unique x y c) (lt_or_le (at (suc c)) (to (suc c))) (lt_or_le (to (suc c)) (at (suc c)))
  where
    by : at c ≡ to c → (at (suc c) < to (suc c)) ⊎ (to (suc c) ≤ at (suc c)) → (to (suc c) < at (suc c)) ⊎ (at (suc c) ≤ to (suc c)) → at (suc c) ≡ to (suc c)
    by same (inl l) m = on_and_off (x.each (suc c)) (y.between c (at (suc c)) (subst (λ n. n < at (suc c)) same (x.rises c)) l)
    by same (inr l) (inl m) = on_and_off (y.each (suc c)) (x.between c (to (suc c)) (subst⁻¹ (λ n. n < to (suc c)) same (y.rises c)) m)
    by same (inr l) (inr m) = omega arith

-- ---- where there is always one more answered call, the answered calls have an order

module _ (answered : ℕ → Bool) where
  abbrev NextOne : ℕ → ℕ → Type 0
  NextOne i j = (i ≤ j) × On (answered j) × During (λ k. answered k ≡ false) i j

  one_next : (i : ℕ) → IsProp ((j : ℕ) × NextOne i j)
  one_next i x y = Σ_prop_path (λ j. ×₃_prop le_prop (Bool-set _ _) (Π_prop λ k. Π_prop λ a. Π_prop λ b. Bool-set _ _)) {u = x} {v = y} (by (lt_or_le x.0 y.0) (lt_or_le y.0 x.0))
    where
      by : (x.0 < y.0) ⊎ (y.0 ≤ x.0) → (y.0 < x.0) ⊎ (x.0 ≤ y.0) → x.0 ≡ y.0
      by (inl l) m = on_and_off x.1.1 (y.1.2 x.0 x.1.0 l)
      by (inr l) (inl m) = on_and_off y.1.1 (x.1.2 y.0 y.1.0 m)
      by (inr l) (inr m) = omega arith

  next_from : (d i j : ℕ) → i + d ≡ j → On (answered j) → (m : ℕ) × NextOne i m
  next_from zero i j e a = (i, (omega arith, subst⁻¹ (λ m. On (answered m)) (omega arith) a, λ k p q. absurd (omega arith)))
  next_from (suc d) i j e a = by (answered i) refl (next_from d (suc i) j (omega arith) a)
    where
      by : (b : Bool) → answered i ≡ b → (m : ℕ) × NextOne (suc i) m → (m : ℕ) × NextOne i m
      by true h f = (i, (omega arith, h, λ k p q. absurd (omega arith)))
      by false h f = (f.0, (omega arith, f.1.1, λ k p q. go k q (eq-or-lt_of_le p)))
        where
          go : (k : ℕ) → k < f.0 → (i ≡ k) ⊎ (i < k) → answered k ≡ false
          go k q (inl e) = subst (λ m. answered m ≡ false) e h
          go k q (inr l) = f.1.2 k l q

  module _ (more : (i : ℕ) → ∥ ((j : ℕ) × (i ≤ j) × On (answered j)) ∥₁) where
    next_one : (i : ℕ) → (j : ℕ) × NextOne i j
    next_one i = ∥∥₁_rec (one_next i) (λ f. next_from (f.0 - i) i f.0 (omega arith) f.2) (more i)

    pub listed : ℕ → ℕ
    listed zero = (next_one 0).0
    listed (suc c) = (next_one (suc (listed c))).0

    pub listed_in_order : InOrder answered listed
    unfolding listed
    listed_in_order =
        record { first = λ j l. (next_one 0).1.2 j zero-le l; each = on; rises = λ c. (next_one (suc (listed c))).1.0; between = λ c j a b. (next_one (suc (listed c))).1.2 j a b }
      where
        on : (c : ℕ) → On (answered (listed c))
        on zero = (next_one 0).1.1
        on (suc c) = (next_one (suc (listed c))).1.1
