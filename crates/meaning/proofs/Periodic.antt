-- The unrolling of a lasso is periodic (position-periodic, unrolled-periodic): it runs through the n cycles once and then, from the
-- loop's cycle l on, repeats after n - l cycles. So what repeats as the lasso does is at cycle i what it is at i's position
-- (at_position). Assumes nothing.
use Prim.Native.Nat.{ℕ, zero, suc, ◌+◌, ◌*◌, ◌-◌, ◌≤◌, ◌<◌}
use mathlib.Core.Path.{◌≡◌, refl, subst, subst⁻¹, sym, ap, ◌∙◌}
use mathlib.Core.Logic.{◌⊎◌, inl, inr}
use native.Mathlib.Nat.{add-zero}
use native.Mathlib.Omega.{arith}
use borrow.Author.Tests.{lt-ltb, le-ltb}
use Rattle.tables.specs.Choice.{pick}
use Rattle.tables.specs.declared.trace.Trace.{Trace}
use Rattle.meaning.specs.Trace.{position, signal_at, unrolled}
use Rattle.meaning.proofs.Readings.{lt_or_le}

-- from b on, x repeats after N cycles
abbrev pub Periodic : {A : Type 0} → ℕ → ℕ → (ℕ → A) → Type 0
Periodic N b x = (i : ℕ) → b ≤ i → x (i + N) ≡ x i

module _ (n l : ℕ) where
  -- the next cycle is the recording's next, or the loop's where the recording ends
  pub position_next : (i : ℕ) → suc (position n l i) < n → position n l (suc i) ≡ suc (position n l i)
  unfolding position
  position_next i h = ap (λ b. pick b (suc (position n l i)) l) (lt-ltb (suc (position n l i)) n h)

  pub position_loop : (i : ℕ) → n ≤ suc (position n l i) → position n l (suc i) ≡ l
  unfolding position
  position_loop i h = ap (λ b. pick b (suc (position n l i)) l) (le-ltb (suc (position n l i)) n h)

  pub position_first : (i : ℕ) → i < n → position n l i ≡ i
  unfolding position
  position_first zero h = refl
  position_first (suc i) h = let e = position_first i (omega arith) in position_next i (subst⁻¹ (λ p. suc p < n) e h) ∙ ap suc e

  module _ (l<n : l < n) where
    pub position_below : (i : ℕ) → position n l i < n
    unfolding position
    position_below zero = omega arith
    position_below (suc i) = by (lt_or_le (suc (position n l i)) n)
      where
        by : (suc (position n l i) < n) ⊎ (n ≤ suc (position n l i)) → position n l (suc i) < n
        by (inl h) = subst⁻¹ (λ p. p < n) (position_next i h) h
        by (inr h) = subst⁻¹ (λ p. p < n) (position_loop i h) l<n

    pub position_periodic : Periodic (n - l) l (position n l)
    position_periodic i h = let e : l + (i - l) ≡ i = omega arith in subst (λ j. position n l (j + (n - l)) ≡ position n l j) e (by (i - l))
      where
        end : (k : ℕ) → k ≡ n → position n l k ≡ l
        end zero e = absurd (omega arith)
        end (suc k) e = let p = position_first k (omega arith) in position_loop k (omega (arith, p))

        step : (i j : ℕ) → position n l i ≡ position n l j → position n l (suc i) ≡ position n l (suc j)
        step i j e = at (lt_or_le (suc (position n l j)) n)
          where
            at : (suc (position n l j) < n) ⊎ (n ≤ suc (position n l j)) → position n l (suc i) ≡ position n l (suc j)
            at (inl h) = position_next i (omega (arith, e)) ∙ ap suc e ∙ sym (position_next j h)
            at (inr h) = position_loop i (omega (arith, e)) ∙ sym (position_loop j h)

        by : (d : ℕ) → position n l (l + d + (n - l)) ≡ position n l (l + d)
        by zero = let p : l + zero + (n - l) ≡ n = omega arith in end (l + zero + (n - l)) p ∙ sym (ap (position n l) (add-zero l) ∙ position_first l l<n)
        by (suc d) =
            let p : l + suc d + (n - l) ≡ suc (l + d + (n - l)) = omega arith in
            let q : suc (l + d) ≡ l + suc d = omega arith in
            ap (position n l) p ∙ step (l + d + (n - l)) (l + d) (by d) ∙ ap (position n l) q

    module _ {A : Type 0} (x : ℕ → A) (periodic : Periodic (n - l) l x) where
      ahead : (i m : ℕ) → x (position n l i + m) ≡ x (i + m)
      unfolding position
      ahead zero m = refl
      ahead (suc i) m = let e : i + suc m ≡ suc i + m = omega arith in by (lt_or_le (suc (position n l i)) n) ∙ ahead i (suc m) ∙ ap x e
        where
          by : (suc (position n l i) < n) ⊎ (n ≤ suc (position n l i)) → x (position n l (suc i) + m) ≡ x (position n l i + suc m)
          by (inl h) = let e : suc (position n l i) + m ≡ position n l i + suc m = omega arith in ap (λ p. x (p + m)) (position_next i h) ∙ ap x e
          by (inr h) =
              let b = position_below i in
              let e : l + m + (n - l) ≡ position n l i + suc m = omega (arith, b) in
              ap (λ p. x (p + m)) (position_loop i h) ∙ sym (periodic (l + m) (omega arith)) ∙ ap x e

      pub at_position : (i : ℕ) → x (position n l i) ≡ x i
      at_position i = ap x (sym (add-zero (position n l i))) ∙ ahead i 0 ∙ ap x (add-zero i)

pub unrolled_periodic : (t : Trace) (l : ℕ) → l < t.cycles → (s : ℕ) → Periodic (t.cycles - l) l (λ i. unrolled t l i s)
unrolled_periodic t l h s i b = ap (λ c. signal_at t c s) (position_periodic t.cycles l h i b)

-- writing d rounds of the loop before it does not change the run: it is at each cycle where the lasso is
pub written_position : (n l : ℕ) → l < n → (d i : ℕ) → position n l (position (n + d * (n - l)) (l + d * (n - l)) i) ≡ position n l i
written_position n l h d = at_position (n + d * (n - l)) (l + d * (n - l)) (omega arith) (position n l) later
  where
    later : Periodic (n + d * (n - l) - (l + d * (n - l))) (l + d * (n - l)) (position n l)
    later i b =
        let e : n + d * (n - l) - (l + d * (n - l)) ≡ n - l = omega arith in
        ap (λ m. position n l (i + m)) e ∙ position_periodic n l h i (omega arith)
