-- The truth of a row, and its strong truth, is what the row says of its operands' (true-means, strongly-true-means): the depth to
-- which the definitions read is enough. And what it is to give the rows of a table their meaning (Interprets), which determines
-- their truth (interprets-unique). Assumes nothing.
use Prim.Native.Nat.{ℕ, zero, suc, ◌<◌}
use mathlib.Core.Path.{refl}
use mathlib.Core.Logic.{◌↔◌}
use mathlib.Core.Bool.{Bool, true}
use native.Mathlib.Omega.{arith}
use Rattle.meaning.specs.Reading.{Reading}
use Rattle.meaning.specs.Trace.{InfiniteTrace}
use Rattle.meaning.specs.Satisfaction.{Table, Means, TrueWithin, RowTrue}
use Rattle.meaning.specs.Strong.{StrongMeans, StrongWithin, RowStronglyTrue}
use Rattle.meaning.specs.Rows.{Ordered}
use Rattle.meaning.proofs.Readings.{On, row_induction}
use Rattle.meaning.proofs.Rows.{each_map}
use Rattle.meaning.proofs.Monotone.{means_same, strong_means_same}

-- v gives each of the rows below n, at the live cycles, what the row means, and is false at the others. All cycles of an infinite
-- trace are live, and those below its length of a prefix (StrongTruth), so that both share their theorems.
abbrev pub Interprets : Reading → (ℕ → Bool) → InfiniteTrace → Table → ℕ → (ℕ → ℕ → Type 0) → Type 0
Interprets R live w t n v = (k : ℕ) → k < n → (i : ℕ) → v k i ↔ (On (live i) × Means R w v (t k) i)

-- every cycle is live
abbrev pub every_cycle : ℕ → Bool
every_cycle i = true

-- there is at most one such v
module _ (R : Reading) (live : ℕ → Bool) (w : InfiniteTrace) (t : Table) (n : ℕ) (ordered : Ordered n t) (u v : ℕ → ℕ → Type 0)
    (iu : Interprets R live w t n u) (iv : Interprets R live w t n v) where
  pub interprets_unique : (k : ℕ) → k < n → (i : ℕ) → u k i ↔ v k i
  interprets_unique = row_induction (λ k. k < n → (i : ℕ) → u k i ↔ v k i) step
    where
      step : (k : ℕ) → ((a : ℕ) → a < k → a < n → (i : ℕ) → u a i ↔ v a i) → k < n → (i : ℕ) → u k i ↔ v k i
      step k ih h i =
          let said = means_same R w u v (t k) (each_map _ _ (λ a l. ih a l (omega arith)) (t k) (ordered k h)) i in
          (λ x. let y = (iu k h i).0 x in (iv k h i).1 (y.0, said.0 y.1), λ x. let y = (iv k h i).0 x in (iu k h i).1 (y.0, said.1 y.1))

-- ---- truth on an infinite trace

module _ (R : Reading) (w : InfiniteTrace) (t : Table) (n : ℕ) (ordered : Ordered n t) where
  within_same : (d e k : ℕ) → k < d → k < e → k < n → (i : ℕ) → TrueWithin R w t d k i ↔ TrueWithin R w t e k i
  unfolding TrueWithin
  within_same zero e k p q h i = absurd (omega arith)
  within_same (suc d) zero k p q h i = absurd (omega arith)
  within_same (suc d) (suc e) k p q h i = means_same R w (TrueWithin R w t d) (TrueWithin R w t e) (t k)
      (each_map _ _ (λ a l. within_same d e a (omega arith) (omega arith) (omega arith)) (t k) (ordered k h)) i

  pub true_means : (k : ℕ) → k < n → (i : ℕ) → RowTrue R w t k i ↔ Means R w (RowTrue R w t) (t k) i
  unfolding RowTrue TrueWithin
  true_means k h i = means_same R w (TrueWithin R w t k) (RowTrue R w t) (t k)
      (each_map _ _ (λ a l. within_same k (suc a) a l (omega arith) (omega arith)) (t k) (ordered k h)) i

  pub truth_interprets : Interprets R every_cycle w t n (RowTrue R w t)
  truth_interprets k h i = (λ x. (refl, (true_means k h i).0 x), λ x. (true_means k h i).1 x.1)

-- ---- strong truth on a prefix of c cycles

module _ (R : Reading) (c : ℕ) (w : InfiniteTrace) (t : Table) (n : ℕ) (ordered : Ordered n t) where
  strong_within_same : (d e k : ℕ) → k < d → k < e → k < n → (i : ℕ) → StrongWithin R c w t d k i ↔ StrongWithin R c w t e k i
  unfolding StrongWithin
  strong_within_same zero e k p q h i = absurd (omega arith)
  strong_within_same (suc d) zero k p q h i = absurd (omega arith)
  strong_within_same (suc d) (suc e) k p q h i = strong_means_same R c w (StrongWithin R c w t d) (StrongWithin R c w t e) (t k)
      (each_map _ _ (λ a l. strong_within_same d e a (omega arith) (omega arith) (omega arith)) (t k) (ordered k h)) i

  pub strongly_true_means : (k : ℕ) → k < n → (i : ℕ) → RowStronglyTrue R c w t k i ↔ StrongMeans R c w (RowStronglyTrue R c w t) (t k) i
  unfolding RowStronglyTrue StrongWithin
  strongly_true_means k h i = strong_means_same R c w (StrongWithin R c w t k) (RowStronglyTrue R c w t) (t k)
      (each_map _ _ (λ a l. strong_within_same k (suc a) a l (omega arith) (omega arith)) (t k) (ordered k h)) i
