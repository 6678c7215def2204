-- The strong meaning is that of informative prefixes: the first n cycles are informative for a row exactly where the row is
-- strongly true at cycle 0, in any reading (informative-strong). So each infinite trace that begins with an informative prefix
-- satisfies the formula (informative-continued). Normal forms only: no row is a `not`. Assumes nothing.
use Prim.Native.Nat.{ℕ, zero, suc, ◌+◌, ◌-◌, ◌≤◌, ◌<◌}
use mathlib.Core.Path.{◌≡◌, subst, subst⁻¹}
use mathlib.Core.Logic.Iff
use mathlib.Core.Logic.{◌↔◌, ◌⊎◌, inl, inr}
use mathlib.Core.Bool.{true, false}
use native.Mathlib.Nat.{eq-or-lt_of_le}
use native.Mathlib.Omega.{arith}
use Rattle.tables.specs.declared.row.UnaryKind.{UnaryKind}
use Rattle.tables.specs.declared.row.UnaryKind.TheVariants.{Not, Next, Always, Ever}
use Rattle.tables.specs.declared.row.BinaryKind.{BinaryKind}
use Rattle.tables.specs.declared.row.BinaryKind.TheVariants.{And, Or, Weak, Until, Release, Srelease}
use Rattle.tables.specs.declared.row.Row.{Row}
use Rattle.tables.specs.declared.row.Row.TheVariants.{Constant, Signal, Unary, Binary}
use Rattle.meaning.specs.Reading.{Reading}
use Rattle.meaning.specs.Trace.{InfiniteTrace}
use Rattle.meaning.specs.Satisfaction.{Table, RowTrue}
use Rattle.meaning.specs.Strong.{StrongEver, StrongUntil, StrongSrelease, StrongUnaryMeans, StrongBinaryMeans, StrongMeans, RowStronglyTrue}
use Rattle.meaning.specs.Informative.{Labels, Member, UnaryCondition, BinaryCondition, Condition, Labelling, Informative}
use Rattle.meaning.specs.Rows.{Each, Ordered, Positive}
use Rattle.meaning.proofs.Readings.{row_induction, during_cons, during_snoc, on_and_off, on_or_off, sum_map}
use Rattle.meaning.proofs.Rows.{each_map, each_signal}
use Rattle.meaning.proofs.Truth.{strongly_true_means}
use Rattle.meaning.proofs.Evaluation.{bits_of, bits_computed}
use Rattle.meaning.proofs.StrongTruth.{Inside, cycles_below, strong_true}
use Rattle.meaning.proofs.Prefix.{prefix, to_end, prefix_truth, prefix_readings}

-- the reading in which "or" says which side holds and "at some cycle" says at which; strong truth is decided, and may be read so
abbrev direct : Reading
direct = record { M = λ A. A; unit = λ x. x; bind = λ m f. f m; sure = λ x n. n x }

-- ---- from labels to strong truth

-- what goes on from cycle to cycle until G is met, keeping K, and is not there at n, meets G below n
module _ (n : ℕ) (S K G : ℕ → Type 0) (step : (i : ℕ) → i < n → S i → G i ⊎ (K i × S (suc i))) (end : ¬ S n) where
  chain : (d i : ℕ) → i + d ≡ n → S i → StrongUntil direct n K G i
  chain zero i e x = absurd (end (subst S (omega arith) x))
  chain (suc d) i e x = by (step i (omega arith) x) (chain d (suc i) (omega arith))
    where
      by : G i ⊎ (K i × S (suc i)) → (S (suc i) → StrongUntil direct n K G (suc i)) → StrongUntil direct n K G i
      by (inl g) rec = (i, (omega arith, omega arith, g, λ c a b. absurd (omega arith)))
      by (inr y) rec = let z = rec y.1 in (z.0, (omega arith, z.1.1, z.1.2, during_cons K i z.0 y.0 z.1.3))

  met : (i : ℕ) → i < n → S i → StrongUntil direct n K G i
  met i h x = chain (n - i) i (omega arith) x

module _ (n : ℕ) (w : InfiniteTrace) (L : Labels) (v : ℕ → ℕ → Type 0) (k : ℕ) (end : ¬ Member L n k) where
  -- the operand a is strongly true where L has it, which is below n
  abbrev Told : ℕ → Type 0
  Told a = (i : ℕ) → i ≤ n → Member L i a → Inside n (v a) i

  ever_met :
      (a : ℕ) → Told a → ((i : ℕ) → i < n → Member L i k → Member L i a ⊎ Member L (suc i) k)
      → (i : ℕ) → i < n → Member L i k → StrongEver direct n (v a) i
  ever_met a p c i h x =
      let z = met n (λ j. Member L j k) (λ j. Unit {0}) (v a) step end i h x in
      (z.0, (z.1.0, z.1.1, z.1.2))
    where
      step : (j : ℕ) → j < n → Member L j k → v a j ⊎ (Unit {0} × Member L (suc j) k)
      step j l y = sum_map (λ m. (p j (omega arith) m).1) (λ m. (tt, m)) (c j l y)

  until_met :
      (a b : ℕ) → Told a → Told b → ((i : ℕ) → i < n → Member L i k → Member L i b ⊎ (Member L i a × Member L (suc i) k))
      → (i : ℕ) → i < n → Member L i k → StrongUntil direct n (v a) (v b) i
  until_met a b p q c = met n (λ j. Member L j k) (v a) (v b)
      (λ j l y. sum_map (λ m. (q j (omega arith) m).1) (λ m. ((p j (omega arith) m.0).1, m.1)) (c j l y)) end

  srelease_met :
      (a b : ℕ) → Told a → Told b → ((i : ℕ) → i < n → Member L i k → Member L i b × (Member L i a ⊎ Member L (suc i) k))
      → (i : ℕ) → i < n → Member L i k → StrongSrelease direct n (v a) (v b) i
  srelease_met a b p q c i h x =
      let z = met n (λ j. Member L j k) (v b) (λ j. v a j × v b j) step end i h x in
      (z.0, (z.1.0, z.1.1, z.1.2.0, λ m l g. during_snoc (v b) i z.0 z.1.3 z.1.2.1 m l (omega arith)))
    where
      step : (j : ℕ) → j < n → Member L j k → (v a j × v b j) ⊎ (v b j × Member L (suc j) k)
      step j l y =
          let d = c j l y in
          let s = (q j (omega arith) d.0).1 in
          sum_map (λ m. ((p j (omega arith) m).1, s)) (λ m. (s, m)) d.1

  -- so is the row k, which is r, where its conditions are met
  unary_means :
      (a : ℕ) → Told a → (c : UnaryKind) → ((i : ℕ) → i < n → Member L i k → UnaryCondition L c a k i)
      → (i : ℕ) → i < n → Member L i k → StrongUnaryMeans direct n c (v a) i
  unary_means a p Not m i h x = m i h x
  unary_means a p Next m i h x = p (suc i) h (m i h x)
  unary_means a p Always m i h x =
      (met n (λ j. Member L j k) (λ j. Unit {0}) (λ j. ⊥) (λ j l y. inr (tt, (m j l y).1)) end i h x).1.2
  unary_means a p Ever m i h x = ever_met a p m i h x

  binary_means :
      (a b : ℕ) → Told a → Told b → (c : BinaryKind) → ((i : ℕ) → i < n → Member L i k → BinaryCondition L c a b k i)
      → (i : ℕ) → i < n → Member L i k → StrongBinaryMeans direct n c (v a) (v b) i
  binary_means a b p q And m i h x = let y = m i h x in ((p i (omega arith) y.0).1, (q i (omega arith) y.1).1)
  binary_means a b p q Or m i h x = sum_map (λ y. (p i (omega arith) y).1) (λ y. (q i (omega arith) y).1) (m i h x)
  binary_means a b p q Weak m i h x = until_met a b p q m i h x
  binary_means a b p q Until m i h x = until_met a b p q m i h x
  binary_means a b p q Release m i h x = srelease_met a b p q m i h x
  binary_means a b p q Srelease m i h x = srelease_met a b p q m i h x

  labels_mean :
      (r : Row) → Each Told r → ((i : ℕ) → i < n → Member L i k → Condition w L r k i)
      → (i : ℕ) → i < n → Member L i k → StrongMeans direct n w v r i
  labels_mean (Constant c) e m i h x = m i h x
  labels_mean (Signal c s) e m i h x = m i h x
  labels_mean (Unary c a) e m i h x = unary_means a e c m i h x
  labels_mean (Binary c a b) e m i h x = binary_means a b e.0 e.1 c m i h x

-- ---- from strong truth to labels: what the strong operators say at cycle i, by cycle i and what they say at i + 1

module _ (n : ℕ) (P : ℕ → Type 0) (i : ℕ) where
  ever_step : StrongEver direct n P i → P i ⊎ Inside n (StrongEver direct n P) (suc i)
  ever_step x = by (eq-or-lt_of_le x.1.0)
    where
      by : (i ≡ x.0) ⊎ (i < x.0) → P i ⊎ Inside n (StrongEver direct n P) (suc i)
      by (inl e) = inl (subst⁻¹ P e x.1.2)
      by (inr l) = let j<n = x.1.1 in inr (omega arith, (x.0, (l, j<n, x.1.2)))

module _ (n : ℕ) (P Q : ℕ → Type 0) (i : ℕ) where
  until_step : StrongUntil direct n P Q i → Q i ⊎ (P i × Inside n (StrongUntil direct n P Q) (suc i))
  until_step x = by (eq-or-lt_of_le x.1.0)
    where
      by : (i ≡ x.0) ⊎ (i < x.0) → Q i ⊎ (P i × Inside n (StrongUntil direct n P Q) (suc i))
      by (inl e) = inl (subst⁻¹ Q e x.1.2)
      by (inr l) =
          let j<n = x.1.1 in
          inr (x.1.3 i (omega arith) l, (omega arith, (x.0, (l, j<n, x.1.2, λ m a b. x.1.3 m (omega arith) b))))

  srelease_step : StrongSrelease direct n P Q i → Q i × (P i ⊎ Inside n (StrongSrelease direct n P Q) (suc i))
  srelease_step x = (x.1.3 i (omega arith) x.1.0, by (eq-or-lt_of_le x.1.0))
    where
      by : (i ≡ x.0) ⊎ (i < x.0) → P i ⊎ Inside n (StrongSrelease direct n P Q) (suc i)
      by (inl e) = inl (subst⁻¹ P e x.1.2)
      by (inr l) = let j<n = x.1.1 in inr (omega arith, (x.0, (l, j<n, x.1.2, λ m a b. x.1.3 m (omega arith) b)))

module _ (n : ℕ) (w : InfiniteTrace) (L : Labels) (v : ℕ → ℕ → Type 0) (k : ℕ) where
  -- L has the operand a where it is strongly true below n
  abbrev Listed : ℕ → Type 0
  Listed a = (i : ℕ) → Inside n (v a) i → Member L i a

  until_condition :
      (a b : ℕ) → Listed a → Listed b → ((i : ℕ) → Inside n (StrongUntil direct n (v a) (v b)) i → Member L i k)
      → (i : ℕ) → i < n → StrongUntil direct n (v a) (v b) i → Member L i b ⊎ (Member L i a × Member L (suc i) k)
  until_condition a b p q c i h x =
      sum_map (λ y. q i (h, y)) (λ y. (p i (h, y.0), c (suc i) y.1)) (until_step n (v a) (v b) i x)

  srelease_condition :
      (a b : ℕ) → Listed a → Listed b → ((i : ℕ) → Inside n (StrongSrelease direct n (v a) (v b)) i → Member L i k)
      → (i : ℕ) → i < n → StrongSrelease direct n (v a) (v b) i → Member L i b × (Member L i a ⊎ Member L (suc i) k)
  srelease_condition a b p q c i h x =
      let y = srelease_step n (v a) (v b) i x in
      (q i (h, y.0), sum_map (λ z. p i (h, z)) (c (suc i)) y.1)

  -- the row k, which is r, meets its conditions where it is strongly true and L has it wherever it is
  unary_conditions :
      (a : ℕ) → Listed a → (c : UnaryKind) → ((i : ℕ) → Inside n (StrongUnaryMeans direct n c (v a)) i → Member L i k)
      → (i : ℕ) → i < n → StrongUnaryMeans direct n c (v a) i → UnaryCondition L c a k i
  unary_conditions a p Not m i h x = x
  unary_conditions a p Next m i h x = p (suc i) x
  unary_conditions a p Always m i h x = absurd x
  unary_conditions a p Ever m i h x = sum_map (λ y. p i (h, y)) (m (suc i)) (ever_step n (v a) i x)

  binary_conditions :
      (a b : ℕ) → Listed a → Listed b → (c : BinaryKind)
      → ((i : ℕ) → Inside n (StrongBinaryMeans direct n c (v a) (v b)) i → Member L i k)
      → (i : ℕ) → i < n → StrongBinaryMeans direct n c (v a) (v b) i → BinaryCondition L c a b k i
  binary_conditions a b p q And m i h x = (p i (h, x.0), q i (h, x.1))
  binary_conditions a b p q Or m i h x = sum_map (λ y. p i (h, y)) (λ y. q i (h, y)) x
  binary_conditions a b p q Weak m i h x = until_condition a b p q m i h x
  binary_conditions a b p q Until m i h x = until_condition a b p q m i h x
  binary_conditions a b p q Release m i h x = srelease_condition a b p q m i h x
  binary_conditions a b p q Srelease m i h x = srelease_condition a b p q m i h x

  strong_conditions :
      (r : Row) → Each Listed r → ((i : ℕ) → Inside n (StrongMeans direct n w v r) i → Member L i k)
      → (i : ℕ) → i < n → StrongMeans direct n w v r i → Condition w L r k i
  strong_conditions (Constant c) e m i h x = x
  strong_conditions (Signal c s) e m i h x = x
  strong_conditions (Unary c a) e m i h x = unary_conditions a e c m i h x
  strong_conditions (Binary c a b) e m i h x = binary_conditions a b e.0 e.1 c m i h x

-- ---- the theorem

module _ (n : ℕ) (w : InfiniteTrace) (t : Table) (m : ℕ) (ordered : Ordered m t) (positive : (k : ℕ) → k < m → Positive (t k))
    (root : ℕ) (root<m : root < m) (n>0 : 0 < n) where
  abbrev strong : ℕ → ℕ → Type 0
  strong = RowStronglyTrue direct n w t

  means : (k : ℕ) → k < m → (i : ℕ) → strong k i ↔ StrongMeans direct n w strong (t k) i
  means = strongly_true_means direct n w t m ordered

  -- what L has is strongly true
  module _ (L : Labels) (l : Labelling n w t root L) where
    below_end : (k : ℕ) → k ≤ root → (i : ℕ) → i ≤ n → Member L i k → i < n
    below_end k h i a x = by (eq-or-lt_of_le a)
      where
        by : (i ≡ n) ⊎ (i < n) → i < n
        by (inl e) = on_and_off (subst (λ j. Member L j k) e x) (l.ends k h)
        by (inr b) = b

    labelled_strong : (k : ℕ) → k ≤ root → (i : ℕ) → i < n → Member L i k → strong k i
    labelled_strong = row_induction (λ k. k ≤ root → (i : ℕ) → i < n → Member L i k → strong k i) step
      where
        step :
            (k : ℕ) → ((a : ℕ) → a < k → a ≤ root → (i : ℕ) → i < n → Member L i a → strong a i) → k ≤ root
            → (i : ℕ) → i < n → Member L i k → strong k i
        step k ih h i i<n x =
            let k<m : k < m = omega arith in
            let told = each_map _ (Told n w L strong k none) operand (t k) (ordered k k<m) in
            (means k k<m i).1 (labels_mean n w L strong k none (t k) told (l.meets k h) i i<n x)
          where
            none : ¬ Member L n k
            none y = on_and_off y (l.ends k h)

            operand : (a : ℕ) → a < k → Told n w L strong k none a
            operand a b j j≤n y = let j<n = below_end a (omega arith) j j≤n y in (j<n, ih a b (omega arith) j j<n y)

  -- the labels that say where each row is strongly true
  abbrev strong_labels : Labels
  strong_labels i k = bits_of (cycles_below n) (prefix n w) (to_end n w) t k i

  labels_are : (k : ℕ) → k < m → (i : ℕ) → Inside n (strong k) i ↔ Member strong_labels i k
  labels_are = prefix_truth n w t m ordered positive _ (bits_computed (cycles_below n) (prefix n w) (to_end n w) t m ordered) direct

  strong_labelling : strong root 0 → Labelling n w t root strong_labels
  strong_labelling x = record { starts = (labels_are root root<m 0).0 (n>0, x); ends = ends; meets = meets }
    where
      ends : (k : ℕ) → k ≤ root → strong_labels n k ≡ false
      ends k h = by (on_or_off (strong_labels n k))
        where
          by : (strong_labels n k ≡ true) ⊎ (strong_labels n k ≡ false) → strong_labels n k ≡ false
          by (inl y) = let n<n = ((labels_are k (omega arith) n).1 y).0 in absurd (omega arith)
          by (inr y) = y

      meets : (k : ℕ) → k ≤ root → (i : ℕ) → i < n → Member strong_labels i k → Condition w strong_labels (t k) k i
      meets k h i i<n y =
          let k<m : k < m = omega arith in
          strong_conditions n w strong_labels strong k (t k)
          (each_map _ _ (λ a b j. (labels_are a (omega arith) j).0) (t k) (ordered k k<m))
          (λ j z. (labels_are k k<m j).0 (z.0, (means k k<m j).1 z.1)) i i<n ((means k k<m i).0 ((labels_are k k<m i).1 y).1)

  -- the prefix is informative for the root exactly where the root is strongly true at its first cycle
  pub informative_strong : (R : Reading) → Informative n w t root ↔ RowStronglyTrue R n w t root 0
  informative_strong R = Iff.trans
      (λ x. labelled_strong x.0 x.1 root (omega arith) 0 n>0 x.1.starts, λ x. (strong_labels, strong_labelling x))
      (prefix_readings n w t m ordered positive direct R root root<m 0 n>0)

  -- every infinite trace that begins with the prefix satisfies the root
  pub informative_continued :
      Informative n w t root → (w' : InfiniteTrace) → ((i s : ℕ) → i < n → w i s ≡ w' i s) → (R : Reading) → RowTrue R w' t root 0
  informative_continued x w' same R = strong_true R t m ordered positive n w w' (λ i l k h. each_signal _ (λ s. same i s l) (t k))
      root root<m 0 n>0 ((informative_strong R).0 x)
