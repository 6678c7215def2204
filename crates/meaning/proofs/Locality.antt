-- What the truth of a row depends on: the signals that the rows up to it name, at the cycles that they reach, and what the reading reads
-- (truth-local, truth-read); strong truth on a prefix on the cycles of the prefix alone (strong-truth-local). Assumes nothing.
use Prim.Native.Nat.{ℕ, ◌<◌}
use mathlib.Core.Path.{◌≡◌, refl, subst}
use mathlib.Core.Logic.Iff
use mathlib.Core.Logic.{◌↔◌}
use native.Mathlib.Omega.{arith}
use Rattle.meaning.specs.Reading.{Reading}
use Rattle.meaning.specs.Trace.{InfiniteTrace}
use Rattle.meaning.specs.Satisfaction.{Table, Means, RowTrue}
use Rattle.meaning.specs.Strong.{StrongMeans, RowStronglyTrue}
use Rattle.meaning.specs.Rows.{Each, EachSignal, Ordered}
use Rattle.meaning.specs.Pattern.{pattern_of}
use Rattle.meaning.proofs.Readings.{Into, into_itself, row_induction}
use Rattle.meaning.proofs.Rows.{each_map, each_signal}
use Rattle.meaning.proofs.Reach.{Reaches}
use Rattle.meaning.proofs.Monotone.{means_iff, means_same, strong_means_iff, strong_means_same}
use Rattle.meaning.proofs.Truth.{true_means, strongly_true_means}

-- both traces have the same signals in cycle i, those that the rows below n name
abbrev pub SameSignals : ℕ → Table → InfiniteTrace → InfiniteTrace → ℕ → Type 0
SameSignals n t w w' i = (k : ℕ) → k < n → EachSignal (λ s. w i s ≡ w' i s) (t k)

-- C: cycles that the rows below n do not lead out of
module _ (R S : Reading) (into : Into R S) (back : Into S R) (w w' : InfiniteTrace) (t : Table) (n : ℕ) (ordered : Ordered n t)
    (C : ℕ → Type 0) (closed : (k : ℕ) → k < n → (i j : ℕ) → C i → Reaches (pattern_of (t k)) i j → C j) (same : (i : ℕ) → C i → SameSignals n t w w' i) where
  agree : (k : ℕ) → k < n → (i : ℕ) → C i → RowTrue R w t k i ↔ RowTrue S w' t k i
  agree = row_induction (λ k. k < n → (i : ℕ) → C i → RowTrue R w t k i ↔ RowTrue S w' t k i) step
    where
      step :
          (k : ℕ) → ((a : ℕ) → a < k → a < n → (i : ℕ) → C i → RowTrue R w t a i ↔ RowTrue S w' t a i) → k < n → (i : ℕ) → C i
          → RowTrue R w t k i ↔ RowTrue S w' t k i
      step k ih h i c =
          let operands = each_map (λ a. a < k) (λ a. (j : ℕ) → Reaches (pattern_of (t k)) i j → RowTrue R w t a j ↔ RowTrue S w' t a j)
          (λ a x j y. ih a x (omega arith) j (closed k h i j c y)) (t k) (ordered k h) in
          let said = means_iff R S into back w w' (RowTrue R w t) (RowTrue S w' t) i (t k) (same i c k h) operands in
          Iff.trans (true_means R w t n ordered k h i) (Iff.trans said (Iff.symm (true_means S w' t n ordered k h i)))

pub truth_local :
    (R : Reading) (w w' : InfiniteTrace) (t : Table) (n : ℕ) → Ordered n t → (C : ℕ → Type 0)
    → ((k : ℕ) → k < n → (i j : ℕ) → C i → Reaches (pattern_of (t k)) i j → C j) → ((i : ℕ) → C i → SameSignals n t w w' i) → (k : ℕ)
    → k < n → (i : ℕ) → C i → RowTrue R w t k i ↔ RowTrue R w' t k i
truth_local R w w' t n ordered C closed same = agree R R (into_itself R) (into_itself R) w w' t n ordered C closed same

-- at all cycles
pub truth_everywhere :
    (R : Reading) (w w' : InfiniteTrace) (t : Table) (n : ℕ) → Ordered n t → ((i : ℕ) → SameSignals n t w w' i) → (k : ℕ) → k < n → (i : ℕ)
    → RowTrue R w t k i ↔ RowTrue R w' t k i
truth_everywhere R w w' t n ordered same k h i = truth_local R w w' t n ordered (λ j. Unit {0}) (λ a x j e c r. tt) (λ j c. same j) k h i tt

-- two readings that read the same
pub truth_read :
    (R S : Reading) → Into R S → Into S R → (w : InfiniteTrace) (t : Table) (n : ℕ) → Ordered n t → (k : ℕ) → k < n → (i : ℕ)
    → RowTrue R w t k i ↔ RowTrue S w t k i
truth_read R S into back w t n ordered k h i =
    agree R S into back w w t n ordered (λ j. Unit {0}) (λ a x j e c r. tt) (λ j c a x. each_signal _ (λ s. refl) (t a)) k h i tt

-- rows from n on do not matter
module _ (R : Reading) (w : InfiniteTrace) (t t' : Table) (n : ℕ) (same : (k : ℕ) → k < n → t k ≡ t' k) (ordered : Ordered n t) where
  pub ordered_too : Ordered n t'
  ordered_too k h = subst (Each (λ a. a < k)) (same k h) (ordered k h)

  pub truth_of_rows : (k : ℕ) → k < n → (i : ℕ) → RowTrue R w t k i ↔ RowTrue R w t' k i
  truth_of_rows = row_induction (λ k. k < n → (i : ℕ) → RowTrue R w t k i ↔ RowTrue R w t' k i) step
    where
      step :
          (k : ℕ) → ((a : ℕ) → a < k → a < n → (i : ℕ) → RowTrue R w t a i ↔ RowTrue R w t' a i) → k < n → (i : ℕ)
          → RowTrue R w t k i ↔ RowTrue R w t' k i
      step k ih h i =
          let said = means_same R w (RowTrue R w t) (RowTrue R w t') (t k) (each_map _ _ (λ a x. ih a x (omega arith)) (t k) (ordered k h)) i in
          let moved = subst (λ r. Means R w (RowTrue R w t) (t k) i ↔ Means R w (RowTrue R w t') r i) (same k h) said in
          Iff.trans (true_means R w t n ordered k h i) (Iff.trans moved (Iff.symm (true_means R w t' n ordered_too k h i)))

  pub strong_truth_of_rows : (c k : ℕ) → k < n → (i : ℕ) → RowStronglyTrue R c w t k i ↔ RowStronglyTrue R c w t' k i
  strong_truth_of_rows c = row_induction (λ k. k < n → (i : ℕ) → RowStronglyTrue R c w t k i ↔ RowStronglyTrue R c w t' k i) step
    where
      step :
          (k : ℕ) → ((a : ℕ) → a < k → a < n → (i : ℕ) → RowStronglyTrue R c w t a i ↔ RowStronglyTrue R c w t' a i) → k < n → (i : ℕ)
          → RowStronglyTrue R c w t k i ↔ RowStronglyTrue R c w t' k i
      step k ih h i =
          let said = strong_means_same R c w (RowStronglyTrue R c w t) (RowStronglyTrue R c w t') (t k) (each_map _ _ (λ a x. ih a x (omega arith)) (t k) (ordered k h)) i in
          let moved = subst (λ r. StrongMeans R c w (RowStronglyTrue R c w t) (t k) i ↔ StrongMeans R c w (RowStronglyTrue R c w t') r i) (same k h) said in
          Iff.trans (strongly_true_means R c w t n ordered k h i) (Iff.trans moved (Iff.symm (strongly_true_means R c w t' n ordered_too k h i)))

module _ (R : Reading) (c : ℕ) (w w' : InfiniteTrace) (t : Table) (n : ℕ) (ordered : Ordered n t)
    (same : (i : ℕ) → i < c → SameSignals n t w w' i) where
  pub strong_truth_local : (k : ℕ) → k < n → (i : ℕ) → i < c → RowStronglyTrue R c w t k i ↔ RowStronglyTrue R c w' t k i
  strong_truth_local = row_induction (λ k. k < n → (i : ℕ) → i < c → RowStronglyTrue R c w t k i ↔ RowStronglyTrue R c w' t k i) step
    where
      step :
          (k : ℕ) → ((a : ℕ) → a < k → a < n → (i : ℕ) → i < c → RowStronglyTrue R c w t a i ↔ RowStronglyTrue R c w' t a i) → k < n → (i : ℕ)
          → i < c → RowStronglyTrue R c w t k i ↔ RowStronglyTrue R c w' t k i
      step k ih h i l =
          let operands = each_map (λ a. a < k) (λ a. (j : ℕ) → j < c → RowStronglyTrue R c w t a j ↔ RowStronglyTrue R c w' t a j) (λ a x. ih a x (omega arith)) (t k) (ordered k h) in
          let said = strong_means_iff R c c (omega arith) w w' (RowStronglyTrue R c w t) (RowStronglyTrue R c w' t) i l (t k) (same i l k h) operands in
          Iff.trans (strongly_true_means R c w t n ordered k h i) (Iff.trans said (Iff.symm (strongly_true_means R c w' t n ordered k h i)))
