-- 01'S MEANING IS THE PUBLISHED ONE (figure 1 of document 003, specs/Published): operator by operator, row by row, and for a whole
-- formula. 01 writes release as "srelease, or always"; figure 1 as one "for all". That the second implies the first asks that what
-- is not refuted holds: so it is in a full reading, as the classical one is, and on a lasso in any reading, since truth is decided
-- there. The other operators are the same in any reading. Assumes nothing: excluded middle is an argument where it is used.
use Prim.Native.Nat.{ℕ, zero, suc, ◌≤◌, ◌<◌}
use Prim.Axiom.{Lem}
use mathlib.Core.Path.{◌≡◌, subst⁻¹}
use mathlib.Core.Bool.{Bool}
use mathlib.Core.Logic.Iff
use mathlib.Core.Logic.{◌↔◌, ◌⊎◌, inl, inr, ⊎_elim}
use native.Mathlib.Nat.{eq-or-lt_of_le}
use native.Mathlib.Omega.{arith}
use Rattle.tables.specs.declared.row.SignalKind.{SignalKind}
use Rattle.tables.specs.declared.row.SignalKind.TheVariants.{Sig, Nsig}
use Rattle.tables.specs.declared.row.UnaryKind.{UnaryKind}
use Rattle.tables.specs.declared.row.UnaryKind.TheVariants.{Not, Next, Always, Ever}
use Rattle.tables.specs.declared.row.BinaryKind.{BinaryKind}
use Rattle.tables.specs.declared.row.BinaryKind.TheVariants.{And, Or, Weak, Until, Release, Srelease}
use Rattle.tables.specs.declared.row.Row.{Row}
use Rattle.tables.specs.declared.row.Row.TheVariants.{Constant, Signal, Unary, Binary}
use Rattle.tables.specs.declared.row.Formula.{Formula}
use Rattle.tables.specs.declared.row.NormalForm.{NormalForm}
use Rattle.tables.specs.declared.trace.Trace.{Trace}
use Rattle.meaning.specs.Reading.{Reading, classical, literal, Either}
use Rattle.meaning.specs.Operator as operator
use Rattle.meaning.specs.Trace.{InfiniteTrace, signal_at, unrolled}
use Rattle.meaning.specs.Satisfaction.{Table, table_of, SignalMeans, UnaryMeans, BinaryMeans, Means, RowTrue, Satisfies, SatisfiesNormal}
use Rattle.meaning.specs.Published as published
use Rattle.meaning.specs.Published.{PublishedMeans, PublishedWithin, PublishedTrue, PublishedSatisfies, PublishedSatisfiesNormal}
use Rattle.meaning.specs.Rows.{Each, Ordered}
use Rattle.meaning.proofs.Readings.{Full, classical_full, literal_full, Stable, not_not_stable, map, either_map, some_map, iff_refl, lt_or_le, induction_from, row_induction, on_and_off, not-true}
use Rattle.meaning.proofs.Rows.{each_map}
use Rattle.meaning.proofs.Monotone.{means_same}
use Rattle.meaning.proofs.Truth.{true_means}
use Rattle.meaning.proofs.MeaningByPattern.{srelease_until, release_weak, truth_stable}
use Rattle.meaning.proofs.Lasso.{lasso_decided}
use Rattle.meaning.proofs.Agreement.{satisfies_agree, satisfies_agree_on_lasso}

-- what is not refuted holds
abbrev pub Settled : Type 0 → Type 0
Settled A = ¬ ¬ A → A

settled_along : {A B : Type 0} → A ↔ B → Settled A → Settled B
settled_along e s n = e.0 (s (λ x. n (λ b. x (e.1 b))))

decided_settled : {A : Type 0} → Dec A → Settled A
decided_settled (yes x) n = x
decided_settled (no x) n = absurd (n x)

settled_stable : (R : Reading) {A : Type 0} → Settled A → Stable R A
settled_stable R s m = s (R.sure m)

-- ---- the operators that both write alike

module _ (a : ℕ → Type 0) (i : ℕ) where
  pub next_published : operator.Next a i ↔ published.X a i
  next_published = iff_refl

  pub always_published : operator.Always a i ↔ published.G a i
  always_published = iff_refl

module _ (R : Reading) (a : ℕ → Type 0) (i : ℕ) where
  pub ever_published : operator.Ever R a i ↔ published.F R a i
  ever_published = iff_refl

module _ (R : Reading) (a b : ℕ → Type 0) (i : ℕ) where
  pub until_published : operator.Until R a b i ↔ published.U R a b i
  until_published = iff_refl

  -- the two that figure 1 has not: weak until is (a U b) ∨ G a, strong release is b U (a ∧ b)
  pub weak_published : operator.Weak R a b i ↔ Either R (published.U R a b i) (published.G a i)
  weak_published = iff_refl

  pub srelease_published : operator.Srelease R a b i ↔ published.U R b (λ j. a j × b j) i
  srelease_published = srelease_until R a b i

  -- document 000, figure 1: [a U b] = [a W b] ∧ F b
  pub until_weak : operator.Until R a b i ↔ (operator.Weak R a b i × operator.Ever R b i)
  until_weak = (
    λ u. (R.unit (inl u), some_map R (λ j x. (x.0, x.1)) u),
    λ x. R.bind x.0 (⊎_elim (λ u. u) (λ h. some_map R (λ j y. (y.0, y.1, λ k l m. h k l)) x.1)),
  )

-- ---- release, and weak until as b R (a ∨ b)

-- weak until is not refuted where K goes on at each cycle, or the goal is met
module _ (R : Reading) (K G : ℕ → Type 0) (i : ℕ) (stable : (j : ℕ) → Stable R (K j)) where
  weak_from : ((j : ℕ) → i ≤ j → operator.During K i j → Either R (K j) (operator.Until R K G i)) → ¬ ¬ operator.Weak R K G i
  weak_from step n = n (R.unit (inr (induction_from K i (λ j l d.
      stable j (R.bind (step j l d) (⊎_elim R.unit (λ u. absurd (n (R.unit (inl u))))))))))

module _ (R : Reading) (a b : ℕ → Type 0) (i : ℕ) where
  pub release_implies : operator.Release R a b i → published.R R a b i
  release_implies m j l = R.bind m (⊎_elim
      (map R (λ x. ⊎_elim (λ h. inr (R.unit (x.0, (omega arith, omega arith, x.1.1)))) (λ h. inl (x.1.2 j l h)) (lt_or_le x.0 j)))
      (λ h. R.unit (inl (h j l))))

  pub release_implied : ((j : ℕ) → Stable R (b j)) → published.R R a b i → ¬ ¬ operator.Release R a b i
  release_implied stable p n = weak_from R b (λ j. a j × b j) i stable
      (λ j l d. either_map R (λ x. x) (some_map R (λ k x. (omega arith, (x.2, d k (omega arith) (omega arith)), λ m y h. d m y (omega arith)))) (p j l))
      (λ x. n ((release_weak R a b i).1 x))

  pub weak_implies : operator.Weak R a b i → published.R R b (λ j. Either R (a j) (b j)) i
  weak_implies m j l = R.bind m (⊎_elim
      (map R (λ x. ⊎_elim (λ h. inr (R.unit (x.0, (omega arith, omega arith, x.1.1)))) (λ h. inl (R.unit (now x.0 x.1 (eq-or-lt_of_le h)))) (lt_or_le x.0 j)))
      (λ h. R.unit (inl (R.unit (inl (h j l))))))
    where
      now : (k : ℕ) → (i ≤ k) × b k × operator.During a i k → (j ≡ k) ⊎ (j < k) → a j ⊎ b j
      now k x (inl e) = inr (subst⁻¹ b e x.1)
      now k x (inr h) = inl (x.2 j l h)

  pub weak_implied : ((j : ℕ) → Stable R (a j)) → published.R R b (λ j. Either R (a j) (b j)) i → ¬ ¬ operator.Weak R a b i
  weak_implied stable p = weak_from R a b i stable (λ j l d. R.bind (p j l) (⊎_elim
      (either_map R (λ x. x) (λ y. R.unit (j, (l, y, d))))
      (λ s. R.unit (inr (some_map R (λ k x. (omega arith, x.2, λ m y h. d m y (omega arith))) s)))))

  -- exact in a full reading
  module _ (full : Full R) where
    read_settled : {A : Type 0} → Settled (R.M A)
    read_settled n = full _ (λ f. n (λ m. R.sure m f))

    pub release_published : ((j : ℕ) → Stable R (b j)) → operator.Release R a b i ↔ published.R R a b i
    release_published stable = (release_implies, λ p. read_settled (release_implied stable p))

    pub weak_release : ((j : ℕ) → Stable R (a j)) → operator.Weak R a b i ↔ published.R R b (λ j. Either R (a j) (b j)) i
    weak_release stable = (weak_implies, λ p. read_settled (weak_implied stable p))

-- ---- every kind of row

signal_published : (on : Bool) (c : SignalKind) → SignalMeans c on ↔ published.PublishedSignal c on
signal_published on Sig = iff_refl
signal_published on Nsig = (λ x y. on_and_off y x, not-true on)

module _ (R : Reading) (a : ℕ → Type 0) (i : ℕ) where
  unary_published : (c : UnaryKind) → UnaryMeans R c a i ↔ published.PublishedUnary R c a i
  unary_published Not = iff_refl
  unary_published Next = next_published a i
  unary_published Always = always_published a i
  unary_published Ever = ever_published R a i

module _ (R : Reading) (a b : ℕ → Type 0) (i : ℕ) (stable : (j : ℕ) → Stable R (b j)) where
  binary_published : (c : BinaryKind) → Settled (BinaryMeans R c a b i) → BinaryMeans R c a b i ↔ published.PublishedBinary R c a b i
  binary_published And s = iff_refl
  binary_published Or s = iff_refl
  binary_published Weak s = weak_published R a b i
  binary_published Until s = until_published R a b i
  binary_published Release s = (release_implies R a b i, λ p. s (release_implied R a b i stable p))
  binary_published Srelease s = srelease_published R a b i

module _ (R : Reading) (w : InfiniteTrace) (v : ℕ → ℕ → Type 0) (i : ℕ) where
  pub kind_published :
      (r : Row) → Each (λ a. (j : ℕ) → Stable R (v a j)) r → Settled (Means R w v r i) → Means R w v r i ↔ PublishedMeans R w v r i
  kind_published (Constant c) e s = iff_refl
  kind_published (Signal c p) e s = signal_published (w i p) c
  kind_published (Unary c a) e s = unary_published R (v a) i c
  kind_published (Binary c a b) e s = binary_published R (v a) (v b) i e.1 c s

-- ---- the rows of a table, where their truth is settled

module _ (R : Reading) (w : InfiniteTrace) (t : Table) (n : ℕ) (ordered : Ordered n t)
    (settled : (k : ℕ) → k < n → (i : ℕ) → Settled (RowTrue R w t k i)) where
  -- a row is true exactly when figure 1's clause for its kind is, whatever gives its operands' truth
  by_clause :
      (v : ℕ → ℕ → Type 0) (k : ℕ) → k < n → ((a : ℕ) → a < k → (j : ℕ) → RowTrue R w t a j ↔ v a j) → (i : ℕ)
      → RowTrue R w t k i ↔ PublishedMeans R w v (t k) i
  by_clause v k h same i =
      let operands = each_map (λ a. a < k) (λ a. (j : ℕ) → RowTrue R w t a j ↔ v a j) same (t k) (ordered k h) in
      let stable = each_map (λ a. a < k) (λ a. (j : ℕ) → Stable R (v a j)) (λ a l j. settled_stable R (settled_along (same a l j) (settled a (omega arith) j))) (t k) (ordered k h) in
      let says = Iff.trans (true_means R w t n ordered k h i) (means_same R w (RowTrue R w t) v (t k) operands i) in
      Iff.trans says (kind_published R w v i (t k) stable (settled_along says (settled k h i)))

  by_depth : (d k : ℕ) → k < d → k < n → (i : ℕ) → RowTrue R w t k i ↔ PublishedWithin R w t d k i
  unfolding PublishedWithin
  by_depth zero k p h i = absurd (omega arith)
  by_depth (suc d) k p h i = by_clause (PublishedWithin R w t d) k h (λ a l. by_depth d a (omega arith) (omega arith)) i

  by_figure : (k : ℕ) → k < n → (i : ℕ) → RowTrue R w t k i ↔ PublishedTrue R w t k i
  unfolding PublishedTrue
  by_figure k h = by_depth (suc k) k (omega arith) h

module _ (t : Table) (n : ℕ) (ordered : Ordered n t) where
  -- on a lasso, in any reading
  pub lasso_published :
      (R : Reading) (x : Trace) (l : ℕ) → l < x.cycles → (k : ℕ) → k < n → (i : ℕ)
      → RowTrue R (unrolled x l) t k i ↔ PublishedTrue R (unrolled x l) t k i
  lasso_published R x l y = by_figure R (unrolled x l) t n ordered (λ k h i. decided_settled (lasso_decided x.cycles l y (signal_at x) t n ordered R k h i))

  -- on every infinite trace, in a full reading
  module _ (R : Reading) (full : Full R) (w : InfiniteTrace) where
    truth_settled : (k : ℕ) → k < n → (i : ℕ) → Settled (RowTrue R w t k i)
    truth_settled k h i = not_not_stable R full (truth_stable R w t n ordered k h i)

    pub row_published : (k : ℕ) → k < n → (i : ℕ) → RowTrue R w t k i ↔ PublishedMeans R w (RowTrue R w t) (t k) i
    row_published k h = by_clause R w t n ordered truth_settled (RowTrue R w t) k h (λ a l j. iff_refl)

    pub truth_published : (k : ℕ) → k < n → (i : ℕ) → RowTrue R w t k i ↔ PublishedTrue R w t k i
    truth_published = by_figure R w t n ordered truth_settled

    -- figure 1's clauses hold of what is true by it, so the depth to which it reads is enough; and they hold of nothing else
    pub published_means : (k : ℕ) → k < n → (i : ℕ) → PublishedTrue R w t k i ↔ PublishedMeans R w (PublishedTrue R w t) (t k) i
    published_means k h i = Iff.trans (Iff.symm (truth_published k h i))
        (by_clause R w t n ordered truth_settled (PublishedTrue R w t) k h (λ a l. truth_published a (omega arith)) i)

    pub published_unique :
        (v : ℕ → ℕ → Type 0) → ((k : ℕ) → k < n → (i : ℕ) → v k i ↔ PublishedMeans R w v (t k) i) → (k : ℕ) → k < n → (i : ℕ)
        → RowTrue R w t k i ↔ v k i
    published_unique v says = row_induction (λ k. k < n → (i : ℕ) → RowTrue R w t k i ↔ v k i) (λ k ih h i.
        Iff.trans (by_clause R w t n ordered truth_settled v k h (λ a l. ih a l (omega arith)) i) (Iff.symm (says k h i)))

  -- in the reading of the claims, with no hypothesis left
  pub row_as_published : (w : InfiniteTrace) (k : ℕ) → k < n → (i : ℕ) → RowTrue classical w t k i ↔ PublishedMeans classical w (RowTrue classical w t) (t k) i
  row_as_published = row_published classical classical_full

-- ---- whole formulas

module _ (f : Formula) (ordered : Ordered (suc f.rows) (table_of f.places)) where
  -- THE CLAIM: an infinite trace satisfies a formula exactly when it does so by figure 1
  pub published_satisfies : (w : InfiniteTrace) → Satisfies classical w f ↔ PublishedSatisfies classical w f
  published_satisfies w = truth_published (table_of f.places) (suc f.rows) ordered classical classical_full w f.rows (omega arith) 0

  -- and by figure 1 with the prover's own "or" and "there is": on every trace given excluded middle, on a lasso outright
  pub published_literally : Lem {0} → (w : InfiniteTrace) → Satisfies classical w f ↔ PublishedSatisfies literal w f
  published_literally excluded-middle w = Iff.trans (Iff.symm (satisfies_agree f ordered excluded-middle w))
      (truth_published (table_of f.places) (suc f.rows) ordered literal (literal_full excluded-middle) w f.rows (omega arith) 0)

  pub published_on_lasso : (x : Trace) (l : ℕ) → l < x.cycles → Satisfies classical (unrolled x l) f ↔ PublishedSatisfies literal (unrolled x l) f
  published_on_lasso x l h = Iff.trans (Iff.symm (satisfies_agree_on_lasso f ordered x l h))
      (lasso_published (table_of f.places) (suc f.rows) ordered literal x l h f.rows (omega arith) 0)

pub published_satisfies_normal :
    (g : NormalForm) → Ordered (suc g.rows) (table_of g.places) → (w : InfiniteTrace)
    → SatisfiesNormal classical w g ↔ PublishedSatisfiesNormal classical w g
published_satisfies_normal g ordered w = truth_published (table_of g.places) (suc g.rows) ordered classical classical_full w g.rows (omega arith) 0
