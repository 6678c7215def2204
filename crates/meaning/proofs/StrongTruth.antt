-- Strong truth on a prefix of n cycles is truth where no row holds from n on (strong-interprets). So it lasts: strong truth on a
-- prefix is truth on every infinite trace that begins with it (strong-true), and strong truth on every longer prefix
-- (strong-longer). Normal forms only: no row is a `not`. Assumes nothing.
use Prim.Native.Nat.{ℕ, ◌≤◌, ◌<◌}
use mathlib.Core.Path.{◌≡◌, refl, subst, sym}
use mathlib.Core.Logic.{◌↔◌, ◌⊎◌, inl, inr}
use mathlib.Core.Bool.{Bool}
use native.Mathlib.Omega.{arith}
use lib.Dec.{ltb}
use borrow.Author.Tests.{lt-ltb, ltb-true}
use Rattle.tables.specs.declared.row.UnaryKind.{UnaryKind}
use Rattle.tables.specs.declared.row.UnaryKind.TheVariants.{Not, Next, Always, Ever}
use Rattle.tables.specs.declared.row.BinaryKind.{BinaryKind}
use Rattle.tables.specs.declared.row.BinaryKind.TheVariants.{And, Or, Weak, Until, Release, Srelease}
use Rattle.tables.specs.declared.row.Row.{Row}
use Rattle.tables.specs.declared.row.Row.TheVariants.{Constant, Signal, Unary, Binary}
use Rattle.tables.specs.declared.trace.Trace.{Trace}
use Rattle.meaning.specs.Reading.{Reading, Either}
use Rattle.meaning.specs.Operator as operator
use Rattle.meaning.specs.Trace.{InfiniteTrace, signal_at, Extends}
use Rattle.meaning.specs.Satisfaction.{Table, SignalMeans, UnaryMeans, BinaryMeans, Means, RowTrue}
use Rattle.meaning.specs.Strong.{StrongUntil, StrongSrelease, StrongUnaryMeans, StrongBinaryMeans, StrongMeans, RowStronglyTrue}
use Rattle.meaning.specs.Rows.{EachSignal, Ordered, positive, Positive}
use Rattle.meaning.proofs.Readings.{into_itself, some_map, either_map, iff_refl, row_induction, On, on_and_off}
use Rattle.meaning.proofs.Rows.{each_map, each_signal, each_signal_map}
use Rattle.meaning.proofs.Monotone.{means_map}
use Rattle.meaning.proofs.Truth.{Interprets, every_cycle, truth_interprets, strongly_true_means}
use Rattle.meaning.proofs.Locality.{SameSignals}

-- true at a cycle below n
abbrev pub Inside : ℕ → (ℕ → Type 0) → ℕ → Type 0
Inside n P j = (j < n) × P j

-- the cycles below n
abbrev pub cycles_below : ℕ → ℕ → Bool
cycles_below n i = ltb i n

-- ---- the strong meaning is the meaning over operands that are false from n on

module _ (R : Reading) (n i : ℕ) (i<n : i < n) where
  not_always : (P : ℕ → Type 0) → ¬ operator.Always (Inside n P) i
  not_always P h = let x = (h n (omega arith)).0 in omega arith

  -- what is weak has to be strong
  only : {A : Type 0} (P : ℕ → Type 0) → Either R A (operator.Always (Inside n P) i) → R.M A
  only {A} P m = R.bind m side
    where
      side : A ⊎ operator.Always (Inside n P) i → R.M A
      side (inl a) = R.unit a
      side (inr h) = absurd (not_always P h)

  unary_inside : (P : ℕ → Type 0) (c : UnaryKind) → On (positive c) → StrongUnaryMeans R n c P i ↔ UnaryMeans R c (Inside n P) i
  unary_inside P Not o = on_and_off o refl
  unary_inside P Next o = iff_refl
  unary_inside P Always o = (λ x. absurd x, not_always P)
  unary_inside P Ever o = (some_map R (λ j x. (x.0, (x.1, x.2))), some_map R (λ j x. (x.0, (x.1).0, (x.1).1)))

  module _ (P Q : ℕ → Type 0) where
    until_inside : StrongUntil R n P Q i ↔ operator.Until R (Inside n P) (Inside n Q) i
    until_inside = (
      some_map R (λ j x. (x.0, (x.1, x.2), λ k a b. (omega arith, x.3 k a b))),
      some_map R (λ j x. (x.0, (x.1).0, (x.1).1, λ k a b. (x.2 k a b).1)),
    )

    srelease_inside : StrongSrelease R n P Q i ↔ operator.Srelease R (Inside n P) (Inside n Q) i
    srelease_inside = (
      some_map R (λ j x. (x.0, (x.1, x.2), λ k a b. (omega arith, x.3 k a b))),
      some_map R (λ j x. (x.0, (x.1).0, (x.1).1, λ k a b. (x.2 k a b).1)),
    )

    binary_inside : (c : BinaryKind) → StrongBinaryMeans R n c P Q i ↔ BinaryMeans R c (Inside n P) (Inside n Q) i
    binary_inside And = (λ x. ((i<n, x.0), (i<n, x.1)), λ x. ((x.0).1, (x.1).1))
    binary_inside Or = (either_map R (λ x. (i<n, x)) (λ x. (i<n, x)), either_map R (λ x. x.1) (λ x. x.1))
    binary_inside Weak = (λ m. R.unit (inl (until_inside.0 m)), λ m. until_inside.1 (R.bind (only P m) (λ u. u)))
    binary_inside Until = until_inside
    binary_inside Release = (λ m. R.unit (inl (srelease_inside.0 m)), λ m. srelease_inside.1 (R.bind (only Q m) (λ u. u)))
    binary_inside Srelease = srelease_inside

  pub strong_means_inside :
      (w w' : InfiniteTrace) (v : ℕ → ℕ → Type 0) (r : Row) → Positive r → EachSignal (λ s. w i s ≡ w' i s) r
      → StrongMeans R n w v r i ↔ Means R w' (λ a. Inside n (v a)) r i
  strong_means_inside w w' v (Constant c) o e = iff_refl
  strong_means_inside w w' v (Signal c s) o e = (subst (SignalMeans c) e, subst (SignalMeans c) (sym e))
  strong_means_inside w w' v (Unary c a) o e = unary_inside (v a) c o
  strong_means_inside w w' v (Binary c a b) o e = binary_inside (v a) (v b) c

-- ---- strong truth interprets the rows, with the cycles below c live

module _ (R : Reading) (c : ℕ) (w w' : InfiniteTrace) (t : Table) (n : ℕ) (ordered : Ordered n t) (positive : (k : ℕ) → k < n → Positive (t k))
    (same : (i : ℕ) → i < c → SameSignals n t w w' i) where
  pub strong_interprets : Interprets R (cycles_below c) w' t n (λ k. Inside c (RowStronglyTrue R c w t k))
  strong_interprets k h i =
      let e = strongly_true_means R c w t n ordered k h i in (
        (λ x. (lt-ltb i c x.0, (strong_means_inside R c i x.0 w w' (RowStronglyTrue R c w t) (t k) (positive k h) (same i x.0 k h)).0 (e.0 x.1))),
        λ x. let l = ltb-true i c x.0 in (l, e.1 ((strong_means_inside R c i l w w' (RowStronglyTrue R c w t) (t k) (positive k h) (same i l k h)).1 x.1)),
      )

-- ---- what holds where fewer cycles are live holds where more are

module _ (R : Reading) (t : Table) (n : ℕ) (ordered : Ordered n t) (positive : (k : ℕ) → k < n → Positive (t k))
    (live live' : ℕ → Bool) (w w' : InfiniteTrace) (wider : (i : ℕ) → On (live i) → On (live' i)) (same : (i : ℕ) → On (live i) → SameSignals n t w w' i)
    (u v : ℕ → ℕ → Type 0) (iu : Interprets R live w t n u) (iv : Interprets R live' w' t n v) where
  pub interprets_wider : (k : ℕ) → k < n → (i : ℕ) → u k i → v k i
  interprets_wider = row_induction (λ k. k < n → (i : ℕ) → u k i → v k i) step
    where
      step : (k : ℕ) → ((a : ℕ) → a < k → a < n → (i : ℕ) → u a i → v a i) → k < n → (i : ℕ) → u k i → v k i
      step k ih h i x =
          let y = (iu k h i).0 x in
          (iv k h i).1 (
            wider i y.0,
            means_map R R (into_itself R) w w' u v i (t k) (positive k h) (same i y.0 k h)
                (each_map _ _ (λ a l j m. ih a l (omega arith) j) (t k) (ordered k h)) y.1,
          )

-- both traces begin with the same c cycles
module _ (R : Reading) (t : Table) (n : ℕ) (ordered : Ordered n t) (positive : (k : ℕ) → k < n → Positive (t k)) (c : ℕ) (w w' : InfiniteTrace)
    (same : (i : ℕ) → i < c → SameSignals n t w w' i) where
  itself : (v : InfiniteTrace) (d i : ℕ) → i < d → SameSignals n t v v i
  itself v d i l k h = each_signal _ (λ s. refl) (t k)

  pub strong_true : (k : ℕ) → k < n → (i : ℕ) → i < c → RowStronglyTrue R c w t k i → RowTrue R w' t k i
  strong_true k h i l x = interprets_wider R t n ordered positive (cycles_below c) every_cycle w w' (λ i e. refl) (λ i e. same i (ltb-true i c e)) _ _
      (strong_interprets R c w w t n ordered positive (itself w c)) (truth_interprets R w' t n ordered) k h i (l, x)

  pub strong_longer : (d : ℕ) → c ≤ d → (k : ℕ) → k < n → (i : ℕ) → i < c → RowStronglyTrue R c w t k i → RowStronglyTrue R d w' t k i
  strong_longer d c≤d k h i l x = (interprets_wider R t n ordered positive (cycles_below c) (cycles_below d) w w'
      (λ i e. let y = ltb-true i c e in lt-ltb i d (omega arith)) (λ i e. same i (ltb-true i c e)) _ _
      (strong_interprets R c w w t n ordered positive (itself w c)) (strong_interprets R d w' w' t n ordered positive (itself w' d)) k h i (l, x)).1

-- ---- an infinite trace that extends a recorded prefix begins with its cycles, on the signals that there are

pub extends_same :
    (x : Trace) (w : InfiniteTrace) → Extends w x → (t : Table) (n : ℕ) → ((k : ℕ) → k < n → EachSignal (λ s. (1 ≤ s) × (s ≤ x.signals)) (t k))
    → (i : ℕ) → i < x.cycles → SameSignals n t (signal_at x) w i
extends_same x w e t n named i l k h = each_signal_map _ _ (t k) (λ s b. sym (e i s l b.0 b.1)) (named k h)
