-- Both meanings are monotone in the operands, `not` apart, and in the reading: where operands and signals agree, so do the
-- meanings (means-iff, strong-means-iff, and means-same, strong-means-same on one trace). Assumes nothing.
use Prim.Native.Nat.{ℕ, suc, ◌+◌, ◌≤◌, ◌<◌}
use mathlib.Core.Path.{◌≡◌, refl, subst, sym}
use mathlib.Core.Logic.{◌↔◌}
use native.Mathlib.Omega.{arith}
use Rattle.tables.specs.declared.row.UnaryKind.{UnaryKind}
use Rattle.tables.specs.declared.row.UnaryKind.TheVariants.{Not, Next, Always, Ever}
use Rattle.tables.specs.declared.row.BinaryKind.{BinaryKind}
use Rattle.tables.specs.declared.row.BinaryKind.TheVariants.{And, Or, Weak, Until, Release, Srelease}
use Rattle.tables.specs.declared.row.Row.{Row}
use Rattle.tables.specs.declared.row.Row.TheVariants.{Constant, Signal, Unary, Binary}
use Rattle.meaning.specs.Reading.{Reading}
use Rattle.meaning.specs.Operator as operator
use Rattle.meaning.specs.Trace.{InfiniteTrace}
use Rattle.meaning.specs.Satisfaction.{SignalMeans, UnaryMeans, BinaryMeans, Means}
use Rattle.meaning.specs.Strong.{StrongUntil, StrongSrelease, StrongUnaryMeans, StrongBinaryMeans, StrongMeans}
use Rattle.meaning.specs.Rows.{Each, EachSignal, positive, Positive}
use Rattle.meaning.specs.Pattern.{Pattern, unary_pattern, binary_pattern, pattern_of}
use Rattle.meaning.proofs.Readings.{Into, into_itself, some_map, either_map, On, on_and_off}
use Rattle.meaning.proofs.Rows.{each_map, each_signal, each_signal_map}
use Rattle.meaning.proofs.Reach.{Reaches}

-- ---- each kind, where the operands grow at the cycles that it reaches from i

module _ (R S : Reading) (into : Into R S) (i : ℕ) (a a' : ℕ → Type 0) where
  unary_map :
      (c : UnaryKind) → ((j : ℕ) → Reaches (unary_pattern c) i j → a j → a' j) → On (positive c) → UnaryMeans R c a i → UnaryMeans S c a' i
  unary_map Not p o = on_and_off o refl
  unary_map Next p o = p (suc i) (omega arith)
  unary_map Always p o = λ h j l. p j l (h j l)
  unary_map Ever p o = λ x. into _ (some_map R (λ j y. (y.0, p j y.0 y.1)) x)

module _ (R S : Reading) (into : Into R S) (i : ℕ) (a b a' b' : ℕ → Type 0) where
  module _ (p : (j : ℕ) → i ≤ j → a j → a' j) (q : (j : ℕ) → i ≤ j → b j → b' j) where
    pub until_map : operator.Until R a b i → operator.Until S a' b' i
    until_map m = into _ (some_map R (λ j x. (x.0, q j x.0 x.1, λ k l h. p k l (x.2 k l h))) m)

    pub srelease_map : operator.Srelease R a b i → operator.Srelease S a' b' i
    srelease_map m = into _ (some_map R (λ j x. (x.0, p j x.0 x.1, λ k l h. q k l (x.2 k l h))) m)

    pub weak_map : operator.Weak R a b i → operator.Weak S a' b' i
    weak_map m = into _ (either_map R until_map (λ h j l. p j l (h j l)) m)

    pub release_map : operator.Release R a b i → operator.Release S a' b' i
    release_map m = into _ (either_map R srelease_map (λ h j l. q j l (h j l)) m)

  binary_map :
      (c : BinaryKind) → ((j : ℕ) → Reaches (binary_pattern c) i j → a j → a' j) → ((j : ℕ) → Reaches (binary_pattern c) i j → b j → b' j)
      → BinaryMeans R c a b i → BinaryMeans S c a' b' i
  binary_map And p q = λ x. (p i (omega arith) x.0, q i (omega arith) x.1)
  binary_map Or p q = λ x. into _ (either_map R (p i (omega arith)) (q i (omega arith)) x)
  binary_map Weak p q = weak_map p q
  binary_map Until p q = until_map p q
  binary_map Release p q = release_map p q
  binary_map Srelease p q = srelease_map p q

-- where they agree, `not` included
module _ (R S : Reading) (into : Into R S) (back : Into S R) (i : ℕ) (a a' : ℕ → Type 0) where
  unary_both :
      (c : UnaryKind) → On (positive c) → ((j : ℕ) → Reaches (unary_pattern c) i j → a j ↔ a' j) → UnaryMeans R c a i ↔ UnaryMeans S c a' i
  unary_both c o e = (unary_map R S into i a a' c (λ j l. (e j l).0) o, unary_map S R back i a' a c (λ j l. (e j l).1) o)

  unary_iff : (c : UnaryKind) → ((j : ℕ) → Reaches (unary_pattern c) i j → a j ↔ a' j) → UnaryMeans R c a i ↔ UnaryMeans S c a' i
  unary_iff Not e = (λ n x. n ((e i (omega arith)).1 x), λ n x. n ((e i (omega arith)).0 x))
  unary_iff Next e = unary_both Next refl e
  unary_iff Always e = unary_both Always refl e
  unary_iff Ever e = unary_both Ever refl e

-- ---- rows

module _ (R S : Reading) (into : Into R S) (w w' : InfiniteTrace) (u v : ℕ → ℕ → Type 0) (i : ℕ) where
  pub means_map :
      (r : Row) → Positive r → EachSignal (λ s. w i s ≡ w' i s) r → Each (λ a. (j : ℕ) → Reaches (pattern_of r) i j → u a j → v a j) r
      → Means R w u r i → Means S w' v r i
  means_map (Constant c) o e m = λ x. x
  means_map (Signal c s) o e m = subst (SignalMeans c) e
  means_map (Unary c a) o e m = unary_map R S into i (u a) (v a) c m o
  means_map (Binary c a b) o e m = binary_map R S into i (u a) (u b) (v a) (v b) c m.0 m.1

-- at cycle i a row depends on its operands at the cycles that it reaches, on its signal at i, and on what the reading reads
module _ (R S : Reading) (into : Into R S) (back : Into S R) (w w' : InfiniteTrace) (u v : ℕ → ℕ → Type 0) (i : ℕ) where
  abbrev Agree : Pattern → ℕ → Type 0
  Agree p a = (j : ℕ) → Reaches p i j → u a j ↔ v a j

  both : (r : Row) → Positive r → EachSignal (λ s. w i s ≡ w' i s) r → Each (Agree (pattern_of r)) r → Means R w u r i ↔ Means S w' v r i
  both r o e m = (
    means_map R S into w w' u v i r o e (each_map _ _ (λ a f j l. (f j l).0) r m),
    means_map S R back w' w v u i r o (each_signal_map _ _ r (λ s. sym) e) (each_map _ _ (λ a f j l. (f j l).1) r m),
  )

  pub means_iff : (r : Row) → EachSignal (λ s. w i s ≡ w' i s) r → Each (Agree (pattern_of r)) r → Means R w u r i ↔ Means S w' v r i
  means_iff (Constant c) = both (Constant c) tt
  means_iff (Signal c s) = both (Signal c s) tt
  means_iff (Unary c a) = λ e m. unary_iff R S into back i (u a) (v a) c m
  means_iff (Binary c a b) = both (Binary c a b) tt

-- on one trace, in one reading
pub means_same :
    (R : Reading) (w : InfiniteTrace) (u v : ℕ → ℕ → Type 0) (r : Row) → Each (λ a. (j : ℕ) → u a j ↔ v a j) r → (i : ℕ)
    → Means R w u r i ↔ Means R w v r i
means_same R w u v r e i = means_iff R R (into_itself R) (into_itself R) w w u v i r (each_signal _ (λ s. refl) r) (each_map _ _ (λ a f j l. f j) r e)

-- ---- the strong meaning on n cycles, where the operands grow at the cycles below d

module _ (R : Reading) (n d : ℕ) (n≤d : n ≤ d) (i : ℕ) (i<d : i < d) where
  abbrev Grows : (ℕ → Type 0) → (ℕ → Type 0) → Type 0
  Grows a a' = (j : ℕ) → j < d → a j → a' j

  strong_unary_map : (a a' : ℕ → Type 0) → Grows a a' → (c : UnaryKind) → StrongUnaryMeans R n c a i → StrongUnaryMeans R n c a' i
  strong_unary_map a a' p Not = λ x. x
  strong_unary_map a a' p Next = λ x. (x.0, p (suc i) (omega arith) x.1)
  strong_unary_map a a' p Always = λ x. x
  strong_unary_map a a' p Ever = some_map R (λ j x. (x.0, x.1, p j (omega arith) x.2))

  module _ (a b a' b' : ℕ → Type 0) (p : Grows a a') (q : Grows b b') where
    strong_until : StrongUntil R n a b i → StrongUntil R n a' b' i
    strong_until = some_map R (λ j x. (x.0, x.1, q j (omega arith) x.2, λ k l h. p k (omega arith) (x.3 k l h)))

    strong_srelease : StrongSrelease R n a b i → StrongSrelease R n a' b' i
    strong_srelease = some_map R (λ j x. (x.0, x.1, p j (omega arith) x.2, λ k l h. q k (omega arith) (x.3 k l h)))

    strong_binary_map : (c : BinaryKind) → StrongBinaryMeans R n c a b i → StrongBinaryMeans R n c a' b' i
    strong_binary_map And = λ x. (p i i<d x.0, q i i<d x.1)
    strong_binary_map Or = either_map R (p i i<d) (q i i<d)
    strong_binary_map Weak = strong_until
    strong_binary_map Until = strong_until
    strong_binary_map Release = strong_srelease
    strong_binary_map Srelease = strong_srelease

module _ (R : Reading) (n d : ℕ) (n≤d : n ≤ d) (w w' : InfiniteTrace) (u v : ℕ → ℕ → Type 0) (i : ℕ) (i<d : i < d) where
  pub strong_means_map :
      (r : Row) → EachSignal (λ s. w i s ≡ w' i s) r → Each (λ a. (j : ℕ) → j < d → u a j → v a j) r → StrongMeans R n w u r i
      → StrongMeans R n w' v r i
  strong_means_map (Constant c) e m = λ x. x
  strong_means_map (Signal c s) e m = subst (SignalMeans c) e
  strong_means_map (Unary c a) e m = strong_unary_map R n d n≤d i i<d (u a) (v a) m c
  strong_means_map (Binary c a b) e m = strong_binary_map R n d n≤d i i<d (u a) (u b) (v a) (v b) m.0 m.1 c

module _ (R : Reading) (n d : ℕ) (n≤d : n ≤ d) (w w' : InfiniteTrace) (u v : ℕ → ℕ → Type 0) (i : ℕ) (i<d : i < d) where
  pub strong_means_iff :
      (r : Row) → EachSignal (λ s. w i s ≡ w' i s) r → Each (λ a. (j : ℕ) → j < d → u a j ↔ v a j) r
      → StrongMeans R n w u r i ↔ StrongMeans R n w' v r i
  strong_means_iff r e m = (
    strong_means_map R n d n≤d w w' u v i i<d r e (each_map _ _ (λ a f j l. (f j l).0) r m),
    strong_means_map R n d n≤d w' w v u i i<d r (each_signal_map _ _ r (λ s. sym) e) (each_map _ _ (λ a f j l. (f j l).1) r m),
  )

pub strong_means_same :
    (R : Reading) (n : ℕ) (w : InfiniteTrace) (u v : ℕ → ℕ → Type 0) (r : Row) → Each (λ a. (j : ℕ) → u a j ↔ v a j) r → (i : ℕ)
    → StrongMeans R n w u r i ↔ StrongMeans R n w v r i
strong_means_same R n w u v r e i =
    strong_means_iff R n (suc (n + i)) (omega arith) w w u v i (omega arith) r (each_signal _ (λ s. refl) r) (each_map _ _ (λ a f j l. f j) r e)
