-- The one lemma between the meaning and the patterns (means-pattern); that patterns are monotone; and that all truths are stable: a
-- reading of a truth is that truth (interprets-stable). Assumes nothing.
use Prim.Native.Nat.{ℕ, suc, ◌≤◌, ◌<◌}
use mathlib.Core.Path.{◌≡◌, refl}
use mathlib.Core.Logic.{◌↔◌, ◌⊎◌, inl, inr}
use mathlib.Core.Bool.{Bool, true, false}
use native.Mathlib.Omega.{arith}
use Rattle.tables.specs.declared.row.ConstantKind.{ConstantKind}
use Rattle.tables.specs.declared.row.ConstantKind.TheVariants.{True, False}
use Rattle.tables.specs.declared.row.SignalKind.{SignalKind}
use Rattle.tables.specs.declared.row.SignalKind.TheVariants.{Sig, Nsig}
use Rattle.tables.specs.declared.row.UnaryKind.{UnaryKind}
use Rattle.tables.specs.declared.row.UnaryKind.TheVariants.{Not, Next, Always, Ever}
use Rattle.tables.specs.declared.row.BinaryKind.{BinaryKind}
use Rattle.tables.specs.declared.row.BinaryKind.TheVariants.{And, Or, Weak, Until, Release, Srelease}
use Rattle.tables.specs.declared.row.Row.{Row}
use Rattle.tables.specs.declared.row.Row.TheVariants.{Constant, Signal, Unary, Binary}
use Rattle.meaning.specs.Reading.{Reading}
use Rattle.meaning.specs.Operator as operator
use Rattle.meaning.specs.Trace.{InfiniteTrace}
use Rattle.meaning.specs.Satisfaction.{Table, ConstantMeans, SignalMeans, UnaryMeans, BinaryMeans, Means, RowTrue}
use Rattle.meaning.specs.Rows.{Each, Ordered, positive}
use Rattle.meaning.specs.Pattern.{Pattern, Pattern.now, Pattern.next, Pattern.connective, Pattern.temporal}
use Rattle.meaning.specs.Pattern.{Operand.row, constant_bit, signal_sign, unary_left, unary_pattern, binary_pattern, left, right, pattern_of}
use Rattle.meaning.proofs.Readings.{map, some_map, either_map, into_itself, Stable, stable_on, stable_equal, stable_not, iff_refl, row_induction, On, on_and_off, during_snoc}
use Rattle.meaning.proofs.Rows.{each_map}
use Rattle.meaning.proofs.Monotone.{until_map, weak_map}
use Rattle.meaning.proofs.Pattern.{Keep, Goal, Holds, PatternMeans, Signed, OperandTrue, both_operands}
use Rattle.meaning.proofs.Truth.{Interprets, every_cycle, truth_interprets}

-- ---- the operators as until and weak until

module _ (R : Reading) (a b : ℕ → Type 0) (i : ℕ) where
  pub srelease_until : operator.Srelease R a b i ↔ operator.Until R b (λ j. a j × b j) i
  srelease_until = (
    some_map R (λ j x. (x.0, (x.1, x.2 j x.0 (omega arith)), λ k l h. x.2 k l (omega arith))),
    some_map R (λ j x. (x.0, (x.1).0, λ k l h. during_snoc b i j x.2 (x.1).1 k l (omega arith))),
  )

  pub release_weak : operator.Release R a b i ↔ operator.Weak R b (λ j. a j × b j) i
  release_weak = (either_map R srelease_until.0 (λ x. x), either_map R srelease_until.1 (λ x. x))

module _ (R : Reading) (a : ℕ → Type 0) (i : ℕ) where
  pub ever_until : operator.Ever R a i ↔ operator.Until R (λ j. On true) a i
  ever_until = (some_map R (λ j x. (x.0, x.1, λ k l h. refl)), some_map R (λ j x. (x.0, x.1)))

  pub always_weak : ((j : ℕ) → Stable R (a j)) → operator.Always a i ↔ operator.Weak R a (λ j. On false × a j) i
  always_weak stable = (λ h. R.unit (inr h), λ m j l. stable j (R.bind m (out j l)))
    where
      out : (j : ℕ) → i ≤ j → operator.Until R a (λ j. On false × a j) i ⊎ operator.Always a i → R.M (a j)
      out j l (inl u) = R.bind u (λ x. on_and_off x.1.1.0 refl)
      out j l (inr h) = R.unit (h j l)

-- ---- the tie

constant_pattern : (c : ConstantKind) → ConstantMeans c ↔ On (constant_bit c)
constant_pattern True = (λ x. refl, λ x. tt)
constant_pattern False = (λ x. absurd x, λ x. on_and_off x refl)

signal_pattern : (on : Bool) (c : SignalKind) → SignalMeans c on ↔ (on ≡ signal_sign c)
signal_pattern on Sig = iff_refl
signal_pattern on Nsig = iff_refl

module _ (R : Reading) (a : ℕ → Type 0) (stable : (j : ℕ) → Stable R (a j)) (i : ℕ) where
  unary_pattern_lem : (c : UnaryKind) → UnaryMeans R c a i ↔ Holds R (λ j. On (unary_left c)) (λ j. Signed (positive c) (a j)) (unary_pattern c) i
  unary_pattern_lem Not = iff_refl
  unary_pattern_lem Next = iff_refl
  unary_pattern_lem Always = always_weak R a i stable
  unary_pattern_lem Ever = ever_until R a i

module _ (R : Reading) (a b : ℕ → Type 0) (i : ℕ) where
  binary_pattern_lem : (c : BinaryKind) → BinaryMeans R c a b i ↔ Holds R a b (binary_pattern c) i
  binary_pattern_lem And = iff_refl
  binary_pattern_lem Or = iff_refl
  binary_pattern_lem Weak = iff_refl
  binary_pattern_lem Until = iff_refl
  binary_pattern_lem Release = release_weak R a b i
  binary_pattern_lem Srelease = srelease_until R a b i

module _ (R : Reading) (w : InfiniteTrace) (v : ℕ → ℕ → Type 0) (i : ℕ) where
  pub means_pattern : (r : Row) → Each (λ a. (j : ℕ) → Stable R (v a j)) r → Means R w v r i ↔ PatternMeans R w v r i
  means_pattern (Constant c) e = constant_pattern c
  means_pattern (Signal c s) e = signal_pattern (w i s) c
  means_pattern (Unary c a) e = unary_pattern_lem R (v a) e i c
  means_pattern (Binary c a b) e = binary_pattern_lem R (v a) (v b) i c

-- ---- monotonicity

keep_map : (f : Bool) {A B C D : Type 0} → (A → C) → (B → D) → Keep f A B → Keep f C D
keep_map true p q = p
keep_map false p q = q

goal_map : (f : Bool) {A B C D : Type 0} → (A → C) → (B → D) → Goal f A B → Goal f C D
goal_map true p q = q
goal_map false p q = λ x. (p x.0, q x.1)

module _ (R : Reading) (P Q P' Q' : ℕ → Type 0) (p : (j : ℕ) → P j → P' j) (q : (j : ℕ) → Q j → Q' j) where
  pub holds_map : (x : Pattern) (i : ℕ) → Holds R P Q x i → Holds R P' Q' x i
  holds_map now i = q i
  holds_map next i = q (suc i)
  holds_map (connective true) i = either_map R (p i) (q i)
  holds_map (connective false) i = λ x. (p i x.0, q i x.1)
  holds_map (temporal f true) i = weak_map R R (into_itself R) i _ _ _ _ (λ j l. keep_map f (p j) (q j)) (λ j l. goal_map f (p j) (q j))
  holds_map (temporal f false) i = until_map R R (into_itself R) i _ _ _ _ (λ j l. keep_map f (p j) (q j)) (λ j l. goal_map f (p j) (q j))

-- ---- stability

module _ (R : Reading) (P Q : ℕ → Type 0) (sp : (j : ℕ) → Stable R (P j)) (sq : (j : ℕ) → Stable R (Q j)) where
  pub holds_stable : (p : Pattern) (i : ℕ) → Stable R (Holds R P Q p i)
  holds_stable now i = sq i
  holds_stable next i = sq (suc i)
  holds_stable (connective true) i = λ m. R.bind m (λ x. x)
  holds_stable (connective false) i = λ m. (sp i (map R (λ x. x.0) m), sq i (map R (λ x. x.1) m))
  holds_stable (temporal f true) i = λ m. R.bind m (λ x. x)
  holds_stable (temporal f false) i = λ m. R.bind m (λ x. x)

module _ (R : Reading) (w : InfiniteTrace) (v : ℕ → ℕ → Type 0) where
  operands_stable :
      (r : Row) → Each (λ a. (j : ℕ) → Stable R (v a j)) r
      → ((j : ℕ) → Stable R (OperandTrue w v (left r) j)) × ((j : ℕ) → Stable R (OperandTrue w v (right r) j))
  operands_stable r e = both_operands (λ x. (j : ℕ) → Stable R (OperandTrue w v x j)) (λ b j. stable_on R b) (λ b s j. stable_equal R (w j s) b) r
      (each_map _ _ signed r e)
    where
      signed : (a : ℕ) → ((j : ℕ) → Stable R (v a j)) → (b : Bool) (j : ℕ) → Stable R (OperandTrue w v (row b a) j)
      signed a f true j = f j
      signed a f false j = stable_not R

  module _ (live : ℕ → Bool) (t : Table) (n : ℕ) (ordered : Ordered n t) (interprets : Interprets R live w t n v) where
    pub interprets_stable : (k : ℕ) → k < n → (i : ℕ) → Stable R (v k i)
    interprets_stable = row_induction (λ k. k < n → (i : ℕ) → Stable R (v k i)) step
      where
        step : (k : ℕ) → ((a : ℕ) → a < k → a < n → (i : ℕ) → Stable R (v a i)) → k < n → (i : ℕ) → Stable R (v k i)
        step k ih h i m =
            let e = each_map (λ a. a < k) (λ a. (j : ℕ) → Stable R (v a j)) (λ a l. ih a l (omega arith)) (t k) (ordered k h) in
            let s = operands_stable (t k) e in
            let tie = means_pattern R w v i (t k) e in
            let is = interprets k h i in
            is.1 (
              stable_on R (live i) (map R (λ x. (is.0 x).0) m),
              tie.1 (holds_stable R _ _ s.0 s.1 (pattern_of (t k)) i (map R (λ x. tie.0 (is.0 x).1) m)),
            )

    -- what a row says, by its pattern
    pub interprets_pattern : (k : ℕ) → k < n → (i : ℕ) → v k i ↔ (On (live i) × PatternMeans R w v (t k) i)
    interprets_pattern k h i =
        let e = each_map (λ a. a < k) (λ a. (j : ℕ) → Stable R (v a j)) (λ a l. interprets_stable a (omega arith)) (t k) (ordered k h) in
        let tie = means_pattern R w v i (t k) e in
        let is = interprets k h i in
        (λ x. ((is.0 x).0, tie.0 (is.0 x).1), λ x. is.1 (x.0, tie.1 x.1))

-- the same for truth on an infinite trace, where every cycle is live
module _ (R : Reading) (w : InfiniteTrace) (t : Table) (n : ℕ) (ordered : Ordered n t) where
  pub truth_stable : (k : ℕ) → k < n → (i : ℕ) → Stable R (RowTrue R w t k i)
  truth_stable = interprets_stable R w (RowTrue R w t) every_cycle t n ordered (truth_interprets R w t n ordered)

  pub truth_pattern : (k : ℕ) → k < n → (i : ℕ) → RowTrue R w t k i ↔ PatternMeans R w (RowTrue R w t) (t k) i
  truth_pattern k h i =
      let e = interprets_pattern R w (RowTrue R w t) every_cycle t n ordered (truth_interprets R w t n ordered) k h i in
      (λ x. (e.0 x).1, λ x. e.1 (refl, x))
