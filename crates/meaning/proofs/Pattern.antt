-- What a pattern (specs/Pattern) says of its operands, and a row by its pattern. Assumes nothing.
use Prim.Native.Nat.{ℕ, suc}
use mathlib.Core.Path.{◌≡◌, subst⁻¹}
use mathlib.Core.Bool.{Bool, true, false, not}
use Rattle.tables.specs.declared.row.Row.{Row}
use Rattle.tables.specs.declared.row.Row.TheVariants.{Constant, Signal, Unary, Binary}
use Rattle.meaning.specs.Reading.{Reading, Either}
use Rattle.meaning.specs.Operator as operator
use Rattle.meaning.specs.Trace.{InfiniteTrace}
use Rattle.meaning.specs.Rows.{Each, positive, Positive}
use Rattle.meaning.specs.Pattern.{Pattern, Pattern.now, Pattern.next, Pattern.connective, Pattern.temporal, pattern_of}
use Rattle.meaning.specs.Pattern.{Operand, Operand.constant, Operand.signal, Operand.row, constant_bit, signal_sign, unary_left, left, right}
use Rattle.meaning.proofs.Readings.{On}

-- the pattern of the negation
abbrev pub dual_pattern : Pattern → Pattern
dual_pattern now = now
dual_pattern next = next
dual_pattern (connective f) = connective (not f)
dual_pattern (temporal f w) = temporal (not f) (not w)

-- ---- what a pattern says of its operands

-- what has to hold until the goal
abbrev pub Keep : Bool → Type 0 → Type 0 → Type 0
Keep true A B = A
Keep false A B = B

abbrev pub Goal : Bool → Type 0 → Type 0 → Type 0
Goal true A B = B
Goal false A B = A × B

abbrev pub Keeps : Bool → (ℕ → Type 0) → (ℕ → Type 0) → ℕ → Type 0
Keeps f P Q = λ j. Keep f (P j) (Q j)

abbrev pub Goals : Bool → (ℕ → Type 0) → (ℕ → Type 0) → ℕ → Type 0
Goals f P Q = λ j. Goal f (P j) (Q j)

module _ (R : Reading) where
  abbrev pub Connective : Bool → Type 0 → Type 0 → Type 0
  Connective true A B = Either R A B
  Connective false A B = A × B

  abbrev pub Temporal : Bool → (ℕ → Type 0) → (ℕ → Type 0) → ℕ → Type 0
  Temporal true K G i = operator.Weak R K G i
  Temporal false K G i = operator.Until R K G i

  module _ (P Q : ℕ → Type 0) where
    abbrev pub Holds : Pattern → ℕ → Type 0
    Holds now i = Q i
    Holds next i = Q (suc i)
    Holds (connective f) i = Connective f (P i) (Q i)
    Holds (temporal f w) i = Temporal w (Keeps f P Q) (Goals f P Q) i

-- what holds of constants, signals and each operand's row, under either sign, holds of both operands
pub both_operands :
    (C : Operand → Type 0) → ((b : Bool) → C (constant b)) → ((b : Bool) (s : ℕ) → C (signal b s)) → (r : Row)
    → Each (λ a. (b : Bool) → C (row b a)) r → C (left r) × C (right r)
both_operands C f g (Constant c) e = (f true, f (constant_bit c))
both_operands C f g (Signal c s) e = (f true, g (signal_sign c) s)
both_operands C f g (Unary c a) e = (f (unary_left c), e (positive c))
both_operands C f g (Binary c a b) e = (e.0 true, e.1 true)

-- the same for a positive row, whose operands are not negated
pub both_positive_operands :
    (C : Operand → Type 0) → ((b : Bool) → C (constant b)) → ((b : Bool) (s : ℕ) → C (signal b s)) → (r : Row) → Positive r
    → Each (λ a. C (row true a)) r → C (left r) × C (right r)
both_positive_operands C f g (Constant c) p e = (f true, f (constant_bit c))
both_positive_operands C f g (Signal c s) p e = (f true, g (signal_sign c) s)
both_positive_operands C f g (Unary c a) p e = (f (unary_left c), subst⁻¹ (λ b. C (row b a)) p e)
both_positive_operands C f g (Binary c a b) p e = (e.0, e.1)

abbrev pub Signed : Bool → Type 0 → Type 0
Signed true A = A
Signed false A = ¬ A

module _ (w : InfiniteTrace) (v : ℕ → ℕ → Type 0) where
  abbrev pub OperandTrue : Operand → ℕ → Type 0
  OperandTrue (constant b) i = On b
  OperandTrue (signal b s) i = w i s ≡ b
  OperandTrue (row b a) i = Signed b (v a i)

-- what a row says at cycle i, by its pattern; MeaningByPattern shows that it is what Means says
abbrev pub PatternMeans : Reading → InfiniteTrace → (ℕ → ℕ → Type 0) → Row → ℕ → Type 0
PatternMeans R w v r i = Holds R (OperandTrue w v (left r)) (OperandTrue w v (right r)) (pattern_of r) i
