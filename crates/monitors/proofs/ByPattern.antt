-- The monitor of a positive row is that of its pattern over its two operands' activators (monitor-by-pattern), and what
-- holds of every pattern's monitor holds of every row's (each-pattern). So proofs go by four patterns and not by kinds. Assumes nothing.
use Prim.Native.Nat.{ℕ}
use mathlib.Core.Path.{◌≡◌, refl, sym, ap, subst⁻¹, fun_ext}
use mathlib.Core.Bool.{Bool, true, false, not, ◌&&◌, ◌||◌}
use Rattle.std.proofs.Math.Bool.{and-true, and-false, not-not}
use Rattle.tables.specs.declared.row.ConstantKind.{ConstantKind}
use Rattle.tables.specs.declared.row.ConstantKind.TheVariants.{True, False}
use Rattle.tables.specs.declared.row.SignalKind.{SignalKind}
use Rattle.tables.specs.declared.row.SignalKind.TheVariants.{Sig, Nsig}
use Rattle.tables.specs.declared.row.UnaryKind.{UnaryKind}
use Rattle.tables.specs.declared.row.UnaryKind.TheVariants.{Not, Next, Always, Ever}
use Rattle.tables.specs.declared.row.BinaryKind.{BinaryKind}
use Rattle.tables.specs.declared.row.BinaryKind.TheVariants.{And, Or, Weak, Until, Release, Srelease}
use Rattle.tables.specs.declared.row.Row.{Row}
use Rattle.tables.specs.declared.row.Row.TheVariants.{Constant, Signal, Unary, Binary}
use Rattle.meaning.specs.Rows.{positive, Positive}
use Rattle.meaning.specs.Pattern.{Pattern, Pattern.now, Pattern.next, Pattern.connective, Pattern.temporal}
use Rattle.meaning.specs.Pattern.{constant_bit, signal_sign, unary_left, unary_pattern, binary_pattern, left, right, pattern_of, connective_bit, signed_bit, operand_bit}
use Rattle.meaning.proofs.Readings.{On, on_and_off}
use Rattle.monitors.specs.declared.Output.{Output}
use Rattle.monitors.specs.declared.RowState.{RowState}
use Rattle.monitors.specs.Monitor.{checks, waits, awaits, goes, constant_monitor, signal_monitor, unary_monitor, binary_monitor, row_monitor, monitor}

-- what ends a row's waiting: the right operand of the untils, the left one of the releases
abbrev pub done_bit : Bool → Bool → Bool → Bool
done_bit true a b = b
done_bit false a b = a

-- what a row that goes needs in the cycle: one of the two operands of the untils, the right one of the releases
abbrev pub need_bit : Bool → Bool → Bool → Bool
need_bit true a b = a || b
need_bit false a b = b

-- a and b are the activators of the left and the right operand
module _ (a b : Bool) (s : RowState) where
  abbrev pub pattern_monitor : Pattern → Output
  pattern_monitor now = checks (s.active && not b)
  pattern_monitor next = waits s.active (s.pending && not b)
  pattern_monitor (connective f) = checks (s.active && not (connective_bit f a b))
  pattern_monitor (temporal f true) = waits (goes s && not (done_bit f a b)) (goes s && not (need_bit f a b))
  pattern_monitor (temporal f false) = awaits (goes s && not (done_bit f a b)) (goes s && not (need_bit f a b))

two_nots : (x a b : Bool) → ((x && not b) && not a) ≡ (x && not (a || b))
two_nots true true true = refl
two_nots true true false = refl
two_nots true false true = refl
two_nots true false false = refl
two_nots false a b = refl

-- ---- each kind

constant_by_pattern : (c : ConstantKind) (s : RowState) → constant_monitor c s ≡ checks (s.active && not (constant_bit c))
constant_by_pattern True s = ap checks (sym (and-false s.active))
constant_by_pattern False s = ap checks (sym (and-true s.active))

signal_by_pattern : (c : SignalKind) (on : Bool) (s : RowState) → signal_monitor c on s ≡ checks (s.active && not (signed_bit (signal_sign c) on))
signal_by_pattern Sig on s = refl
signal_by_pattern Nsig on s = ap (λ b. checks (s.active && b)) (sym (not-not on))

unary_by_pattern :
    (c : UnaryKind) → On (positive c) → (a : Bool) (s : RowState)
    → unary_monitor c a s ≡ pattern_monitor (unary_left c) (signed_bit (positive c) a) s (unary_pattern c)
unary_by_pattern Not o a s = on_and_off o refl
unary_by_pattern Next o a s = refl
unary_by_pattern Always o a s = ap (λ x. waits x (goes s && not a)) (sym (and-true (goes s)))
unary_by_pattern Ever o a s = ap (awaits (goes s && not a)) (sym (and-false (goes s)))

binary_by_pattern : (c : BinaryKind) (a b : Bool) (s : RowState) → binary_monitor c a b s ≡ pattern_monitor a b s (binary_pattern c)
binary_by_pattern And a b s = refl
binary_by_pattern Or a b s = refl
binary_by_pattern Weak a b s = ap (waits (goes s && not b)) (two_nots (goes s) a b)
binary_by_pattern Until a b s = ap (awaits (goes s && not b)) (two_nots (goes s) a b)
binary_by_pattern Release a b s = refl
binary_by_pattern Srelease a b s = refl

-- ---- rows

module _ (act signals : ℕ → Bool) (s : RowState) where
  pub monitor_by_pattern :
      (r : Row) → Positive r
      → monitor act signals r s ≡ pattern_monitor (operand_bit signals act (left r)) (operand_bit signals act (right r)) s (pattern_of r)
  monitor_by_pattern (Constant c) o = constant_by_pattern c s
  monitor_by_pattern (Signal c n) o = signal_by_pattern c (signals n) s
  monitor_by_pattern (Unary c a) o = unary_by_pattern c o (act a) s
  monitor_by_pattern (Binary c a b) o = binary_by_pattern c (act a) (act b) s

-- what holds of every pattern's monitor holds of every row's (`not`, which no normal form has, never fails)
module _ (P : (RowState → Output) → Type 0) (each : (a b : Bool) (x : Pattern) → P (λ s. pattern_monitor a b s x)) where
  positive_pattern : (c : UnaryKind) → On (positive c) → (a : Bool) → P (unary_monitor c a)
  positive_pattern c o a = subst⁻¹ P (fun_ext (unary_by_pattern c o a)) (each (unary_left c) (signed_bit (positive c) a) (unary_pattern c))

  unary_pattern_lem : (c : UnaryKind) (a : Bool) → P (unary_monitor c a)
  unary_pattern_lem Not a = subst⁻¹ P (fun_ext (λ s. ap checks (sym (and-false s.active)))) (each true true now)
  unary_pattern_lem Next a = positive_pattern Next refl a
  unary_pattern_lem Always a = positive_pattern Always refl a
  unary_pattern_lem Ever a = positive_pattern Ever refl a

  pub each_pattern : (r : Row) (first second : Bool) → P (row_monitor r first second)
  each_pattern (Constant c) a b = subst⁻¹ P (fun_ext (constant_by_pattern c)) (each true (constant_bit c) now)
  each_pattern (Signal c n) a b = subst⁻¹ P (fun_ext (signal_by_pattern c a)) (each true (signed_bit (signal_sign c) a) now)
  each_pattern (Unary c n) a b = unary_pattern_lem c a
  each_pattern (Binary c m n) a b = subst⁻¹ P (fun_ext (binary_by_pattern c a b)) (each a b (binary_pattern c))
