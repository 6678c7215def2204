-- A row's monitor fails, and is pending, by its activator or by its pending (failed-by, pending-by); and when it accepts (accepts).
-- Assumes nothing.
use mathlib.Core.Path.{◌≡◌, refl, sym, ap}
use mathlib.Core.Logic.{◌⊎◌, inl, inr}
use mathlib.Core.Bool.{Bool, true, false, not, ◌&&◌, ◌||◌, true≢false}
use Rattle.tables.specs.declared.row.ConstantKind.{ConstantKind}
use Rattle.tables.specs.declared.row.ConstantKind.TheVariants.{True, False}
use Rattle.tables.specs.declared.row.SignalKind.{SignalKind}
use Rattle.tables.specs.declared.row.SignalKind.TheVariants.{Sig, Nsig}
use Rattle.tables.specs.declared.row.UnaryKind.{UnaryKind}
use Rattle.tables.specs.declared.row.UnaryKind.TheVariants.{Not, Next, Always, Ever}
use Rattle.tables.specs.declared.row.BinaryKind.{BinaryKind}
use Rattle.tables.specs.declared.row.BinaryKind.TheVariants.{And, Or, Weak, Until, Release, Srelease}
use Rattle.tables.specs.declared.row.Row.{Row}
use Rattle.tables.specs.declared.row.Row.TheVariants.{Constant, Signal, Unary, Binary}
use Rattle.meaning.specs.Pattern.{Pattern, Pattern.now, Pattern.next, Pattern.connective, Pattern.temporal, connective_bit}
use Rattle.monitors.specs.declared.Output.{Output}
use Rattle.monitors.specs.declared.RowState.{RowState}
use Rattle.monitors.specs.Monitor.{constant_monitor, signal_monitor, unary_monitor, binary_monitor, row_monitor}
use Rattle.monitors.proofs.ByPattern.{done_bit, need_bit, pattern_monitor, each_pattern}

pub by_both : (z p x : Bool) → ((z || p) && x) ≡ ((z && x) || (p && x))
by_both true true true = refl
by_both true true false = refl
by_both true false true = refl
by_both true false false = refl
by_both false p x = refl

by_active : (z p x : Bool) → (z && x) ≡ ((z && x) || (p && false))
by_active true true true = refl
by_active true true false = refl
by_active true false true = refl
by_active true false false = refl
by_active false true x = refl
by_active false false x = refl

by_pending : (z p x : Bool) → (p && x) ≡ ((z && false) || (p && x))
by_pending true p x = refl
by_pending false p x = refl

by_none : (z p : Bool) → false ≡ ((z && false) || (p && false))
by_none true true = refl
by_none true false = refl
by_none false true = refl
by_none false false = refl

by_alone : (z p : Bool) → z ≡ ((z && true) || (p && false))
by_alone true p = refl
by_alone false true = refl
by_alone false false = refl

abbrev pub most : RowState
most = record { active = true; pending = true }

module _ (z p : Bool) where
  abbrev FailedBy : (RowState → Output) → Type 0
  FailedBy m = (m (record { active = z; pending = p })).failed
      ≡ ((z && (m (record { active = true; pending = false })).failed) || (p && (m (record { active = false; pending = true })).failed))

  pattern_failed : (l r : Bool) (x : Pattern) → FailedBy (λ s. pattern_monitor l r s x)
  pattern_failed l r now = by_active z p (not r)
  pattern_failed l r next = by_pending z p (not r)
  pattern_failed l r (connective f) = by_active z p (not (connective_bit f l r))
  pattern_failed l r (temporal f true) = by_both z p (not (need_bit f l r))
  pattern_failed l r (temporal f false) = by_both z p (not (need_bit f l r))

  pub failed_by : (a b : Bool) (r : Row) → FailedBy (row_monitor r a b)
  failed_by a b r = each_pattern FailedBy pattern_failed r a b

  abbrev PendingBy : (RowState → Output) → Type 0
  PendingBy m = (m (record { active = z; pending = p })).pending
      ≡ ((z && (m (record { active = true; pending = false })).pending) || (p && (m (record { active = false; pending = true })).pending))

  pattern_pending : (l r : Bool) (x : Pattern) → PendingBy (λ s. pattern_monitor l r s x)
  pattern_pending l r now = by_none z p
  pattern_pending l r next = by_alone z p
  pattern_pending l r (connective f) = by_none z p
  pattern_pending l r (temporal f true) = by_both z p (not (done_bit f l r))
  pattern_pending l r (temporal f false) = by_both z p (not (done_bit f l r))

  pub pending_by : (a b : Bool) (r : Row) → PendingBy (row_monitor r a b)
  pending_by a b r = each_pattern PendingBy pattern_pending r a b

-- where a row's monitor accepts while it waits, it always does; where it is not pending, it does
abbrev Accepts : (Bool → Bool → RowState → Output) → Bool → Bool → RowState → Type 0
Accepts m a b s = ((m false false most).accept ≡ true) ⊎ ((m a b s).pending ≡ false) → (m a b s).accept ≡ true

constant_accepts : (c : ConstantKind) (a b : Bool) (s : RowState) → Accepts (λ a b. constant_monitor c) a b s
constant_accepts True a b s h = refl
constant_accepts False a b s h = refl

signal_accepts : (c : SignalKind) (a b : Bool) (s : RowState) → Accepts (λ a b. signal_monitor c a) a b s
signal_accepts Sig a b s h = refl
signal_accepts Nsig a b s h = refl

unary_accepts : (c : UnaryKind) (a b : Bool) (s : RowState) → Accepts (λ a b. unary_monitor c a) a b s
unary_accepts Not a b s h = refl
unary_accepts Next a b s h = refl
unary_accepts Always a b s h = refl
unary_accepts Ever a b s (inl e) = absurd (true≢false (sym e))
unary_accepts Ever a b s (inr e) = ap not e

binary_accepts : (c : BinaryKind) (a b : Bool) (s : RowState) → Accepts (binary_monitor c) a b s
binary_accepts And a b s h = refl
binary_accepts Or a b s h = refl
binary_accepts Weak a b s h = refl
binary_accepts Until a b s (inl e) = absurd (true≢false (sym e))
binary_accepts Until a b s (inr e) = ap not e
binary_accepts Release a b s h = refl
binary_accepts Srelease a b s (inl e) = absurd (true≢false (sym e))
binary_accepts Srelease a b s (inr e) = ap not e

pub accepts : (r : Row) (a b : Bool) (s : RowState) → Accepts (row_monitor r) a b s
accepts (Constant c) = constant_accepts c
accepts (Signal c n) = signal_accepts c
accepts (Unary c n) = unary_accepts c
accepts (Binary c m n) = binary_accepts c
