-- The monitors' table (01, "Monitors"), word by word. Assumes nothing.
use Rattle.std.specs.Prelude.{ℕ, Bool, true, false, not, ◌&&◌, ◌||◌}
use Rattle.tables.specs.declared.row.ConstantKind.{ConstantKind}
use Rattle.tables.specs.declared.row.ConstantKind.TheVariants.{True, False}
use Rattle.tables.specs.declared.row.SignalKind.{SignalKind}
use Rattle.tables.specs.declared.row.SignalKind.TheVariants.{Sig, Nsig}
use Rattle.tables.specs.declared.row.UnaryKind.{UnaryKind}
use Rattle.tables.specs.declared.row.UnaryKind.TheVariants.{Not, Next, Always, Ever}
use Rattle.tables.specs.declared.row.BinaryKind.{BinaryKind}
use Rattle.tables.specs.declared.row.BinaryKind.TheVariants.{And, Or, Weak, Until, Release, Srelease}
use Rattle.tables.specs.declared.row.Row.{Row}
use Rattle.tables.specs.declared.row.Row.TheVariants.{Constant, Signal, Unary, Binary}
use Rattle.monitors.specs.declared.Output.{Output}
use Rattle.monitors.specs.declared.RowState.{RowState}

-- "What is not named is: pending 0, failed 0, accept 1": a monitor that names failed alone, one that names pending and failed, and one
-- whose accept is besides "not pending"
abbrev pub checks : Bool → Output
checks failed = record { failed = failed; accept = true; pending = false }

abbrev pub waits : Bool → Bool → Output
waits pending failed = record { failed = failed; accept = true; pending = pending }

abbrev pub awaits : Bool → Bool → Output
awaits pending failed = record { failed = failed; accept = not pending; pending = pending }

-- "g is z or Y": z is the row's activator, Y its pending one cycle earlier
abbrev pub goes : RowState → Bool
goes s = s.active || s.pending

-- "true: nothing. false: failed z."
abbrev pub constant_monitor : ConstantKind → RowState → Output
constant_monitor True s = checks false
constant_monitor False s = checks s.active

-- "sig: failed z and not signal. nsig: failed z and signal."
abbrev pub signal_monitor : SignalKind → Bool → RowState → Output
signal_monitor Sig on s = checks (s.active && not on)
signal_monitor Nsig on s = checks (s.active && on)

-- "A, B are the activators of its operands." No normal form has a `not` row.
abbrev pub unary_monitor : UnaryKind → Bool → RowState → Output
unary_monitor Not A s = checks false
-- "next: pending z, failed Y and not A."
unary_monitor Next A s = waits s.active (s.pending && not A)
-- "always: pending g, failed g and not A."
unary_monitor Always A s = waits (goes s) (goes s && not A)
-- "ever: pending g and not A, accept not pending."
unary_monitor Ever A s = awaits (goes s && not A) false

abbrev pub binary_monitor : BinaryKind → Bool → Bool → RowState → Output
-- "and: failed z and not (A and B). or: failed z and not (A or B)."
binary_monitor And A B s = checks (s.active && not (A && B))
binary_monitor Or A B s = checks (s.active && not (A || B))
-- "weak, until: pending g and not B, failed pending and not A; until also accept not pending."
binary_monitor Weak A B s = waits (goes s && not B) ((goes s && not B) && not A)
binary_monitor Until A B s = awaits (goes s && not B) ((goes s && not B) && not A)
-- "release, srelease: pending g and not A, failed g and not B; srelease also accept not pending."
binary_monitor Release A B s = waits (goes s && not A) (goes s && not B)
binary_monitor Srelease A B s = awaits (goes s && not A) (goes s && not B)

-- the monitor of a row, from what stands at its numbers: the signal, or the activators of its operands
abbrev pub row_monitor : Row → Bool → Bool → RowState → Output
row_monitor (Constant c) first second s = constant_monitor c s
row_monitor (Signal c n) first second s = signal_monitor c first s
row_monitor (Unary c a) first second s = unary_monitor c first s
row_monitor (Binary c a b) first second s = binary_monitor c first second s

-- what stands at a row's numbers in a cycle with these activators and signals, each by its number
abbrev pub first_of : (ℕ → Bool) → (ℕ → Bool) → Row → Bool
first_of act signals (Constant c) = false
first_of act signals (Signal c n) = signals n
first_of act signals (Unary c a) = act a
first_of act signals (Binary c a b) = act a

abbrev pub second_of : (ℕ → Bool) → Row → Bool
second_of act (Constant c) = false
second_of act (Signal c n) = false
second_of act (Unary c a) = false
second_of act (Binary c a b) = act b

-- the monitor of a row, from all rows' activators and the signals in the cycle
abbrev pub monitor : (ℕ → Bool) → (ℕ → Bool) → Row → RowState → Output
monitor act signals r s = row_monitor r (first_of act signals r) (second_of act r) s
