-- The gates of one row's monitor (01, "Monitors", row by row). Assumes nothing.
use Rattle.std.specs.Prelude.{ℕ, ◌+◌}
use Rattle.tables.specs.declared.row.ConstantKind.{ConstantKind}
use Rattle.tables.specs.declared.row.ConstantKind.TheVariants.{True, False}
use Rattle.tables.specs.declared.row.SignalKind.{SignalKind}
use Rattle.tables.specs.declared.row.SignalKind.TheVariants.{Sig, Nsig}
use Rattle.tables.specs.declared.row.UnaryKind.{UnaryKind}
use Rattle.tables.specs.declared.row.UnaryKind.TheVariants.{Not, Next, Always, Ever}
use Rattle.tables.specs.declared.row.BinaryKind.{BinaryKind}
use Rattle.tables.specs.declared.row.BinaryKind.TheVariants.{And, Or, Weak, Until, Release, Srelease}
use Rattle.tables.specs.declared.row.Row.{Row}
use Rattle.tables.specs.declared.row.Row.TheVariants.{Constant, Signal, Unary, Binary}

-- the operands of a gate
pub record Operands : Type 0 where
  pub rhs0 : ℕ
  pub rhs1 : ℕ

-- a row has three gates, and three literals for what its monitor says
pub record Wiring : Type 0 where
  pub first : Operands
  pub second : Operands
  pub third : Operands
  pub failed : ℕ
  pub accept : ℕ
  pub pending : ℕ

-- the literal negated: all that are negated here are variables' own, which are even
abbrev pub negated : ℕ → ℕ
negated l = l + 1

abbrev pub both : ℕ → ℕ → Operands
both l r = record { rhs0 = l; rhs1 = r }

-- a gate that the row does not need: false and false
abbrev pub spare : Operands
spare = both 0 0

-- "What is not named is: pending 0, failed 0, accept 1": as in the monitors' table, by what is named
abbrev pub checks : Operands → Operands → ℕ → Wiring
checks first second failed = record { first = first; second = second; third = spare; failed = failed; accept = 1; pending = 0 }

abbrev pub waits : Operands → Operands → Operands → ℕ → ℕ → Wiring
waits first second third pending failed =
    record { first = first; second = second; third = third; failed = failed; accept = 1; pending = pending }

-- its accept is "not pending", which is a gate here
abbrev pub awaits : Operands → Operands → Operands → ℕ → ℕ → Wiring
awaits first second third pending failed =
    record { first = first; second = second; third = third; failed = failed; accept = negated pending; pending = pending }

-- z and Y are the literals of the row's activator and of its latch, x1, x2 and x3 those of its gates, A and B what stands at its numbers:
-- the literals of its operands' activators, A also that of its signal
module _ (z Y x1 x2 x3 : ℕ) where
  -- neither z nor Y: "g is z or Y" is then the gate negated
  abbrev pub idle : Operands
  idle = both (negated z) (negated Y)

  -- "true: nothing. false: failed z."
  abbrev pub constant_wiring : ConstantKind → Wiring
  constant_wiring True = checks spare spare 0
  constant_wiring False = checks spare spare z

  -- "sig: failed z and not signal. nsig: failed z and signal."
  abbrev pub signal_wiring : SignalKind → ℕ → Wiring
  signal_wiring Sig A = checks (both z (negated A)) spare x1
  signal_wiring Nsig A = checks (both z A) spare x1

  abbrev pub unary_wiring : UnaryKind → ℕ → Wiring
  unary_wiring Not A = checks spare spare 0
  -- "next: pending z, failed Y and not A."
  unary_wiring Next A = waits (both Y (negated A)) spare spare z x1
  -- "always: pending g, failed g and not A."
  unary_wiring Always A = waits idle (both (negated x1) (negated A)) spare (negated x1) x2
  -- "ever: pending g and not A, accept not pending."
  unary_wiring Ever A = awaits idle (both (negated x1) (negated A)) spare x2 0

  abbrev pub binary_wiring : BinaryKind → ℕ → ℕ → Wiring
  -- "and: failed z and not (A and B). or: failed z and not (A or B)."
  binary_wiring And A B = checks (both A B) (both z (negated x1)) x2
  binary_wiring Or A B = checks (both (negated A) (negated B)) (both z x1) x2
  -- "weak, until: pending g and not B, failed pending and not A; until also accept not pending."
  binary_wiring Weak A B = waits idle (both (negated x1) (negated B)) (both x2 (negated A)) x2 x3
  binary_wiring Until A B = awaits idle (both (negated x1) (negated B)) (both x2 (negated A)) x2 x3
  -- "release, srelease: pending g and not A, failed g and not B; srelease also accept not pending."
  binary_wiring Release A B = waits idle (both (negated x1) (negated A)) (both (negated x1) (negated B)) x2 x3
  binary_wiring Srelease A B = awaits idle (both (negated x1) (negated A)) (both (negated x1) (negated B)) x2 x3

  abbrev pub row_wiring : (ℕ → ℕ) → (ℕ → ℕ) → Row → Wiring
  row_wiring signal activator (Constant c) = constant_wiring c
  row_wiring signal activator (Signal c s) = signal_wiring c (signal s)
  row_wiring signal activator (Unary c a) = unary_wiring c (activator a)
  row_wiring signal activator (Binary c a b) = binary_wiring c (activator a) (activator b)
