-- One row: its gates have lower operands, and what it names is no higher than its last gate negated. Assumes nothing.
use Prim.Native.Nat.{ℕ, ◌≤◌, ◌<◌}
use native.Mathlib.Omega.{arith}
use Rattle.tables.specs.declared.row.ConstantKind.{ConstantKind}
use Rattle.tables.specs.declared.row.ConstantKind.TheVariants.{True, False}
use Rattle.tables.specs.declared.row.SignalKind.{SignalKind}
use Rattle.tables.specs.declared.row.SignalKind.TheVariants.{Sig, Nsig}
use Rattle.tables.specs.declared.row.UnaryKind.{UnaryKind}
use Rattle.tables.specs.declared.row.UnaryKind.TheVariants.{Not, Next, Always, Ever}
use Rattle.tables.specs.declared.row.BinaryKind.{BinaryKind}
use Rattle.tables.specs.declared.row.BinaryKind.TheVariants.{And, Or, Weak, Until, Release, Srelease}
use Rattle.tables.specs.declared.row.Row.{Row}
use Rattle.tables.specs.declared.row.Row.TheVariants.{Constant, Signal, Unary, Binary}
use Rattle.meaning.specs.Rows.{Each, EachSignal}
use Rattle.monitor_circuit.specs.Wiring.{Operands, Wiring, negated, both, spare, checks, waits, awaits, constant_wiring, signal_wiring, unary_wiring, binary_wiring, row_wiring}

-- the operands have lower literals
abbrev pub Lower : ℕ → Operands → Type 0
Lower x p = (p.rhs0 < x) × (p.rhs1 < x)

-- all that a wiring names lies where it can be named: below its own gate, and no higher than the last gate negated
pub record Low (x1 x2 x3 : ℕ) (w : Wiring) : Type 0 where
  pub low_first : Lower x1 w.first
  pub low_second : Lower x2 w.second
  pub low_third : Lower x3 w.third
  pub low_failed : w.failed ≤ negated x3
  pub low_accept : w.accept ≤ negated x3
  pub low_pending : w.pending ≤ negated x3

-- so low that the literal negated is lower as well
abbrev pub Under : ℕ → ℕ → Type 0
Under x l = negated l < x

module _ (z Y x1 x2 x3 : ℕ) (z-low : Under x1 z) (Y-low : Under x1 Y) (x1-low : Under x2 x1) (x2-low : Under x3 x2) where
  spare_first : Lower x1 spare
  spare_first = (omega arith, omega arith)

  spare_second : Lower x2 spare
  spare_second = (omega arith, omega arith)

  spare_third : Lower x3 spare
  spare_third = (omega arith, omega arith)

  -- by what is named
  module _ (p q : Operands) (p-low : Lower x1 p) (q-low : Lower x2 q) where
    checks_low : (l : ℕ) → l ≤ x3 → Low x1 x2 x3 (checks p q l)
    checks_low l h =
        record {
          low_first = p-low;
          low_second = q-low;
          low_third = spare_third;
          low_failed = omega arith;
          low_accept = omega arith;
          low_pending = omega arith;
        }

    module _ (r : Operands) (r-low : Lower x3 r) (y l : ℕ) (y-low : y ≤ x3) (l-low : l ≤ x3) where
      waits_low : Low x1 x2 x3 (waits p q r y l)
      waits_low =
          record {
            low_first = p-low;
            low_second = q-low;
            low_third = r-low;
            low_failed = omega arith;
            low_accept = omega arith;
            low_pending = omega arith;
          }

      awaits_low : Low x1 x2 x3 (awaits p q r y l)
      awaits_low =
          record {
            low_first = p-low;
            low_second = q-low;
            low_third = r-low;
            low_failed = omega arith;
            low_accept = omega arith;
            low_pending = omega arith;
          }

  constant_low : (c : ConstantKind) → Low x1 x2 x3 (constant_wiring z Y x1 x2 x3 c)
  constant_low True = checks_low _ _ spare_first spare_second _ (omega arith)
  constant_low False = checks_low _ _ spare_first spare_second _ (omega arith)

  module _ (A : ℕ) (A-low : Under x1 A) where
    signal_low : (c : SignalKind) → Low x1 x2 x3 (signal_wiring z Y x1 x2 x3 c A)
    signal_low Sig = checks_low _ _ (omega arith, A-low) spare_second _ (omega arith)
    signal_low Nsig = checks_low _ _ (omega arith, omega arith) spare_second _ (omega arith)

    -- the row goes and A does not hold
    without_second : Lower x2 (both (negated x1) (negated A))
    without_second = (x1-low, omega arith)

    without_third : Lower x3 (both (negated x1) (negated A))
    without_third = (omega arith, omega arith)

    unary_low : (c : UnaryKind) → Low x1 x2 x3 (unary_wiring z Y x1 x2 x3 c A)
    unary_low Not = checks_low _ _ spare_first spare_second _ (omega arith)
    unary_low Next = waits_low _ _ (omega arith, A-low) spare_second _ spare_third _ _ (omega arith) (omega arith)
    unary_low Always = waits_low _ _ (z-low, Y-low) without_second _ spare_third _ _ (omega arith) (omega arith)
    unary_low Ever = awaits_low _ _ (z-low, Y-low) without_second _ spare_third _ _ (omega arith) (omega arith)

  module _ (A B : ℕ) (A-low : Under x1 A) (B-low : Under x1 B) where
    -- it is pending and A does not hold
    stays : Lower x3 (both x2 (negated A))
    stays = (omega arith, omega arith)

    binary_low : (c : BinaryKind) → Low x1 x2 x3 (binary_wiring z Y x1 x2 x3 c A B)
    binary_low And = checks_low _ _ (omega arith, omega arith) (omega arith, x1-low) _ (omega arith)
    binary_low Or = checks_low _ _ (A-low, B-low) (omega arith, omega arith) _ (omega arith)
    binary_low Weak = waits_low _ _ (z-low, Y-low) (without_second B B-low) _ stays _ _ (omega arith) (omega arith)
    binary_low Until = awaits_low _ _ (z-low, Y-low) (without_second B B-low) _ stays _ _ (omega arith) (omega arith)
    binary_low Release = waits_low _ _ (z-low, Y-low) (without_second A A-low) _ (without_third B B-low) _ _ (omega arith) (omega arith)
    binary_low Srelease = awaits_low _ _ (z-low, Y-low) (without_second A A-low) _ (without_third B B-low) _ _ (omega arith) (omega arith)

  -- A ROW'S GATES HAVE LOWER OPERANDS, where the activators and the signal it names lie below its first gate
  pub row_low : (signal activator : ℕ → ℕ) (r : Row) → Each (λ a. Under x1 (activator a)) r → EachSignal (λ n. Under x1 (signal n)) r
      → Low x1 x2 x3 (row_wiring z Y x1 x2 x3 signal activator r)
  row_low signal activator (Constant c) e g = constant_low c
  row_low signal activator (Signal c n) e g = signal_low (signal n) g c
  row_low signal activator (Unary c a) e g = unary_low (activator a) e c
  row_low signal activator (Binary c a b) e g = binary_low (activator a) (activator b) e.0 e.1 c
