-- The code's wiring of a row, and the literals of a row's own variables. Assumes nothing.
use Rattle.std.specs.Prelude.{ℕ, ◌+◌, ◌*◌, ◌-◌, ◌<◌}
use Rattle.tables.specs.declared.row.ConstantKind.{ConstantKind}
use Rattle.tables.specs.declared.row.SignalKind.{SignalKind}
use Rattle.tables.specs.declared.row.UnaryKind.{UnaryKind}
use Rattle.tables.specs.declared.row.BinaryKind.{BinaryKind}
use Rattle.tables.specs.declared.row.Row.{Row}
use Rattle.monitor_circuit.specs.Wiring.{Operands as MeantOperands, Wiring as MeantWiring, row_wiring}
use Rattle.monitor_circuit.specs.Wiring.{idle, constant_wiring, signal_wiring, unary_wiring, binary_wiring}
use Rattle.row_wiring.specs.declared.Own.{Own}
use Rattle.row_wiring.specs.declared.Operands.{Operands}
use Rattle.row_wiring.specs.declared.Wiring.{Wiring}

-- what the code's operands and wiring stand for
abbrev pub operands_as : Operands → MeantOperands
operands_as o = record { rhs0 = o.rhs0; rhs1 = o.rhs1 }

abbrev pub wiring_as : Wiring → MeantWiring
wiring_as w =
    record {
      first = operands_as w.first;
      second = operands_as w.second;
      third = operands_as w.third;
      failed = w.failed;
      accept = w.accept;
      pending = w.pending;
    }

-- the literals of row k's own variables, where there are so many signals and rows (law `own_literals`: those of the circuit)
abbrev pub own_of : ℕ → ℕ → ℕ → Own
own_of signals rows k =
    record {
      activator = 2 * (signals + k);
      latch = 2 * (signals + rows + k);
      first = 2 * (signals + rows + rows + (3 * (k - 1) + 1));
      second = 2 * (signals + rows + rows + (3 * (k - 1) + 2));
      third = 2 * (signals + rows + rows + (3 * (k - 1) + 3));
    }

-- what the table of wirings says of a row that has these literals
module _ (own : Own) where
  abbrev pub idle_of : MeantOperands
  idle_of = idle own.activator own.latch own.first own.second own.third

  abbrev pub constant_of : ConstantKind → MeantWiring
  constant_of = constant_wiring own.activator own.latch own.first own.second own.third

  abbrev pub signal_of : SignalKind → ℕ → MeantWiring
  signal_of = signal_wiring own.activator own.latch own.first own.second own.third

  abbrev pub unary_of : UnaryKind → ℕ → MeantWiring
  unary_of = unary_wiring own.activator own.latch own.first own.second own.third

  abbrev pub binary_of : BinaryKind → ℕ → ℕ → MeantWiring
  binary_of = binary_wiring own.activator own.latch own.first own.second own.third

-- the gates of a row that has these literals, behind so many signals
abbrev pub wiring_at : Row → ℕ → Own → MeantWiring
wiring_at row signals own =
    row_wiring own.activator own.latch own.first own.second own.third (λ s. 2 * s) (λ k. 2 * (signals + k)) row

-- they are small enough for one more
pub record Small (own : Own) : Type 0 where
  pub activator_small : own.activator < 100000
  pub latch_small : own.latch < 100000
  pub first_small : own.first < 100000
  pub second_small : own.second < 100000
