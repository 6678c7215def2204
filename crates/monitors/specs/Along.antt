-- The monitors of a table along an infinite trace, from a fresh start. Assumes nothing.
use Rattle.std.specs.Prelude.{ℕ, zero, suc, Bool}
use Rattle.meaning.specs.Trace.{InfiniteTrace}
use Rattle.meaning.specs.Satisfaction.{Table}
use Rattle.monitors.specs.declared.Output.{Output}
use Rattle.monitors.specs.State.{State, fresh_state, output_from, next_state}

-- which rows are active in each cycle: `act i k` is row k's activator in cycle i
abbrev pub Activators : Type 0
Activators = ℕ → ℕ → Bool

module _ (t : Table) (w : InfiniteTrace) (act : Activators) where
  -- the state before cycle i
  unfoldable pub state_before : ℕ → State Bool
  state_before zero = fresh_state
  state_before (suc i) = next_state t (act i) (w i) (state_before i)

  -- "Y is this row's pending one cycle earlier": row k's, before cycle i
  abbrev pub pending_before : ℕ → ℕ → Bool
  pending_before i k = (state_before i).pending k

  -- what row k's monitor says in cycle i
  abbrev pub output : ℕ → ℕ → Output
  output i k = output_from t (act i) (w i) (state_before i) k
