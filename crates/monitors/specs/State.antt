-- What the monitors of a table hand on from one cycle to the next, and in which order it is given and written. Assumes nothing.
use Rattle.std.specs.Prelude.{ℕ, suc, Bool, false, List}
use Rattle.tables.specs.Place.{tabulate}
use Rattle.meaning.specs.Satisfaction.{Table}
use Rattle.monitors.specs.declared.Output.{Output}
use Rattle.monitors.specs.declared.RowState.{RowState}
use Rattle.monitors.specs.Monitor.{monitor}

-- one A for each thing that is handed on: each row's pending, by its number, which counts from 1. A is Bool in a state; but where a thing
-- stands, and which latch of a circuit holds it, go by the same record.
pub record State (A : Type 0) : Type 0 where
  pub pending : ℕ → A

-- in the order in which they are given and written, of so many rows: the pendings by row
abbrev pub in_order : {A : Type 0} → ℕ → State A → List A
in_order rows s = tabulate rows (λ i. s.pending (suc i))

-- how many they are
abbrev pub state_size : ℕ → ℕ
state_size rows = rows

-- and the place of each in that order, counted from 1
abbrev pub state_places : ℕ → State ℕ
state_places rows = record { pending = λ k. k }

-- what stands in these places
abbrev pub state_at : {A : Type 0} → ℕ → (ℕ → A) → State A
state_at rows x = record { pending = λ k. x ((state_places rows).pending k) }

-- "Y is this row's pending one cycle earlier, 0 in the first cycle"
abbrev pub fresh_state : State Bool
fresh_state = record { pending = λ k. false }

-- row k itself, in a cycle with these activators
abbrev pub row_state : (ℕ → Bool) → State Bool → ℕ → RowState
row_state act s k = record { active = act k; pending = s.pending k }

-- a cycle with these activators and signals, from this state
module _ (t : Table) (act signals : ℕ → Bool) (s : State Bool) where
  -- what row k's monitor says
  abbrev pub output_from : ℕ → Output
  output_from k = monitor act signals (t k) (row_state act s k)

  -- the state that the cycle leaves
  abbrev pub next_state : State Bool
  next_state = record { pending = λ k. (output_from k).pending }
