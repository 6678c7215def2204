-- How a cycle lies in memory: 32 cells for its signals, 128 for its rows. Assumes nothing.
use Rattle.std.specs.Prelude.{ℕ, ◌+◌, ◌-◌, ◌≤◌, ◌<◌, ◌≡◌, Bool, false, List, get_or, length}
use Rattle.tables.specs.declared.row.NormalForm.{NormalForm}
use Rattle.cycle_rows.specs.Cycle.{CycleFrom, Given}

-- signals and rows by their numbers, which count from 1
abbrev pub signal_cell : List Bool → ℕ → Bool
signal_cell cells s = get_or cells (s - 1) false

abbrev pub row_cell : List Bool → ℕ → Bool
row_cell cells k = get_or cells (31 + k) false

-- the numbers that have a cell
abbrev pub IsSignalNumber : ℕ → Type 0
IsSignalNumber s = (1 ≤ s) × (s ≤ 32)

abbrev pub IsRowNumber : ℕ → Type 0
IsRowNumber k = (1 ≤ k) × (k ≤ 128)

-- what a cycle is given, in its cells
abbrev pub given_in : List Bool → Given
given_in cells = record { signals = signal_cell cells }

-- a cycle filled in place: before it the cells hold its signals and the rows one cycle on, behind it its signals and its rows
pub record FilledIn (g : NormalForm) (before after : List Bool) : Type 0 where
  pub size : length after ≡ length before
  pub rows : CycleFrom g (given_in before) (row_cell before) (row_cell after)
  pub signals : (j : ℕ) → j < 32 → get_or after j false ≡ get_or before j false
  pub behind : (j : ℕ) → 32 + g.rows ≤ j → get_or after j false ≡ get_or before j false
