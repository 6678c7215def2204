-- Which activation tables can be written, and which of these are as they are read. Assumes nothing.
use Rattle.std.specs.Prelude.{◌≤◌, [], ◌≡◌}
use Rattle.tables.specs.Place.{placed}
use Rattle.tables.specs.declared.trace.Activation.{Activation}
use Rattle.sheet_file.specs.Sheet.{row_lane}
use Rattle.sheet_file.specs.Written.{rows_of}

-- "`rows=` (1 to 128, those of the normal form), `cycles=` (1 to 256)"
pub record InRange (a : Activation) : Type 0 where
  pub some_rows : 1 ≤ a.rows
  pub most_rows : a.rows ≤ 128
  pub some_cycles : 1 ≤ a.cycles
  pub most_cycles : a.cycles ≤ 256

-- in range, and its lanes are those of its rows: every bit that is not used is 0
pub record Valid (a : Activation) : Type 0 where
  pub range : InRange a
  pub unused : a.lanes ≡ placed 128 row_lane [] (rows_of a)
