-- The used rows of a table: 01's "unused places are not written". Assumes nothing.
use Rattle.std.specs.Prelude.{ℕ, List, map, take}
use Rattle.tables.specs.declared.row.Row.{Row}
use Rattle.tables.specs.declared.row.RowPlace.{RowPlace}

abbrev pub used_rows : ℕ → List RowPlace → List Row
used_rows rows places = map (λ (p : RowPlace). p.row) (take rows places)
