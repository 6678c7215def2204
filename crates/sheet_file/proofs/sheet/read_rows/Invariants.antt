use Prim.Native.Nat.{◌-◌}
use mathlib.Core.Path.{◌≡◌}
use lib.ListN.{length}
use Rattle.sheet_file.proofs.Reading.{RowsAt}
use Rattle.sheet_file.proofs.sheet.read_rows.Given as goal

abbrev pub invariant-loop-k : goal.invariant-loop-k
invariant-loop-k l = RowsAt l.rows l.cycles l.body l.k l.lanes l.rest × (length l.lanes ≡ 128)

abbrev pub decreases-loop-k : goal.decreases-loop-k
decreases-loop-k l = l.rows - l.k
