use mathlib.Core.Path.{◌≡◌}
use Prim.Native.Nat.{◌+◌, ◌*◌, ◌≤◌}
use lib.ListN.{length}
use Rattle.text.specs.Written.{decimal}
use Rattle.sheet_maker.specs.Length.{rows_length}
use Rattle.sheet_maker.proofs.sheet.sheet_length.Given as goal

abbrev pub invariant-loop-k : goal.invariant-loop-k
invariant-loop-k l = (l.n ≡ 23 + length (decimal l.rows) + length (decimal l.cycles) + rows_length l.cycles l.k) × (l.n ≤ 33 + 264 * l.k)
