use Prim.Native.Nat.{◌+◌, ◌*◌, ◌-◌, ◌≤◌}
use mathlib.Core.Path.{◌≡◌}
use Rattle.tables.specs.declared.run.Run.{Run}
use Rattle.run_bytes.specs.Bytes.{byte_of, filled, run_length}
use Rattle.run_bytes.proofs.put_rows.Given as goal

abbrev pub invariant-loop-k : goal.invariant-loop-k
invariant-loop-k l = (l.k ≤ 64) × ((run : Run) → run.formula.places ≡ l.places → l.initial.bytes ≡ filled run_length 0 (byte_of run) 1024 → l.bytes ≡ filled run_length 0 (byte_of run) (1024 + 3 * l.k))

abbrev pub decreases-loop-k : goal.decreases-loop-k
decreases-loop-k l = 64 - l.k
