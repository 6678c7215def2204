use Prim.Native.Nat.{◌-◌, ◌≤◌}
use mathlib.Core.Path.{◌≡◌}
use lib.ListN.{get_or}
use Rattle.tables.specs.declared.run.Run.{Run}
use Rattle.run_bytes.specs.Bytes.{Fits, run_bytes, filled}
use Rattle.run_bytes.proofs.words_in.Given as goal

abbrev pub invariant-loop-i : goal.invariant-loop-i
invariant-loop-i l = (l.i ≤ 128) × ((run : Run) → Fits run → l.bytes ≡ run_bytes run → l.words ≡ filled 128 0 (λ k. get_or run.words k 0) l.i)

abbrev pub decreases-loop-i : goal.decreases-loop-i
decreases-loop-i l = 128 - l.i
