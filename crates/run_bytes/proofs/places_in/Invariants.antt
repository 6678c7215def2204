use Prim.Native.Nat.{◌-◌, ◌≤◌}
use mathlib.Core.Path.{◌≡◌}
use lib.ListN.{get_or}
use Rattle.tables.specs.declared.run.Run.{Run}
use Rattle.run_bytes.specs.Bytes.{Fits, run_bytes, filled, no_place}
use Rattle.run_bytes.proofs.places_in.Given as goal

abbrev pub invariant-loop-k : goal.invariant-loop-k
invariant-loop-k l = (l.k ≤ 64) × ((run : Run) → Fits run → l.bytes ≡ run_bytes run → l.places ≡ filled 64 no_place (λ k. get_or run.formula.places k no_place) l.k)

abbrev pub decreases-loop-k : goal.decreases-loop-k
decreases-loop-k l = 64 - l.k
