use Prim.Native.Nat.{◌*◌, ◌-◌, ◌≤◌}
use mathlib.Core.Path.{◌≡◌}
use Rattle.run_bytes.specs.Bytes.{byte_of, filled, run_length}
use Rattle.run_bytes.proofs.put_words.Given as goal

abbrev pub invariant-loop-i : goal.invariant-loop-i
invariant-loop-i l = (l.i ≤ 128) × (l.initial.bytes ≡ filled run_length 0 (byte_of l.run) 0 → l.bytes ≡ filled run_length 0 (byte_of l.run) (8 * l.i))

abbrev pub decreases-loop-i : goal.decreases-loop-i
decreases-loop-i l = 128 - l.i
