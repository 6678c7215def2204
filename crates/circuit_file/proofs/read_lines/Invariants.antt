use Prim.Native.Nat.{◌-◌, ◌≤◌}
use mathlib.Core.Path.{◌≡◌}
use lib.ListN.{length}
use Rattle.circuit_file.specs.File.{lines_in}
use Rattle.circuit_file.proofs.Reading.{LinesAt}
use Rattle.circuit_file.proofs.read_lines.Given as goal

abbrev pub invariant-loop-k : goal.invariant-loop-k
invariant-loop-k l = LinesAt l.header l.body l.k l.numbers l.used l.taken l.rest × (length l.numbers ≡ 32770) × (length l.taken ≡ 50000) × (l.used ≤ 32768)

abbrev pub decreases-loop-k : goal.decreases-loop-k
decreases-loop-k l = lines_in l.header - l.k
