use mathlib.Core.Path.{◌≡◌}
use lib.Seq.{paste}
use Rattle.writing.proofs.put.put.Given as goal

abbrev pub invariant-loop-i : goal.invariant-loop-i
invariant-loop-i l = l.buf ≡ paste l.initial.buf l.at l.text l.i
