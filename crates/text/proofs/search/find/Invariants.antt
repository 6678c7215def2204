use lib.Dec.{eqb}
use Prim.Native.Nat.{ℕ}
use Rattle.text.proofs.Searching.{FirstAt}
use Prim.Native.Nat.{◌-◌}
use lib.ListN.{length}
use Rattle.text.proofs.search.find.Given as goal

abbrev pub invariant-loop-i : goal.invariant-loop-i
invariant-loop-i l = FirstAt (λ (x : ℕ). eqb x l.b) l.s l.i

abbrev pub decreases-loop-i : goal.decreases-loop-i
decreases-loop-i l = length l.s - l.i
