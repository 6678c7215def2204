use Prim.Native.Nat.{◌<◌}
use borrow.Author.Rules.{rules}
use Rattle.run_bytes.proofs.Reading.{same_start, same_differ, same_more, same_end}
use Rattle.run_bytes.proofs.same.Goals as goal
use Rattle.run_bytes.proofs.same.Goals.{then-again-i, else-again-i}

pub loop-i-init : goal.loop-i-init
loop-i-init c = same_start

pub loop-i-preserved : goal.loop-i-preserved
loop-i-preserved c =
    let h : c.loop-i.i < 1220 = search rules in
    elim c.if-again-i.branch [
      | then-again-i w ↦ rw w.all-is (same_differ c.loop-i.invariant h w.if-again-i.true)
      | else-again-i w ↦ rw w.all-is (same_more c.loop-i.invariant h w.if-again-i.false)
    ]

pub returns : goal.returns
returns c = record { answer = same_end c.loop-i.invariant c.requires.0 c.requires.1 (search rules) }
