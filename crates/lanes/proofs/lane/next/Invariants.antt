use Rattle.std.proofs.Common.{◌≡◌, Bool, false, ℕ, suc, length}
use Rattle.tables.specs.Bit.{lane_of}
use Rattle.lanes.proofs.LaneWords.{MadeFrom}
use Rattle.lanes.proofs.lane.next.Given as goal

abbrev pub invariant-loop-i : goal.invariant-loop-i
invariant-loop-i l = (length l.words ≡ 4)
    × ((f : ℕ → Bool) → f 256 ≡ false → l.fn.lane ≡ lane_of f → MadeFrom (λ c. f (suc c)) f l.i l.words l.behind)
