-- One search finds the words' equations: they stand one by one here so that an edit shows its fact.
use Prim.Native.Nat.{◌-◌, ◌^◌}
use mathlib.Core.Bool.{not, ◌&&◌}
use native.Mathlib.Omega.{arith}
use lib.Bits.{bit_and}
use Rattle.lanes.proofs.Words.{word_and_not}
use Rattle.lanes.proofs.LaneWords.{each_word, lane_pointwise}
use Rattle.lanes.proofs.lane.without.Goals as goal

pub returns : goal.returns
returns c =
    let w = c.word_by_word.ensures.words in
    record {
      lane = lane_pointwise (λ x y. bit_and x (2 ^ 64 - 1 - y)) (λ x y. x && not y) word_and_not c.args.a c.args.b c.word_by_word.result (
        w.0,
        each_word _
            (omega (arith, w.1 0 (omega arith)))
            (omega (arith, w.1 1 (omega arith)))
            (omega (arith, w.1 2 (omega arith)))
            (omega (arith, w.1 3 (omega arith))),
      );
    }
