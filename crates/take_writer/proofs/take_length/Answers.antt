use Prim.Native.Nat.{◌+◌}
use mathlib.Core.Path.{◌≡◌}
use native.Mathlib.Nat.{mul-le-mul_right}
use native.Mathlib.Omega.{arith}
use lib.ListN.{length}
use borrow.Author.Rules.{rules}
use Rattle.take_writer.proofs.Lengths.{ending_small, ending_short, body_length, file_length}
use Rattle.take_writer.proofs.take_length.Goals as goal

pub ending_length-requires : goal.ending_length-requires
ending_length-requires c =
    ending_small c.args.trace.ending c.args.trace.cycles 1000 (omega (arith, c.requires.most_cycles)) c.requires.loop

pub overflow_add-header-3 : goal.overflow_add-header-3
overflow_add-header-3 c =
    omega (arith, c.ending_length.ensures.length, c.number_length.ensures.length.1, c.number_length-2.ensures.length.1, ending_short c.args.trace.ending)

pub overflow_add-result : goal.overflow_add-result
overflow_add-result c =
    let p = mul-le-mul_right (c.args.trace.signals + 4) c.requires.most_cycles in
    omega (arith, c.cycles_length.ensures.length, c.ending_length.ensures.length, c.number_length.ensures.length.1, c.number_length-2.ensures.length.1, ending_short c.args.trace.ending, c.requires.most_signals)

pub returns : goal.returns
returns c = record {
  length = let full : length c.args.trace.lanes ≡ 32 = search rules in
      let b = body_length c.args.trace full c.requires in
      omega (arith, file_length c.args.trace full c.requires, c.cycles_length.ensures.length, c.number_length-2.ensures.length.0);
}
