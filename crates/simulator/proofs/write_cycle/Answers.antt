use native.Mathlib.Omega.{arith}
use lib.ListN.{length-replicate, get_or-replicate}
use mathlib.Core.Bool.{false}
use Rattle.circuit_file.specs.OfFile.{table_with}
use Rattle.simulator.proofs.Files.{outputs_spread, outputs_within, nexts_spread, nexts_within}
use Rattle.simulator.proofs.Cycle.{room_behind, with_room, no_room}
use Rattle.simulator.proofs.write_cycle.Goals as goal

pub returns-then-buf-header : goal.returns-then-buf-header
returns-then-buf-header c = record {
  prints = let t = table_with c.args.header c.args.numbers.now in
      no_room t c.args.inputs.now c.args.latches.now c.requires.of_file (omega (arith, c.if-buf-header.true)) c.too_short.ensures.answer;
}

pub evaluate-requires : goal.evaluate-requires
evaluate-requires c = record { of_file = c.requires.of_file; digits = c.requires.digits; none_on = (length-replicate 32770 false, get_or-replicate 32770 0 false false (omega arith)) }

pub put_values-end-requires : goal.put_values-end-requires
put_values-end-requires c = let t = table_with c.args.header c.args.numbers.now in record { room = (outputs_spread t c.requires.of_file, omega (arith, c.if-buf-header.false)); literals_within = outputs_within t c.requires.of_file _ c.evaluate.ensures.size }

pub put_values-total-requires : goal.put_values-total-requires
put_values-total-requires c = let t = table_with c.args.header c.args.numbers.now in record { room = (nexts_spread t c.requires.of_file, room_behind t c.evaluate.new.values (omega (arith, c.if-buf-header.false)) c.put_values-end.ensures.text); literals_within = nexts_within t c.requires.of_file _ c.evaluate.ensures.size }

pub returns : goal.returns
returns c = record {
  prints = let t = table_with c.args.header c.args.numbers.now in
      with_room t c.args.inputs.now c.args.latches.now c.evaluate.new.values c.if-buf-header.false c.evaluate.ensures.values c.put_values-end.ensures.text c.put_values-total.ensures.text;
}
