use native.Mathlib.Omega.{arith}
use Rattle.line_writer.proofs.Lines.{put_all, put_none}
use Rattle.circuit_writer.proofs.Sections.{gate_blocks, gate_more}
use Rattle.circuit_writer.proofs.Small.{line_small, read_small, third_small}
use Rattle.circuit_writer.proofs.section.put_gates.Goals as goal

pub loop-k-init : goal.loop-k-init
loop-k-init c = put_none

pub put_numbers-a-requires : goal.put_numbers-a-requires
put_numbers-a-requires c =
    let s = read_small c.args.form c.requires.0 {k = c.loop-k.k} (omega arith) c.wiring_of-wiring.ensures.answer in
    (omega arith, omega (arith, c.loop-k.invariant.within, c.loop-k.invariant.text.size), line_small c.own_of-own.ensures.small.first_small s.small_first)

pub put_numbers-b-requires : goal.put_numbers-b-requires
put_numbers-b-requires c =
    let s = read_small c.args.form c.requires.0 {k = c.loop-k.k} (omega arith) c.wiring_of-wiring.ensures.answer in
    (omega arith, omega (arith, c.loop-k.invariant.within, c.loop-k.invariant.text.size, c.put_numbers-a.ensures.text.size, c.put_numbers-a.ensures.room), line_small c.own_of-own.ensures.small.second_small s.small_second)

pub put_numbers-end-requires : goal.put_numbers-end-requires
put_numbers-end-requires c =
    let s = read_small c.args.form c.requires.0 {k = c.loop-k.k} (omega arith) c.wiring_of-wiring.ensures.answer in
    (omega arith, omega (arith, c.loop-k.invariant.within, c.loop-k.invariant.text.size, c.put_numbers-a.ensures.text.size, c.put_numbers-a.ensures.room, c.put_numbers-b.ensures.text.size, c.put_numbers-b.ensures.room), line_small (omega (arith, third_small c.args.form c.requires.0 {k = c.loop-k.k} (omega arith) c.own_of-own.ensures.answer)) s.small_third)

pub loop-k-preserved : goal.loop-k-preserved
loop-k-preserved c =
    gate_more c.args.form c.loop-k.k (omega arith) c.own_of-own.ensures.answer c.wiring_of-wiring.ensures.answer c.loop-k.invariant
    c.put_numbers-a.ensures.text c.put_numbers-a.ensures.room c.put_numbers-b.ensures.text c.put_numbers-b.ensures.room
    c.put_numbers-end.ensures.text c.put_numbers-end.ensures.room

pub returns-clause-text : goal.returns-clause-text
returns-clause-text c = put_all c.loop-k.invariant (omega arith) (omega arith) (gate_blocks c.args.form)
