use mathlib.Core.Path.{◌≡◌, ap}
use native.Mathlib.Omega.{arith}
use lib.ListN.{length}
use borrow.Author.Rules.{rules}
use Rattle.text.specs.Written.{digits_text, written_body}
use Rattle.writing.proofs.Texts.{wrote_none, wrote_both, wrote_is}
use Rattle.take_writer.proofs.Cycles.{cycle_next, cycle_within, cycles_all}
use Rattle.take_writer.proofs.cycle.put_cycles.Goals as goal

pub loop-c-init : goal.loop-c-init
unfolding written_body
loop-c-init c = wrote_none c.args.buf.now c.args.at

pub put_cycle-end-requires : goal.put_cycle-end-requires
put_cycle-end-requires c =
    let full : length c.args.trace.lanes ≡ 32 = search rules in
    let within = cycle_within c.args.trace full c.requires.0 c.loop-c.c (omega arith) in
    (c.requires.0, omega (arith, c.requires.0.most_cycles), omega (arith, c.loop-c.invariant.next, c.loop-c.invariant.size))

pub loop-c-preserved : goal.loop-c-preserved
loop-c-preserved c =
    let full : length c.args.trace.lanes ≡ 32 = search rules in
    wrote_is (cycle_next c.args.trace full c.requires.0 c.loop-c.c (omega arith)) (wrote_both c.loop-c.invariant c.put_cycle-end.ensures.text)

pub returns : goal.returns
returns c = record {
  text = let full : length c.args.trace.lanes ≡ 32 = search rules in
      wrote_is (ap (written_body 99 digits_text 0) (cycles_all c.args.trace full c.requires.0 c.loop-c.c (omega arith))) c.loop-c.invariant;
}
