use native.Mathlib.Omega.{arith}
use Prim.Native.Nat.{◌<◌}
use borrow.Author.Rules.{rules}
use Rattle.std.proofs.lemmas.List.Elements.{All-cons, All-nil}
use Rattle.line_writer.proofs.Lines.{put_all, put_none}
use Rattle.circuit_writer.proofs.Sections.{latch_blocks, latch_more}
use Rattle.circuit_writer.proofs.Small.{read_small}
use Rattle.circuit_writer.proofs.section.put_latches.Goals as goal

pub loop-k-init : goal.loop-k-init
loop-k-init c = put_none

pub put_numbers-end-requires : goal.put_numbers-end-requires
put_numbers-end-requires c =
    let s = (read_small c.args.form c.requires.0 {k = c.loop-k.k} (omega arith) c.wiring_of-wiring.ensures.answer).small_pending in
    let pending : c.wiring_of-wiring.result.pending < 100000 = omega (arith, s) in
    (omega arith, omega (arith, c.loop-k.invariant.within, c.loop-k.invariant.text.size), search (rules, All-cons, All-nil))

pub loop-k-preserved : goal.loop-k-preserved
loop-k-preserved c = latch_more c.args.form c.loop-k.k (omega arith) c.own_of-own.ensures.answer c.wiring_of-wiring.ensures.answer c.loop-k.invariant c.put_numbers-end.ensures.text c.put_numbers-end.ensures.room

pub returns-clause-text : goal.returns-clause-text
returns-clause-text c = put_all c.loop-k.invariant (omega arith) (omega arith) (latch_blocks c.args.form)
