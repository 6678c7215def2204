use native.Mathlib.Omega.{arith}
use Prim.Native.Nat.{◌<◌}
use borrow.Author.Rules.{rules}
use Rattle.line_writer.proofs.Lines.{put_all, put_none}
use Rattle.circuit_writer.proofs.Sections.{said_blocks, said_more}
use Rattle.circuit_writer.proofs.Small.{read_small, said_small}
use Rattle.circuit_writer.proofs.section.put_said.Goals as goal

pub loop-k-init : goal.loop-k-init
loop-k-init g c = record { text = λ x says. put_none; room = omega arith }

pub put_numbers-end-requires : goal.put_numbers-end-requires
put_numbers-end-requires g c =
    let s = said_small (read_small c.args.form.now c.requires.fits.0 {k = c.loop-k.k} (omega arith) c.wiring_of-wiring.ensures.answer) (c.requires.one _ _ c.said.ensures) in
    let said : c.said.result < 100000 = omega (arith, s) in
    (omega arith, omega (arith, c.loop-k.invariant.room), search rules)

pub loop-k-preserved : goal.loop-k-preserved
loop-k-preserved g c = record {
  text = λ x says. said_more c.args.form.now x (omega arith) c.wiring_of-wiring.ensures.answer (says _ _ c.said.ensures) (c.loop-k.invariant.text x says)
      c.put_numbers-end.ensures.text c.put_numbers-end.ensures.room;
  room = omega (arith, c.loop-k.invariant.room, c.put_numbers-end.ensures.room);
}

pub returns-clause-text : goal.returns-clause-text
returns-clause-text g c = λ x says. put_all (c.loop-k.invariant.text x says) (omega arith) (omega arith) (said_blocks c.args.form.now x)
