use lib.ListN.{length-set}
use native.Mathlib.Omega.{arith}
use Rattle.step.proofs.Outputs.{row_within, written_more, written_all}
use borrow.Author.Rules.{rules}
use Rattle.step.proofs.put_outputs.Goals as goal

pub row_output-output-requires : goal.row_output-output-requires
row_output-output-requires c = let both = row_within c.args.form c.args.given.now c.args.activators.now c.args.signals.now c.requires.1 c.requires.0 (search rules) in record { each = both.0; each_signal = both.1 }

pub bounds-buf-rows : goal.bounds-buf-rows
bounds-buf-rows c =
    simp length-set (omega (arith, c.loop-k.invariant.1.size, c.requires.1.enough))

pub bounds-buf-rows-in-loop-k : goal.bounds-buf-rows-in-loop-k
bounds-buf-rows-in-loop-k c =
    simp length-set (omega (arith, c.loop-k.invariant.1.size, c.requires.1.enough))

pub loop-k-preserved : goal.loop-k-preserved
loop-k-preserved c = (
  omega arith,
  written_more c.args.form c.args.given.now c.args.activators.now c.args.signals.now c.requires.1.enough c.loop-k.invariant.1 (omega arith)
      c.is_on.ensures.answer c.is_on-in-loop-k.ensures.answer c.row_output-output.ensures.answer c.digit.ensures.answer c.digit-in-loop-k.ensures.answer c.digit-in-loop-k-2.ensures.answer,
)

pub returns : goal.returns
returns c = record { left = written_all c.args.form c.args.given.now c.args.activators.now c.args.signals.now c.requires.1.enough c.loop-k.invariant.1 (omega arith) }
