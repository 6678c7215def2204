use Prim.Native.Nat.{◌+◌, ◌≤◌, ◌<◌}
use mathlib.Core.Path.{sym, ap, ◌∙◌}
use Rattle.std.specs.Prelude.{Ok}
use borrow.Author.Rules.{rules}
use Rattle.tables.specs.declared.trace.Ending.TheVariants.{Loop}
use Rattle.written_out.proofs.Whole.{loop_whole, loop_too_long}
use Rattle.written_out.proofs.loop_out.Goals as goal

pub returns-then-trace-more-gt256 : goal.returns-then-trace-more-gt256
returns-then-trace-more-gt256 c = record {
  answer = let h : 256 < c.args.trace.cycles + c.args.more = search rules in
      sym (loop_too_long c.args.trace c.args.start c.args.more h);
}

pub returns : goal.returns
returns c = record {
  answer = let h : c.args.trace.cycles + c.args.more ≤ 256 = search rules in
      ap (λ ls. Ok (record {
        signals = c.args.trace.signals;
        cycles = c.args.trace.cycles + c.args.more;
        ending = Loop (c.args.start + c.args.more);
        lanes = ls;
      }))
      c.lanes_out-lanes.ensures.answer
      ∙ sym (loop_whole c.args.trace c.args.start c.args.more h);
}
