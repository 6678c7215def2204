use Rattle.run.proofs.Services.{tested, untested, no_run, no_cycle, in_range_lem, judged}
use borrow.Author.Rules.{rules}
use Rattle.run.proofs.judge_so_far.Goals as goal

pub returns-then-not-is_led : goal.returns-then-not-is_led
returns-then-not-is_led c = record { told = no_run c.args.run (untested c.args.run c.is_led.ensures.exactly c.if-not-is_led.true-raw) c.out_of_range.ensures.answer }

pub returns-then-run-lt1 : goal.returns-then-run-lt1
returns-then-run-lt1 c = record { told = no_cycle c.args.run (tested c.args.run c.is_led.ensures.exactly c.if-not-is_led.false-raw) (search rules) c.out_of_range-then-run-lt1.ensures.answer }

pub judge_met-requires : goal.judge_met-requires
judge_met-requires c = in_range_lem c.args.run (tested c.args.run c.is_led.ensures.exactly c.if-not-is_led.false-raw) (search rules) c.trace_so_far-trace.ensures.trace

pub returns : goal.returns
returns c = record { told = judged c.args.run (tested c.args.run c.is_led.ensures.exactly c.if-not-is_led.false-raw) (search rules) c.trace_so_far-trace.ensures.trace c.judge_met.ensures.answer }
