use Rattle.run.proofs.Services.{tested, untested, strayed, stays, more_room, goes_on}
use Rattle.run.proofs.take_cycle.Goals as goal

pub returns-then-not-is_led : goal.returns-then-not-is_led
returns-then-not-is_led c = record { answer = strayed c.args.run c.args.digits.now (untested c.args.run c.is_led.ensures.exactly c.if-not-is_led.true-raw) c.call_refused-outcome.ensures.answer }

pub one_more-after-requires : goal.one_more-after-requires
one_more-after-requires c = more_room c.args.run c.args.digits.now (tested c.args.run c.is_led.ensures.exactly c.if-not-is_led.false-raw) c.check_cycle-outcome.ensures.outcome c.in-Accepted.is

pub returns-in-Refused : goal.returns-in-Refused
returns-in-Refused c = record { answer = stays c.args.run c.args.digits.now (tested c.args.run c.is_led.ensures.exactly c.if-not-is_led.false-raw) c.check_cycle-outcome.ensures.outcome _ c.in-Refused.is }

pub returns-in-Accepted : goal.returns-in-Accepted
returns-in-Accepted c = record { answer = goes_on c.args.run c.args.digits.now (tested c.args.run c.is_led.ensures.exactly c.if-not-is_led.false-raw) c.check_cycle-outcome.ensures.outcome c.in-Accepted.is c.one_more-after.ensures.more }
