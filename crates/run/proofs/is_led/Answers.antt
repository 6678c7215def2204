use Rattle.run.proofs.Services.{rule_not_read, too_many, few_signals, by_words}
use borrow.Author.Rules.{rules}
use Rattle.run.proofs.is_led.Goals as goal

pub returns-then-not-is_read : goal.returns-then-not-is_read
returns-then-not-is_read c = record { exactly = rule_not_read c.args.run c.is_read.ensures.exactly c.if-not-is_read.true-raw }

pub returns-then-run-gt256 : goal.returns-then-run-gt256
returns-then-run-gt256 c = record { exactly = too_many c.args.run (search rules) }

pub is_recording-requires : goal.is_recording-requires
is_recording-requires c = (few_signals c.args.run c.is_read.ensures.exactly c.if-not-is_read.false-raw, search rules)

pub returns : goal.returns
returns c = record { exactly = by_words c.args.run c.is_read.ensures.exactly c.if-not-is_read.false-raw (search rules) c.is_recording.ensures.exactly }
