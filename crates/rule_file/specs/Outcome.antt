-- What a formula in memory is told. Assumes nothing.
use Rattle.tables.specs.declared.refusal.Outcome.{Outcome}
use Rattle.tables.specs.declared.row.Formula.{Formula}
use Rattle.text.specs.Result.{outcome_of}
use Rattle.rule_file.specs.Rule.{parse_rule}
use Rattle.rule_file.specs.Written.{written_rule}

-- "A table handed to a service is checked as if written out as its file, with that file's refusals and lines"
abbrev pub rule_outcome : Formula → Outcome
rule_outcome f = outcome_of 1 (parse_rule (written_rule f))
