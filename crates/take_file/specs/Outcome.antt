-- What a trace in memory is told. Assumes nothing.
use Rattle.tables.specs.declared.refusal.Outcome.{Outcome}
use Rattle.tables.specs.declared.trace.Trace.{Trace}
use Rattle.text.specs.Result.{outcome_of}
use Rattle.take_file.specs.Take.{parse_take}
use Rattle.take_file.specs.Written.{written_take}

-- "A table handed to a service is checked as if written out as its file, with that file's refusals and lines"
abbrev pub take_outcome : Trace → Outcome
take_outcome t = outcome_of 2 (parse_take (written_take t))
