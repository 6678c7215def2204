-- What writing a trace answers, and what it leaves in the lent buffer. Assumes nothing.
use Rattle.std.specs.Prelude.{ℕ, List}
use Rattle.tables.specs.Refusal.{on_outcome}
use Rattle.tables.specs.declared.trace.Trace.{Trace}
use Rattle.take_file.specs.Outcome.{take_outcome}
use Rattle.take_file.specs.Written.{written_take}
use Rattle.writing.specs.Answer.{written_answer}
use Rattle.writing.specs.Lent.{overlaid}
use Rattle.writing.specs.declared.answer.Bytes.{Bytes}
use Rattle.writing.specs.declared.answer.Bytes.TheVariants.{Refused}

-- the first refusal, the table's own before 10; or the file's length
abbrev pub take_written : Trace → List ℕ → Bytes
take_written t buf = on_outcome (take_outcome t) Refused (written_answer (written_take t) buf)

-- a refusal leaves every byte
abbrev pub take_left : Trace → List ℕ → List ℕ
take_left t buf = on_outcome (take_outcome t) (λ r. buf) (overlaid (written_take t) buf)
