-- What writing a formula answers, and what it leaves in the lent buffer. Assumes nothing.
use Rattle.std.specs.Prelude.{ℕ, List}
use Rattle.tables.specs.Refusal.{on_outcome}
use Rattle.tables.specs.declared.row.Formula.{Formula}
use Rattle.rule_file.specs.Outcome.{rule_outcome}
use Rattle.rule_file.specs.Written.{written_rule}
use Rattle.writing.specs.Answer.{written_answer}
use Rattle.writing.specs.Lent.{overlaid}
use Rattle.writing.specs.declared.answer.Bytes.{Bytes}
use Rattle.writing.specs.declared.answer.Bytes.TheVariants.{Refused}

-- the first refusal, the table's own before 10; or the file's length
abbrev pub rule_written : Formula → List ℕ → Bytes
rule_written f buf = on_outcome (rule_outcome f) Refused (written_answer (written_rule f) buf)

-- a refusal leaves every byte
abbrev pub rule_left : Formula → List ℕ → List ℕ
rule_left f buf = on_outcome (rule_outcome f) (λ r. buf) (overlaid (written_rule f) buf)
