-- What the writer of circuits answers, and what it leaves in the lent buffer. Assumes nothing.
use Rattle.std.specs.Prelude.{ℕ, List}
use Rattle.tables.specs.Refusal.{on_outcome}
use Rattle.tables.specs.declared.row.Formula.{Formula}
use Rattle.rule_file.specs.Outcome.{rule_outcome}
use Rattle.writing.specs.Answer.{written_answer}
use Rattle.writing.specs.Lent.{overlaid}
use Rattle.writing.specs.declared.answer.Bytes.{Bytes}
use Rattle.writing.specs.declared.answer.Bytes.TheVariants.{Refused}
use Rattle.circuit_file.specs.Written.{written_circuit}
use Rattle.monitor_circuit.specs.Steps.{rule_circuit}

-- the output: "Write them as an ASCII AIGER file", "them" being the rule's monitors
abbrev pub circuit_text : Formula → List ℕ
circuit_text f = written_circuit (rule_circuit f)

-- the output's length, or the first refusal: the rule's own, then 10
abbrev pub writer_answer : Formula → List ℕ → Bytes
writer_answer f buf = on_outcome (rule_outcome f) Refused (written_answer (circuit_text f) buf)

-- a refusal leaves every byte
abbrev pub writer_left : Formula → List ℕ → List ℕ
writer_left f buf = on_outcome (rule_outcome f) (λ r. buf) (overlaid (circuit_text f) buf)
