-- What the services on the normal form answer, and what they leave in the lent buffer. Assumes nothing.
use Rattle.std.specs.Prelude.{ℕ, ◌+◌, ◌*◌, List}
use Rattle.tables.specs.Refusal.{on_outcome}
use Rattle.tables.specs.declared.row.Formula.{Formula}
use Rattle.rule_file.specs.Outcome.{rule_outcome}
use Rattle.normal_form.specs.declared.sign.Sign.{Sign}
use Rattle.normal_form.specs.Numbering.{normal_form}
use Rattle.writing.specs.Answer.{written_answer}
use Rattle.writing.specs.Lent.{overlaid}
use Rattle.row_writer.specs.Normal.{written_normal}
use Rattle.writing.specs.declared.answer.Bytes.{Bytes}
use Rattle.writing.specs.declared.answer.Bytes.TheVariants.{Count, Refused as BytesRefused}

-- the output: the rule file of the normal form
abbrev pub output : Formula → Sign → List ℕ
output f s = written_normal (normal_form f s)

-- the output's length, or the first refusal
abbrev pub normal_answer : Formula → Sign → List ℕ → Bytes
normal_answer f s buf = on_outcome (rule_outcome f) BytesRefused (written_answer (output f s) buf)

-- a refusal leaves every byte
abbrev pub normal_left : Formula → Sign → List ℕ → List ℕ
normal_left f s buf = on_outcome (rule_outcome f) (λ r. buf) (overlaid (output f s) buf)

-- "The bound service answers 29 + 44 × n bytes for a rule of n rows"
abbrev pub bound_of : Formula → ℕ
bound_of f = 29 + 44 * f.rows

abbrev pub bound_answer : Formula → Bytes
bound_answer f = on_outcome (rule_outcome f) BytesRefused (Count (bound_of f))
